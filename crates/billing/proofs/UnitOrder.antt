-- "The result gives each unit in order of its lowest person": where persons rise from line to line, a block that is met for the first time has nobody
-- lower than this line's person, else that person's line, with the same block, came earlier.
use mathlib.Core.Path.{◌≡◌, refl, sym, ap, ◌∙◌, subst}
use mathlib.Core.Bool.{Bool, true, false, ◌||◌, cond, true≢false}
use mathlib.Core.List.{List, [], ◌∷◌, ◌++◌}
use mathlib.Core.Logic.{◌≢◌, ⊎_elim}
use Prim.Native.Nat.{ℕ, zero, suc, ◌^◌, ◌≤◌, ◌<◌}
use native.Mathlib.Nat.{not-suc-le-zero, le_refl}
use native.Mathlib.Omega.{arith}
use lib.ListN.{length, get_or, length-append}
use lib.Seq.{get_or-append_seam}
use lib.Dec.{eqb}
use borrow.Author.Tests.{eqb-false}
use Rattle.sets.specs.paper.Sets.{has, lowest, any_of}
use Rattle.sets.proofs.SetLaws.{lt_or_le, trailing_member, trailing_least}
use Rattle.records.proofs.ListLaws.{get_or_stay}
use Rattle.report.specs.paper.Line.{Line}
use Rattle.report.specs.paper.LineAt.{line_at, decoded, lines_from}
use Rattle.report.specs.paper.Units.{join_unit, units_with, units}
use Rattle.billing.proofs.LinePlaces.{lines-last, unit_line, line_unit}

lowest_le : (m p : ℕ) → has m p ≡ true → lowest m ≤ p
unfolding lowest
lowest_le m p h = ⊎_elim (λ l. absurd (true≢false (sym h ∙ trailing_least 64 m p l))) (λ l. l) (lt_or_le p (lowest m))

-- ---- a list of masks that rises by their lowest persons

abbrev Rising : List ℕ → Type 0
Rising us = (i j : ℕ) → i < j → j < length us → lowest (get_or us i 0) < lowest (get_or us j 0)

-- the lowest person of every mask of a list is below the lowest of b
abbrev Under : List ℕ → ℕ → Type 0
Under us b = (i : ℕ) → i < length us → lowest (get_or us i 0) < lowest b

rising-last : (us : List ℕ) (b : ℕ) → Rising us → Under us b → Rising (us ++ (b ∷ []))
rising-last us b h u i j l m = ⊎_elim before last (lt_or_le j (length us))
  where
    e : (k : ℕ) → k < length us → lowest (get_or (us ++ (b ∷ [])) k 0) ≡ lowest (get_or us k 0)
    e k t = ap lowest (get_or_stay us (b ∷ []) (length us) k 0 refl t)

    before : j < length us → lowest (get_or (us ++ (b ∷ [])) i 0) < lowest (get_or (us ++ (b ∷ [])) j 0)
    before t =
        let a = e i (omega arith) in
        let c = e j t in
        let r = h i j l t in
        omega arith

    last : length us ≤ j → lowest (get_or (us ++ (b ∷ [])) i 0) < lowest (get_or (us ++ (b ∷ [])) j 0)
    last t =
        let n = length-append us (b ∷ []) in
        let a = e i (omega arith) in
        let p : j ≡ length us = omega arith in
        let c : lowest (get_or (us ++ (b ∷ [])) j 0) ≡ lowest b = ap (λ (k : ℕ). lowest (get_or (us ++ (b ∷ [])) k 0)) p ∙ ap lowest (get_or-append_seam us b [] 0) in
        let r = u i (omega arith) in
        omega arith

rising_join : (us : List ℕ) (b : ℕ) → Rising us → (b ≢ 0 → any_of (eqb b) us ≡ false → Under us b) → Rising (join_unit us b)
rising_join us b h u = go (eqb b 0) (any_of (eqb b) us) refl refl
  where
    go : (z y : Bool) → eqb b 0 ≡ z → any_of (eqb b) us ≡ y → Rising (cond (z || y) us (us ++ (b ∷ [])))
    go true y e f = h
    go false true e f = h
    go false false e f = rising-last us b h (u (eqb-false b 0 e) f)

units_append : (ls ms : List Line) (us : List ℕ) → units_with us (ls ++ ms) ≡ units_with (units_with us ls) ms
unfolding units_with
units_append [] ms us = refl
units_append (l ∷ ls) ms us = units_append ls ms (join_unit us l.block)

-- ---- over n lines

-- persons rise; a block holds its line's person; everybody in it has a line, with the same block
pub record Grouped (s : List ℕ) (n : ℕ) : Type 0 where
  pub rising : (i j : ℕ) → i < j → j < n → (decoded (line_at s i)).person < (decoded (line_at s j)).person
  pub own : (k : ℕ) → k < n → (decoded (line_at s k)).block ≢ 0 → has (decoded (line_at s k)).block (decoded (line_at s k)).person ≡ true
  pub members : (k : ℕ) → k < n → (q : ℕ) → has (decoded (line_at s k)).block q ≡ true
      → (j : ℕ) × (j < n) × ((decoded (line_at s j)).person ≡ q) × ((decoded (line_at s j)).block ≡ (decoded (line_at s k)).block)
  pub fits : (k : ℕ) → k < n → (decoded (line_at s k)).block < 2 ^ 64

module _ (s : List ℕ) (n : ℕ) (G : Grouped s n) where
  abbrev line : ℕ → Line
  line k = decoded (line_at s k)

  -- the units of the first k lines
  abbrev upto : ℕ → List ℕ
  upto k = units (lines_from s 0 k)

  upto_next : (k : ℕ) → upto (suc k) ≡ join_unit (upto k) (line k).block
  unfolding units units_with
  upto_next k = ap units (lines-last s k) ∙ units_append (lines_from s 0 k) (line k ∷ []) []

  -- the lowest person of each is below whoever has a later line
  under-person : (k i : ℕ) → k < n → i < length (upto k) → lowest (get_or (upto k) i 0) < (line k).person
  under-person k i l m =
      let r = unit_line s k i m in
      let z : (line r.0).block ≢ 0 = subst (λ (u : ℕ). u ≢ 0) (sym r.2) r.3 in
      let a : lowest (line r.0).block ≤ (line r.0).person = lowest_le _ _ (G.own r.0 (omega (arith, r.1)) z) in
      let b = G.rising r.0 k r.1 l in
      let c = ap lowest r.2 in
      omega (arith, a, b, c)

  -- a block that is not among them has nobody below its line's person: whoever is in it has no earlier line
  person-under : (k : ℕ) → k < n → (line k).block ≢ 0 → any_of (eqb (line k).block) (upto k) ≡ false → (line k).person ≤ lowest (line k).block
  unfolding lowest
  person-under k l z new =
      let r = G.members k l (lowest (line k).block) (trailing_member 64 (line k).block (G.fits k l) z) in
      subst (λ (p : ℕ). (line k).person ≤ p) r.2
      (⊎_elim (λ m. absurd (true≢false (sym (earlier r.0 m r.3) ∙ new))) (λ m. later r.0 m r.1) (lt_or_le r.0 k))
    where
      earlier : (j : ℕ) → j < k → (line j).block ≡ (line k).block → any_of (eqb (line k).block) (upto k) ≡ true
      earlier j m e = subst (λ (b : ℕ). any_of (eqb b) (upto k) ≡ true) e (line_unit s k j m (subst (λ (b : ℕ). b ≢ 0) (sym e) z))

      later : (j : ℕ) → k ≤ j → j < n → (line k).person ≤ (line j).person
      later j m t =
          ⊎_elim (λ h. let r = G.rising k j h t in omega arith)
          (λ h. subst (λ (i : ℕ). (line k).person ≤ (line i).person) (let e : k ≡ j = omega arith in e) (le_refl (line k).person)) (lt_or_le k j)

  upto_rise : (k : ℕ) → k ≤ n → Rising (upto k)
  upto_rise zero l = (unfold units units_with lines_from in λ i j m t. absurd (not-suc-le-zero t))
  upto_rise (suc k) l =
      subst Rising (sym (upto_next k)) (rising_join (upto k) (line k).block (upto_rise k (omega arith)) (λ z new i m.
      let a = under-person k i l m in
      let b = person-under k l z new in
      omega (arith, a, b)))

  -- EACH UNIT HAS A HIGHER LOWEST PERSON THAN THOSE BEFORE IT
  pub units-rise : (i j : ℕ) → i < j → j < length (units (lines_from s 0 n)) → lowest (get_or (units (lines_from s 0 n)) i 0) < lowest (get_or (units (lines_from s 0 n)) j 0)
  units-rise = upto_rise n (le_refl n)
