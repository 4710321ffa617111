-- Lines that are partitioned, pooled with as many amounts, are as `Pooled` says.
use mathlib.Core.Path.{◌≡◌, refl, sym, ap, ap₂, ◌∙◌, subst}
use mathlib.Core.Bool.{Bool, true, false, ◌&&◌, not}
use mathlib.Core.List.{List, [], ◌∷◌}
use mathlib.Core.Logic.{inl, ◌↔◌, ◌≢◌}
use Prim.Native.Nat.{ℕ, ◌+◌, ◌^◌, ◌<◌}
use native.Mathlib.Nat.{lt_of_le_of_lt, zero-lt-suc}
use native.Mathlib.Omega.{arith}
use lib.ListN.{length, get_or, length-map}
use lib.Dec.{eqb}
use borrow.Author.Tests.{eqb-true, eqb-false, eq-eqb}
use Rattle.sets.specs.paper.Sets.{has, lowest, only, numbers, sum_of}
use Rattle.sets.proofs.SetLaws.{and_parts}
use Rattle.sets.proofs.SumLaws.{sum_where}
use Rattle.records.proofs.ListLaws.{get_or_mapped}
use Rattle.report.specs.paper.Line.{Line}
use Rattle.report.specs.paper.LineAt.{lines_from}
use Rattle.report.specs.paper.Units as report
use Rattle.billing.specs.paper.Pools.{UnitPool, shares, pooled, pool_of, mark_of, unit_pool, pools}
use Rattle.billing.specs.paper.Pools as billing
use Rattle.billing.proofs.ByUnits.{pools-whole}
use Rattle.billing.proofs.LinePlaces.{at_any, lines-count, any_line, line_any, line_all, number_all, sum_places, unit_line, line_unit}
use Rattle.billing.proofs.UnitOrder.{Grouped, units-rise}
use Rattle.promises.specs.Partitioned.{person_at, kind_at, block_at, Partitioned, InAll}
use Rattle.promises.specs.Pooled.{unit_at, pooled_at, amounts_where, Pooled}
use Rattle.promises.proofs.PartedLines.{within_le, block-persons}

module _ (roster : ℕ) (s : List ℕ) (n : ℕ) (parts : Partitioned InAll roster s n) (fits : roster < 2 ^ 64) (amounts : List ℕ) (long : length amounts ≡ n) where
  abbrev ls : List Line
  ls = lines_from s 0 n

  abbrev us : List UnitPool
  us = pools ls amounts

  abbrev left : ℕ
  left = billing.unplaced (shares ls amounts)

  grouped : Grouped s n
  unfolding person_at block_at
  grouped = record {
    rising = parts.rising;
    own = parts.own;
    members = λ k l q h. let r = parts.members k l q h in (r.0, r.1, r.2, r.4);
    fits = λ k l.
        lt_of_le_of_lt (within_le (block_at s k) roster (record {
          at = λ q h.
              let r = parts.members k l q h in
              subst (λ (p : ℕ). has roster p ≡ true) r.2 (parts.listed r.0 r.1);
        })) fits;
  }

  -- ---- unit i

  masks : (i : ℕ) → i < length us → i < length (report.units ls)
  unfolding pools
  masks i l = subst (λ (m : ℕ). i < m) (length-map (report.units ls) (unit_pool ls amounts)) l

  unit_is : (i : ℕ) → i < length us → unit_at us i ≡ unit_pool ls amounts (get_or (report.units ls) i 0)
  unfolding pools
  unit_is i l = get_or_mapped (unit_pool ls amounts) (report.units ls) i 0 _ (masks i l)

  block_is : (i : ℕ) → i < length us → (unit_at us i).block ≡ get_or (report.units ls) i 0
  block_is i l = ap (λ (u : UnitPool). u.block) (unit_is i l)

  -- it is some line's block
  its_line : (i : ℕ) → i < length us → (k : ℕ) × (k < n) × (block_at s k ≡ (unit_at us i).block) × ((unit_at us i).block ≢ 0)
  unfolding block_at
  its_line i l =
      let r = unit_line s n i (masks i l) in
      (r.0, r.1, r.2 ∙ sym (block_is i l), subst (λ (b : ℕ). b ≢ 0) (sym (block_is i l)) r.3)

  its_persons : (i k : ℕ) → i < length us → k < n → (has (unit_at us i).block (person_at s k) ≡ true) ↔ (block_at s k ≡ (unit_at us i).block)
  its_persons i k l m =
      let t = its_line i l in
      subst (λ (b : ℕ). (has b (person_at s k) ≡ true) ↔ (block_at s k ≡ b)) t.2
      (block-persons parts t.0 k t.1 m (subst (λ (b : ℕ). b ≢ 0) (sym t.2) t.3))

  -- the two tests of a line agree
  its_test : (i k : ℕ) → i < length us → k < n → eqb (block_at s k) (get_or (report.units ls) i 0) ≡ has (unit_at us i).block (person_at s k)
  its_test i k l m = pick (eqb (block_at s k) (get_or (report.units ls) i 0)) (has (unit_at us i).block (person_at s k)) refl refl
    where
      pick : (x y : Bool) → eqb (block_at s k) (get_or (report.units ls) i 0) ≡ x → has (unit_at us i).block (person_at s k) ≡ y → x ≡ y
      pick true y e h = sym ((its_persons i k l m).1 (eqb-true _ _ e ∙ sym (block_is i l))) ∙ h
      pick false true e h = absurd (eqb-false _ _ e ((its_persons i k l m).0 h ∙ block_is i l))
      pick false false e h = refl

  -- ---- as `Pooled` says

  whole : sum_of (λ u. u.cents) us + left ≡ sum_of (λ c. c) amounts
  unfolding kind_at block_at
  whole = pools-whole ls amounts (lines-count s 0 n ∙ sym long) (line_all _ s n (λ k l e. (parts.kinds k l).0 (inl e)))

  order : (i j : ℕ) → i < j → j < length us → lowest (unit_at us i).block < lowest (unit_at us j).block
  order i j l m =
      let a = ap lowest (block_is i (omega arith)) in
      let b = ap lowest (block_is j m) in
      let r = units-rise s n grouped i j l (masks j m) in
      omega (arith, a, b, r)

  listed : (b : ℕ) → ((i : ℕ) × (i < length us) × ((unit_at us i).block ≡ b)) ↔ ((k : ℕ) × (k < n) × (block_at s k ≡ b) × (b ≢ 0))
  unfolding block_at pools
  listed b = (
    λ u. let t = its_line u.0 u.1 in (t.0, t.1, t.2 ∙ u.2, subst (λ (x : ℕ). x ≢ 0) u.2 t.3),
    λ k.
        let z = subst (λ (x : ℕ). x ≢ 0) (sym k.2) k.3 in
        let r = at_any 0 (eqb (block_at s k.0)) (report.units ls) (line_unit s n k.0 k.1 z) in
        let l : r.0 < length us = subst (λ (m : ℕ). r.0 < m) (sym (length-map (report.units ls) (unit_pool ls amounts))) r.1 in
        (r.0, l, block_is r.0 l ∙ sym (eqb-true (block_at s k.0) _ r.2) ∙ k.2),
  )

  placed : (k : ℕ) → k < n → InAll (kind_at s k) → (i : ℕ) × (i < length us) × ((unit_at us i).block ≡ block_at s k)
  placed k l a = (listed (block_at s k)).1 (k, l, refl, (parts.kinds k l).0 a)

  everybody : (i p : ℕ) → i < length us → has (unit_at us i).block p ≡ true → (k : ℕ) × (k < n) × (person_at s k ≡ p)
  everybody i p l h =
      let t = its_line i l in
      let r = parts.members t.0 t.1 p (ap (λ (b : ℕ). has b p) t.2 ∙ h) in
      (r.0, r.1, r.2)

  its_pool : (i : ℕ) → i < length us → (unit_at us i).cents ≡ amounts_where (λ k. pooled_at s k && has (unit_at us i).block (person_at s k)) amounts n
  unfolding pool_of pooled_at block_at
  its_pool i l =
      ap (λ (u : UnitPool). u.cents) (unit_is i l)
      ∙ sum_places (λ x. only (pooled x.line && eqb x.line.block (get_or (report.units ls) i 0)) x.cents) s amounts n long
      ∙ sum_where _ _ (numbers n 0) (number_all _ n (λ k m. ap (λ (b : Bool). only (pooled_at s k && b) (get_or amounts k 0)) (its_test i k l m)))

  its_mark : (i : ℕ) → i < length us → ((unit_at us i).marked ≡ true) ↔ ((k : ℕ) × (k < n) × (has (unit_at us i).block (person_at s k) ≡ true) × (kind_at s k ≡ 2))
  unfolding mark_of kind_at block_at
  its_mark i l = (
    λ e.
        let r = line_any test s n (sym is ∙ e) in
        let t = and_parts (eqb (kind_at s r.0) 2) (eqb (block_at s r.0) b) r.2 in
        (r.0, r.1, (its_persons i r.0 l r.1).1 (eqb-true _ _ t.1 ∙ sym (block_is i l)), eqb-true _ _ t.0),
    λ k. is ∙ any_line test s n k.0 k.1 (ap₂ ◌&&◌ (eq-eqb _ _ k.3) (eq-eqb _ _ ((its_persons i k.0 l k.1).0 k.2 ∙ block_is i l))),
  )
    where
      b : ℕ
      b = get_or (report.units ls) i 0

      test : Line → Bool
      test m = eqb m.kind 2 && eqb m.block b

      is : (unit_at us i).marked ≡ mark_of ls b
      is = ap (λ (u : UnitPool). u.marked) (unit_is i l)

  unplaced : left ≡ amounts_where (λ k. not (pooled_at s k)) amounts n
  unfolding billing.unplaced pooled_at
  unplaced = sum_places (λ x. only (not (pooled x.line)) x.cents) s amounts n long

  none : ((k : ℕ) → k < n → InAll (kind_at s k) → ⊥) → (us ≡ []) × (left ≡ sum_of (λ c. c) amounts)
  unfolding sum_of
  none h = (empty, let w = whole in let e = ap (sum_of (λ (u : UnitPool). u.cents)) empty in omega (arith, w, e))
    where
      nobody : (vs : List UnitPool) → (0 < length vs → ⊥) → vs ≡ []
      nobody [] n = refl
      nobody (v ∷ vs) n = absurd (n (zero-lt-suc (length vs)))

      empty : us ≡ []
      empty = nobody us (λ l.
          let t = its_line 0 l in
          h t.0 t.1 ((parts.kinds t.0 t.1).1 (subst (λ (b : ℕ). b ≢ 0) (sym t.2) t.3)))

  pub lines-pooled : Pooled amounts s n (pools (lines_from s 0 n) amounts) (billing.unplaced (shares (lines_from s 0 n) amounts))
  lines-pooled = record {
    many = long;
    whole = whole;
    order = order;
    units = listed;
    placed = placed;
    persons = its_persons;
    everybody = everybody;
    pool = its_pool;
    mark = its_mark;
    unplaced = unplaced;
    none = none;
  }
