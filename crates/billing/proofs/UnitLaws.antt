-- The units, block after block.
use mathlib.Core.Path.{◌≡◌, refl, sym, ap, ap₂, ◌∙◌}
use mathlib.Core.Bool.{Bool, true, false, ◌||◌, cond}
use mathlib.Core.List.{List, [], ◌∷◌, ◌++◌, map}
use Prim.Native.Nat.{ℕ, zero, suc, ◌+◌, ◌-◌, ◌≤◌, ◌<◌}
use native.Mathlib.Omega.{arith}
use lib.ListN.{length, get_or, take, set}
use lib.Seq.{get_or-take, length-take-le, take-suc-set}
use lib.Dec.{eqb}
use borrow.Author.Tests.{eq-eqb, ne_eqb}
use Rattle.std.specs.List.{list_any}
use Rattle.sets.specs.paper.Sets.{any_of}
use Rattle.sets.proofs.SetLaws.{eqb_swap}
use Rattle.report.specs.paper.Line.{Line}
use Rattle.report.specs.paper.LineAt.{line_at, decoded, lines_from}
use Rattle.report.specs.paper.Units.{join_unit, units_with}
use Rattle.billing.specs.Shown.{IsUnits, with_block}
use Rattle.billing.specs.declared.units.Units.{Units}

-- ---- a block joins

-- a search that compares the other way round
turned : (b : ℕ) (us : List ℕ) → list_any (λ u. eqb u b) us ≡ any_of (eqb b) us
unfolding any_of
turned b [] = refl
turned b (u ∷ us) = ap₂ ◌||◌ (eqb_swap u b) (turned b us)

pub joins-none : (us : List ℕ) (b : ℕ) → b ≡ 0 → us ≡ join_unit us b
joins-none us b e = sym (ap (λ (t : Bool). cond (t || any_of (eqb b) us) us (us ++ (b ∷ []))) (eq-eqb b 0 e))

pub joins-known : (us : List ℕ) (b : ℕ) → list_any (λ u. eqb u b) us ≡ true → us ≡ join_unit us b
joins-known us b e = sym (ap (λ (t : Bool). cond (eqb b 0 || t) us (us ++ (b ∷ []))) (sym (turned b us) ∙ e) ∙ ap (λ (t : Bool). cond t us (us ++ (b ∷ []))) (or-true (eqb b 0)))
  where
    or-true : (t : Bool) → (t || true) ≡ true
    or-true true = refl
    or-true false = refl

pub joins_new : (xs : List ℕ) (n b : ℕ) → n < length xs → (b ≡ 0 → ⊥) → list_any (λ u. eqb u b) (take n xs) ≡ false → take (n + 1) (set xs n b) ≡ join_unit (take n xs) b
joins_new xs n b h z e =
    ap (λ (k : ℕ). take k (set xs n b)) (let f : n + 1 ≡ suc n = omega arith in f) ∙ take-suc-set xs n b h
    ∙ sym (ap₂ (λ (s t : Bool). cond (s || t) (take n xs) (take n xs ++ (b ∷ []))) (ne_eqb b 0 z) (sym (turned b (take n xs)) ∙ e))

-- ---- the units that were found

module _ (us : List ℕ) (r : Units) (h : IsUnits us r) where
  pub units-count : r.count ≡ length us
  units-count = sym (length-take-le r.count r.blocks (let l = h.long in let f = h.few in omega arith)) ∙ ap length h.blocks

  pub units-entry : (i : ℕ) → i < r.count → get_or r.blocks i 0 ≡ get_or us i 0
  units-entry i k = sym (get_or-take r.count r.blocks i 0 k) ∙ ap (λ (xs : List ℕ). get_or xs i 0) h.blocks

-- ---- line after line: what is still to come from line k on

pub lines_next : (s : List ℕ) (k n : ℕ) → k < n → lines_from s k (n - k) ≡ decoded (line_at s k) ∷ lines_from s (k + 1) (n - (k + 1))
unfolding lines_from
lines_next s k n h = go (n - k) refl
  where
    go : (j : ℕ) → n - k ≡ j → lines_from s k j ≡ decoded (line_at s k) ∷ lines_from s (k + 1) (n - (k + 1))
    go zero e = absurd (omega arith)
    go (suc j) e = ap₂ (λ (q i : ℕ). decoded (line_at s k) ∷ lines_from s q i) (let f : suc k ≡ k + 1 = omega arith in f) (let f : j ≡ n - (k + 1) = omega arith in f)

pub lines_none : (s : List ℕ) (k n : ℕ) → n ≤ k → lines_from s k (n - k) ≡ []
unfolding lines_from
lines_none s k n h = ap (lines_from s k) (let f : n - k ≡ 0 = omega arith in f)

module _ (block : Line → ℕ) (s us : List ℕ) (k n : ℕ) where
  abbrev pub units_from : List ℕ
  units_from = units_with us (map (with_block block) (lines_from s k (n - k)))

pub units-next : (block : Line → ℕ) (s us : List ℕ) (k n b : ℕ) → k < n → b ≡ block (decoded (line_at s k)) → units_from block s (join_unit us b) (k + 1) n ≡ units_from block s us k n
unfolding units_with
units-next block s us k n b h e =
    ap (λ (b : ℕ). units_from block s (join_unit us b) (k + 1) n) e ∙ sym (ap (λ (ls : List Line). units_with us (map (with_block block) ls)) (lines_next s k n h))

pub units_end : (block : Line → ℕ) (s us : List ℕ) (k n : ℕ) → n ≤ k → us ≡ units_from block s us k n
unfolding units_with
units_end block s us k n h = sym (ap (λ (ls : List Line). units_with us (map (with_block block) ls)) (lines_none s k n h))
