-- Decisions as a field: pair after pair, by the arrays and the count that the code has.
use mathlib.Core.Path.{◌≡◌, refl, sym, ap, ap₂, ◌∙◌}
use mathlib.Core.Bool.{Bool, cond}
use mathlib.Core.List.{List, [], ◌∷◌}
use Prim.Native.Nat.{ℕ, ◌+◌, ◌/◌, ◌≤◌, ◌<◌}
use native.Mathlib.Omega.{arith}
use lib.ListN.{length, get_or, drop, drop_of_length-le}
use lib.Dec.{ltb}
use borrow.Author.Tests.{lt-ltb}
use Rattle.sets.specs.paper.Sets.{numbers, below}
use Rattle.sets.proofs.LoopLaws.{length-below, get_or-below}
use Rattle.records.specs.paper.Plan.{Decision}
use Rattle.records.proofs.Listing.{decided}
use Rattle.records.proofs.UsedLaws.{rest-next}
use Rattle.page.specs.Page.{Page, puts}
use Rattle.page.proofs.PageLaws.{puts_then}
use Rattle.encoding.specs.paper.Encoded.{some, decision_bytes}
use Rattle.encoding.specs.code.Written.{pair_bytes}
use Rattle.encoding.proofs.FieldsBack.{decisions-long}
use Rattle.encoding.proofs.ListBytes.{some-long}

pub some_pairs : (ds : List Decision) → some (decision_bytes ds) ≡ some ds
unfolding decision_bytes
some_pairs [] = refl
some_pairs (d ∷ ds) = refl

pub paired : (ds : List Decision) → cond (some (decision_bytes ds)) (length (decision_bytes ds) / 2 ∷ decision_bytes ds) [] ≡ pair_bytes ds
paired ds =
    ap₂ (λ (b : Bool) (n : ℕ). cond b (n ∷ decision_bytes ds) []) (some_pairs ds)
    (let e = decisions-long ds in let z : length (decision_bytes ds) / 2 ≡ length ds = omega arith in z)

module _ (edges verdicts : List ℕ) (n : ℕ) where
  abbrev pub pairs : List Decision
  pairs = below n (decided edges verdicts)

  pub pair-none : n ≡ 0 → pair_bytes pairs ≡ []
  unfolding below numbers
  pair-none e = ap (λ (k : ℕ). pair_bytes (below k (decided edges verdicts))) e

  pub pairs_stand : some pairs ≡ ltb 0 n
  pairs_stand = some-long pairs ∙ ap (ltb 0) (length-below n (decided edges verdicts))

  pub pair_start : (n ≡ 0 → ⊥) → pair_bytes pairs ≡ n ∷ decision_bytes pairs
  pair_start z =
      ap (λ (b : Bool). cond b (length pairs ∷ decision_bytes pairs) []) (pairs_stand ∙ lt-ltb 0 n (omega arith)) ∙ ap (λ (k : ℕ). k ∷ decision_bytes pairs) (length-below n (decided edges verdicts))

  pub pair-next : (i : ℕ) (p q : Page) → i < n → q ≡ puts p (get_or edges i 0 ∷ get_or verdicts i 0 ∷ []) → puts q (decision_bytes (drop (i + 1) pairs)) ≡ puts p (decision_bytes (drop i pairs))
  unfolding decision_bytes
  pair-next i p q l e =
      let d : Decision = record { edge = 0; verdict = 0 } in
      let m = length-below n (decided edges verdicts) in
      puts_then _ _ _ _ _ e refl
      ∙ ap (λ (ds : List Decision). puts p (decision_bytes ds))
      (sym (rest-next pairs i d (omega arith) ∙ ap (λ (x : Decision). x ∷ drop (i + 1) pairs) (get_or-below n (decided edges verdicts) d i l)))

  pub pair_end : (i : ℕ) (p : Page) → n ≤ i → p ≡ puts p (decision_bytes (drop i pairs))
  unfolding puts decision_bytes
  pair_end i p l =
      let m = length-below n (decided edges verdicts) in
      let k : length pairs ≤ i = omega arith in
      sym (ap (λ (ds : List Decision). puts p (decision_bytes ds)) (drop_of_length-le pairs k))
