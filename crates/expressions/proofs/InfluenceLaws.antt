-- The closings that the code lists are the influence of facts and decisions; a variable's influence holds whom it touches, on the roster or off it.
use mathlib.Core.Path.{◌≡◌, ap, ap₂, sym, subst, ◌∙◌}
use mathlib.Core.Bool.{Bool, true, not}
use mathlib.Core.List.{List, ◌++◌}
use Prim.Native.Nat.{ℕ, ◌≤◌, ◌<◌, ◌+◌, ◌-◌, ◌^◌, min}
use native.Mathlib.Nat.{lt_of_lt_of_le}
use native.Mathlib.Omega.{arith}
use lib.ListN.{length, take}
use lib.Seq.{length-take-le, get_or-take}
use Rattle.sets.specs.paper.Sets.{has, only, close_of, below}
use Rattle.sets.proofs.SetLaws.{Within, has-not, has-none}
use Rattle.records.proofs.Listing.{below_ext}
use Rattle.sets.proofs.Closing.{Closed, close_within, close_closed}
use Rattle.expressions.specs.paper.Rules.{rule_sets}
use Rattle.expressions.specs.paper.Influence.{Frame, touch, decision_touch}
use Rattle.expressions.specs.paper.Bindings.{Bound, binding_at}
use Rattle.expressions.specs.code.Influences.{closed, closed_if, influence_by}
use Rattle.expressions.specs.declared.reach.Reach.{Reach}
use Rattle.records.proofs.UsedLaws.{used_take}
use Rattle.expressions.specs.paper.Variables.{is_variable, fact_influence, decision_influence}

-- of the front of a list
closed_front : (groups : List ℕ) (wanted : ℕ) (xs : List ℕ) (n : ℕ) → n ≤ length xs
    → below (length (take n xs)) (closed_if groups wanted (take n xs)) ≡ below n (closed_if groups wanted xs)
unfolding closed_if closed
closed_front groups wanted xs n h =
    ap (λ (k : ℕ). below k (closed_if groups wanted (take n xs))) (length-take-le n xs h)
    ∙ below_ext n (closed_if groups wanted (take n xs)) (closed_if groups wanted xs) (λ i l.
    ap (λ (t : ℕ). only (has wanted i) (close_of groups t)) (get_or-take n xs i 0 l))

-- all numbers below 64 are wanted
pub everyone : (i : ℕ) → i < 64 → has (2 ^ 64 - 1) i ≡ true
everyone i l = has-not 64 0 i (omega arith) l ∙ ap not (has-none i)

closed_all : (groups xs : List ℕ) (n : ℕ) → n ≤ 64 → below n (closed_if groups (2 ^ 64 - 1) xs) ≡ below n (closed groups xs)
unfolding closed_if
closed_all groups xs n h =
    below_ext n (closed_if groups (2 ^ 64 - 1) xs) (closed groups xs) (λ i l.
    ap (λ (b : Bool). only b (closed groups xs i)) (everyone i (omega arith)))

-- facts, then decisions
module _ (r : Reach) (variables n : ℕ) (some : n ≡ min r.groups.count 144) (long : length r.groups.sets ≡ 144)
    (facts : r.count ≤ length r.facts) (decisions : r.undecided.count ≤ length r.decisions) (few : r.undecided.count ≤ 64) (known₁ known₂ : List ℕ) where
  pub influence-made : take (0 + length (take r.count r.facts)) known₁
      ≡ below (length (take r.count r.facts)) (closed_if (take n r.groups.sets) variables (take r.count r.facts))
      → take (r.count + length (take r.undecided.count r.decisions)) known₂
      ≡ take r.count known₁ ++ below (length (take r.undecided.count r.decisions)) (closed_if (take n r.groups.sets) (2 ^ 64 - 1) (take r.undecided.count r.decisions))
      → take (r.count + r.undecided.count) known₂ ≡ influence_by r variables
  unfolding influence_by
  influence-made first second =
      let groups = used_take r.groups.sets r.groups.count 144 n long some in
      let all : r.count ≡ 0 + length (take r.count r.facts) = omega (arith, length-take-le r.count r.facts facts) in
      ap (λ (k : ℕ). take (r.count + k) known₂) (sym (length-take-le r.undecided.count r.decisions decisions)) ∙ second
      ∙ ap₂ ◌++◌
      (ap (λ (k : ℕ). take k known₁) all ∙ first
      ∙ closed_front (take n r.groups.sets) variables r.facts r.count facts
      ∙ ap (λ (l : List ℕ). below r.count (closed_if l variables r.facts)) groups)
      (closed_front (take n r.groups.sets) (2 ^ 64 - 1) r.decisions r.undecided.count decisions
      ∙ closed_all (take n r.groups.sets) r.decisions r.undecided.count few
      ∙ ap (λ (l : List ℕ). below r.undecided.count (closed l r.decisions)) groups)

fact_closing : (F : Frame) (bs : List Bound) (f : ℕ) → is_variable (binding_at bs f) ≡ true → fact_influence F bs f ≡ close_of (rule_sets F.plan) (touch F f)
unfolding fact_influence
fact_closing F bs f e = ap (λ (b : Bool). only b (close_of (rule_sets F.plan) (touch F f))) e

pub influence_holds : (F : Frame) (bs : List Bound) (f : ℕ) → is_variable (binding_at bs f) ≡ true → Within (touch F f) (fact_influence F bs f)
influence_holds F bs f e = subst (Within (touch F f)) (sym (fact_closing F bs f e)) (close_within (rule_sets F.plan) (touch F f))

pub influence-closed : (F : Frame) (bs : List Bound) (f : ℕ) → is_variable (binding_at bs f) ≡ true → Closed (rule_sets F.plan) (fact_influence F bs f)
influence-closed F bs f e = subst (Closed (rule_sets F.plan)) (sym (fact_closing F bs f e)) (close_closed (rule_sets F.plan) (touch F f))

pub decision_holds : (F : Frame) (d : ℕ) → Within (decision_touch F.plan d) (decision_influence F d)
unfolding decision_influence
decision_holds F d = close_within (rule_sets F.plan) (decision_touch F.plan d)
