-- What a node says follows from the facts that it uses.
use mathlib.Core.Path.{◌≡◌, refl, ap, ap₂}
use mathlib.Core.Bool.{Bool, true, ◌&&◌, ◌||◌, not}
use mathlib.Core.List.{List, [], ◌∷◌, ◌++◌}
use Prim.Native.Nat.{ℕ, zero, suc}
use lib.ListN.{get_or}
use Rattle.sets.specs.paper.Sets.{has, union, all_of, any_of, union_of}
use Rattle.records.specs.paper.Plan.{Plan, Node, literal, fact, conj, disj, neg}
use Rattle.sets.proofs.SetLaws.{in_union_l, in_union_r}
use Rattle.sets.proofs.Closing.{in_one}
use Rattle.expressions.specs.paper.Nodes.{on, value, values_from, values, uses, uses_from, node_uses}
use Rattle.expressions.specs.paper.Influence.{uses_at}

-- two sets of true facts that are alike on the facts of u
pub record On (u v w : ℕ) : Type 0 where
  pub at : (f : ℕ) → has u f ≡ true → has v f ≡ has w f

pub on-left : (a b : ℕ) {v w : ℕ} → On (union a b) v w → On a v w
on-left a b h = record { at = λ f e. h.at f ((in_union_l a b).at f e) }

pub on-right : (a b : ℕ) {v w : ℕ} → On (union a b) v w → On b v w
on-right a b h = record { at = λ f e. h.at f ((in_union_r a b).at f e) }

-- answers of nodes, beside the facts that each uses
pub data Follow (v w : ℕ) : List ℕ → List Bool → List Bool → Type 0 where
  none : Follow v w [] [] []
  next : {u : ℕ} {x y : Bool} {us : List ℕ} {xs ys : List Bool} → (On u v w → x ≡ y) → Follow v w us xs ys → Follow v w (u ∷ us) (x ∷ xs) (y ∷ ys)

module _ (v w : ℕ) where
  follow_at : {us : List ℕ} {xs ys : List Bool} → Follow v w us xs ys → (i : ℕ) → On (get_or us i 0) v w → on xs i ≡ on ys i
  follow_at none i o = refl
  follow_at (next h r) zero o = h o
  follow_at (next h r) (suc i) o = follow_at r i o

  follow_add : {u : ℕ} {x y : Bool} {us : List ℕ} {xs ys : List Bool} → Follow v w us xs ys → (On u v w → x ≡ y)
      → Follow v w (us ++ (u ∷ [])) (xs ++ (x ∷ [])) (ys ++ (y ∷ []))
  follow_add none h = next h none
  follow_add (next k r) h = next k (follow_add r h)

  pub all_follows : (u : ℕ → ℕ) (x y : ℕ → Bool) → ((i : ℕ) → On (u i) v w → x i ≡ y i) → (is : List ℕ) → On (union_of u is) v w → all_of x is ≡ all_of y is
  unfolding all_of union_of
  all_follows u x y h [] o = refl
  all_follows u x y h (i ∷ is) o = ap₂ ◌&&◌ (h i (on-left (u i) (union_of u is) o)) (all_follows u x y h is (on-right (u i) (union_of u is) o))

  pub any_follows : (u : ℕ → ℕ) (x y : ℕ → Bool) → ((i : ℕ) → On (u i) v w → x i ≡ y i) → (is : List ℕ) → On (union_of u is) v w → any_of x is ≡ any_of y is
  unfolding any_of union_of
  any_follows u x y h [] o = refl
  any_follows u x y h (i ∷ is) o = ap₂ ◌||◌ (h i (on-left (u i) (union_of u is) o)) (any_follows u x y h is (on-right (u i) (union_of u is) o))

  value_follows : (us : List ℕ) (xs ys : List Bool) → Follow v w us xs ys → (n : Node) → On (uses us n) v w → value v xs n ≡ value w ys n
  unfolding value uses
  value_follows us xs ys h (literal b) o = refl
  value_follows us xs ys h (fact f) o = o.at f (in_one f)
  value_follows us xs ys h (conj is) o = all_follows (λ i. get_or us i 0) (on xs) (on ys) (follow_at h) is o
  value_follows us xs ys h (disj is) o = any_follows (λ i. get_or us i 0) (on xs) (on ys) (follow_at h) is o
  value_follows us xs ys h (neg i) o = ap not (follow_at h i o)

  from_follows : (ns : List Node) (us : List ℕ) (xs ys : List Bool) → Follow v w us xs ys → Follow v w (uses_from ns us) (values_from v ns xs) (values_from w ns ys)
  unfolding uses_from values_from
  from_follows [] us xs ys h = h
  from_follows (n ∷ ns) us xs ys h =
      from_follows ns (us ++ (uses us n ∷ [])) (xs ++ (value v xs n ∷ [])) (ys ++ (value w ys n ∷ [])) (follow_add h (value_follows us xs ys h n))

  pub node_follows : (P : Plan) (i : ℕ) → On (uses_at P i) v w → on (values P v) i ≡ on (values P w) i
  unfolding values node_uses
  node_follows P i o = follow_at (from_follows P.nodes [] [] [] none) i o
