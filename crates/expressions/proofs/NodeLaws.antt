-- Laws of the table of nodes: a node by its sort, values and uses one node at a time.
use Prim.Native.Nat.{ℕ, zero, suc, ◌+◌, ◌<◌, min}
use mathlib.Core.Path.{◌≡◌, refl, sym, ap, ◌∙◌, subst}
use mathlib.Core.Bool.{Bool, true, false, ◌&&◌, ◌||◌, not, beq}
use mathlib.Core.List.{List, [], ◌∷◌, ◌++◌}
use native.Mathlib.Nat.{add-zero}
use native.Mathlib.Omega.{arith}
use lib.ListN.{length, take, get_or, set, length-append}
use Rattle.sets.specs.paper.Sets.{all_of, any_of}
use Rattle.records.specs.paper.Plan.{Node, literal, fact, conj, disj, neg}
use Rattle.records.specs.code.Decoded.{numbers_of, node_by, plan_of, nodes_of}
use Rattle.records.specs.declared.plan.Numbers.{Numbers}
use Rattle.records.specs.declared.plan.Plan.{Plan}
use Rattle.expressions.specs.paper.Nodes.{on, value, values, values_from, uses, uses_from, node_uses}
use Rattle.expressions.specs.code.Coded.{Holds}
use Rattle.expressions.proofs.ListLaws.{all_agree, any_agree, holds_next}
use Rattle.records.proofs.UsedLaws.{used_take}
use Rattle.sets.proofs.UnionLaws.{union-agree}

-- the numbers in use, at the front of their array
pub numbers_used : (is : Numbers) (n m : ℕ) → length is.items ≡ 16 → n ≡ is.count → m ≡ min n 16 → take m is.items ≡ numbers_of is
unfolding numbers_of
numbers_used is n m long e k = used_take is.items is.count 16 m long (rw (← e) k)

-- ---- a node by its sort

pub by_sort : {A : Type 0} (f : Node → A) (n : ℕ) (is : List ℕ) {sort k : ℕ} → sort ≡ k → f (node_by k n is) ≡ f (node_by sort n is)
by_sort f n is e = ap (λ (k : ℕ). f (node_by k n is)) (sym e)

-- a sort that is none of the first four
pub negated : (sort n : ℕ) (is : List ℕ) → (sort ≡ 0 → ⊥) → (sort ≡ 1 → ⊥) → (sort ≡ 2 → ⊥) → (sort ≡ 3 → ⊥) → node_by sort n is ≡ neg n
unfolding node_by
negated zero n is a b c d = absurd (a refl)
negated (suc zero) n is a b c d = absurd (b refl)
negated (suc (suc zero)) n is a b c d = absurd (c refl)
negated (suc (suc (suc zero))) n is a b c d = absurd (d refl)
negated (suc (suc (suc (suc k)))) n is a b c d = refl

-- ---- a table that grows by one entry for each node, made from the entries below it

module _ {A : Type 0} (d : A) (entry : List A → Node → A) (from : List Node → List A → List A)
    (none : (done : List A) → from [] done ≡ done)
    (more : (n : Node) (ns : List Node) (done : List A) → from (n ∷ ns) done ≡ from ns (done ++ (entry done n ∷ [])))
    (agree : (a b : List A) → Holds d a b → (n : Node) → entry a n ≡ entry b n) where
  table-last : (ns : List Node) (n : Node) (done : List A) → from (ns ++ (n ∷ [])) done ≡ from ns done ++ (entry (from ns done) n ∷ [])
  table-last [] n done = more n [] done ∙ none (done ++ (entry done n ∷ [])) ∙ ap (λ (x : List A). x ++ (entry x n ∷ [])) (sym (none done))
  table-last (m ∷ ns) n done =
      more m (ns ++ (n ∷ [])) done ∙ table-last ns n (done ++ (entry done m ∷ [])) ∙ ap (λ (x : List A). x ++ (entry x n ∷ [])) (sym (more m ns done))

  table-length : (ns : List Node) (done : List A) → length (from ns done) ≡ length done + length ns
  table-length [] done = ap length (none done) ∙ sym (add-zero (length done))
  table-length (n ∷ ns) done =
      let e = length-append done (entry done n ∷ []) in
      ap length (more n ns done) ∙ table-length ns (done ++ (entry done n ∷ [])) ∙ omega arith

  -- one node more
  table-next : (ns : List Node) (n : Node) (out : List A) (i : ℕ) (v : A) → length ns ≡ i → i < length out → Holds d out (from ns [])
      → v ≡ entry out n → Holds d (set out i v) (from (ns ++ (n ∷ [])) [])
  table-next ns n out i v e l h k =
      let done = from ns [] in
      subst (Holds d (set out i v)) (ap (λ (x : A). done ++ (x ∷ [])) (k ∙ agree out done h n) ∙ sym (table-last ns n []))
      (holds_next d out done i v (table-length ns [] ∙ omega arith) l h)

-- ---- values and uses look at the entries below a node, and not at how they are listed

value-agree : (facts : ℕ) (a b : List Bool) → Holds false a b → (n : Node) → value facts a n ≡ value facts b n
unfolding value
value-agree facts a b h (literal v) = refl
value-agree facts a b h (fact f) = refl
value-agree facts a b h (conj is) = all_agree (on a) (on b) (λ i. h.at i) is
value-agree facts a b h (disj is) = any_agree (on a) (on b) (λ i. h.at i) is
value-agree facts a b h (neg i) = ap not (h.at i)

pub values-next : (facts : ℕ) (ns : List Node) (n : Node) (out : List Bool) (i : ℕ) (v : Bool) → length ns ≡ i → i < length out
    → Holds false out (values_from facts ns []) → v ≡ value facts out n → Holds false (set out i v) (values_from facts (ns ++ (n ∷ [])) [])
unfolding values_from
values-next facts = table-next false (value facts) (values_from facts) (λ done. refl) (λ n ns done. refl) (value-agree facts)

uses-agree : (a b : List ℕ) → Holds 0 a b → (n : Node) → uses a n ≡ uses b n
unfolding uses
uses-agree a b h (literal v) = refl
uses-agree a b h (fact f) = refl
uses-agree a b h (conj is) = union-agree (λ i. get_or a i 0) (λ i. get_or b i 0) (λ i. h.at i) is
uses-agree a b h (disj is) = union-agree (λ i. get_or a i 0) (λ i. get_or b i 0) (λ i. h.at i) is
uses-agree a b h (neg i) = h.at i

pub uses-next : (ns : List Node) (n : Node) (out : List ℕ) (i v : ℕ) → length ns ≡ i → i < length out → Holds 0 out (uses_from ns [])
    → v ≡ uses out n → Holds 0 (set out i v) (uses_from (ns ++ (n ∷ [])) [])
unfolding uses_from
uses-next = table-next 0 uses uses_from (λ done. refl) (λ n ns done. refl) uses-agree

-- over a plan's own nodes these are the definition's
pub values_of_lem : (plan : Plan) (facts : ℕ) → values_from facts (nodes_of plan.nodes) [] ≡ values (plan_of plan) facts
unfolding plan_of values
values_of_lem plan facts = refl

pub uses_of_lem : (plan : Plan) → uses_from (nodes_of plan.nodes) [] ≡ node_uses (plan_of plan)
unfolding plan_of node_uses
uses_of_lem plan = refl
