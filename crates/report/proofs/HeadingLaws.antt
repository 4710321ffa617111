-- Laws of a case's heading: the persons of all rules from the list of their sets, and the first of the refusals 8, 9 and 12.
use mathlib.Core.Path.{◌≡◌, refl, sym, ap, ap₂, ◌∙◌}
use mathlib.Core.List.{List, [], ◌∷◌, ◌++◌, map}
use Prim.Native.Nat.{ℕ, ◌+◌}
use Rattle.std.specs.List.{fold}
use Rattle.sets.specs.paper.Sets.{union, below, union_below, union_of}
use Rattle.records.specs.paper.Plan.{Plan}
use Rattle.expressions.specs.paper.Rules.{edge_count, cut_count, attachment_count, bar_count, status_count, cut, bar, status, pair, with_anchor, rule_sets, rule_persons}
use Rattle.expressions.specs.code.Listed.{held_by_status}
use Rattle.expressions.proofs.RuleLaws.{below-list}
use Rattle.sets.proofs.UnionLaws.{union_assoc, union_append, union-none, none-union}
use Rattle.worlds.proofs.DiscretionLaws.{union-below}
use Rattle.report.specs.code.Opening.{itself}

-- ---- taken in one after another

folded-onto : {A : Type 0} (f : A → ℕ) (m : ℕ) (xs : List A) → fold (λ a x. union a (f x)) m xs ≡ union m (union_of f xs)
unfolding union_of
folded-onto f m [] = sym (union-none m)
folded-onto f m (x ∷ xs) = folded-onto f (union m (f x)) xs ∙ union_assoc m (f x) (union_of f xs)

pub folded-union : {A : Type 0} (f : A → ℕ) (xs : List A) → fold (λ a x. union a (f x)) 0 xs ≡ union_of f xs
folded-union f xs = folded-onto f 0 xs ∙ none-union (union_of f xs)

-- over entries that are made from others
pub union-map : {A B : Type 0} (f : B → ℕ) (g : A → B) (xs : List A) → union_of f (map g xs) ≡ union_of (λ x. f (g x)) xs
unfolding union_of
union-map f g [] = refl
union-map f g (x ∷ xs) = ap (union (f (g x))) (union-map f g xs)

-- ---- the persons of all rules

-- a union over two lists and one set more
union_then : (a b : List ℕ) (e : ℕ) → union (union_of itself (a ++ b)) e ≡ union (union_of itself a) (union (union_of itself b) e)
union_then a b e = ap (λ (x : ℕ). union x e) (union_append itself a b) ∙ union_assoc (union_of itself a) (union_of itself b) e

status-union : (P : Plan) → union_of held_by_status P.statuses ≡ union_below (status_count P) (λ i. held_by_status (status P i))
unfolding status
status-union P =
    sym (union-map itself held_by_status P.statuses) ∙ ap (union_of itself) (sym (below-list held_by_status _ P.statuses))
    ∙ union-below itself (status_count P) (λ i. held_by_status (status P i))

pub persons_are : (P : Plan) → union (union_of itself (rule_sets P)) (union_of held_by_status P.statuses) ≡ rule_persons P
unfolding rule_sets rule_persons
persons_are P =
    let es = below (edge_count P) (pair P) in
    let bs = below (cut_count P) (λ i. (cut P i).members) in
    let cs = below (attachment_count P) (with_anchor P) in
    let ds = below (bar_count P) (λ i. (bar P i).members) in
    let e = union_of held_by_status P.statuses in
    union_then es (bs ++ (cs ++ ds)) e
    ∙ ap₂ union (union-below itself (edge_count P) (pair P)) (union_then bs (cs ++ ds) e
    ∙ ap₂ union (union-below itself (cut_count P) (λ i. (cut P i).members)) (union_then cs ds e
    ∙ ap₂ union (union-below itself (attachment_count P) (with_anchor P))
    (ap₂ union (union-below itself (bar_count P) (λ i. (bar P i).members)) (status-union P))))
