-- Whom a fact touches and which facts are bound, from the list of rules: what document 01 says kind by kind.
use Prim.Native.Nat.{ℕ, zero, suc}
use mathlib.Core.Path.{◌≡◌, refl, sym, ap, ap₂, ◌∙◌, subst, fun_ext}
use mathlib.Core.List.{List, [], ◌∷◌, ◌++◌, map, append_assoc}
use lib.ListN.{length, get_or}
use Rattle.sets.specs.paper.Sets.{has, one, union, only, set_of, below, numbers, union_below, union_of}
use Rattle.records.specs.paper.Plan.{get_fact}
use Rattle.expressions.specs.paper.Rules.{edge, cut, attachment, bar, status, pair, with_anchor, ends_of, with_anchor_of}
use Rattle.expressions.specs.paper.Influence.{Frame, uses_at, edge_uses, cut_uses, attachment_uses, bar_uses, status_uses, users_of, constraint_uses, bound_facts, touched, touch, touches, edge_used}
use Rattle.expressions.specs.code.Listed.{cut_used, held_by_cut, attachment_used, bar_used, held_by_bar, status_used, held_by_status, joining_uses, rule_uses, persons_by_rule, users_in, touched_by, touch_by, touches_by}
use Rattle.expressions.specs.code.Coded.{Holds}
use Rattle.expressions.proofs.ListLaws.{below_last}
use Rattle.sets.proofs.UnionLaws.{union_assoc, union-none, none-union, union_append}
use Rattle.expressions.proofs.RuleLaws.{below-list, rule_sets_lem}

abbrev itself : ℕ → ℕ
itself x = x

-- ---- a union below a number is one over a list

below-union : (n : ℕ) (f : ℕ → ℕ) → union_below n f ≡ union_of itself (below n f)
unfolding union_below union_of below numbers
below-union zero f = refl
below-union (suc n) f =
    ap₂ union (below-union n f) (sym (union-none (f n))) ∙ sym (union_append itself (below n f) (f n ∷ [])) ∙ ap (union_of itself) (sym (below_last n f))

list-union : {A : Type 0} (g : A → ℕ) (d : A) (xs : List A) → union_below (length xs) (λ i. g (get_or xs i d)) ≡ union_of itself (map g xs)
list-union g d xs = below-union (length xs) (λ i. g (get_or xs i d)) ∙ ap (union_of itself) (below-list g d xs)

-- ---- users, kind by kind and in one list

users_map : {A : Type 0} (f : ℕ) (g h : A → ℕ) (xs : List A) → users_in f (map g xs) (map h xs) ≡ union_of itself (map (λ x. only (has (g x) f) (h x)) xs)
unfolding users_in union_of
users_map f g h [] = refl
users_map f g h (x ∷ xs) = ap (union (only (has (g x) f) (h x))) (users_map f g h xs)

users_append : {A : Type 0} (f : ℕ) (g h : A → ℕ) (xs : List A) (us ps : List ℕ) →
    users_in f (map g xs ++ us) (map h xs ++ ps) ≡ union (users_in f (map g xs) (map h xs)) (users_in f us ps)
unfolding users_in
users_append f g h [] us ps = sym (none-union (users_in f us ps))
users_append f g h (x ∷ xs) us ps =
    ap (union (only (has (g x) f) (h x))) (users_append f g h xs us ps)
    ∙ sym (union_assoc (only (has (g x) f) (h x)) (users_in f (map g xs) (map h xs)) (users_in f us ps))

users_list : {A : Type 0} (f : ℕ) (g h : A → ℕ) (d : A) (xs : List A) → users_of (length xs) (λ i. g (get_or xs i d)) (λ i. h (get_or xs i d)) f ≡ users_in f (map g xs) (map h xs)
unfolding users_of
users_list f g h d xs = list-union (λ x. only (has (g x) f) (h x)) d xs ∙ sym (users_map f g h xs)

-- five lists, the last put behind the others
five : (a b c d e : List ℕ) → (a ++ (b ++ (c ++ d))) ++ e ≡ a ++ (b ++ (c ++ (d ++ e)))
five a b c d e =
    append_assoc a (b ++ (c ++ d)) e ∙ ap (λ (l : List ℕ). a ++ l) (append_assoc b (c ++ d) e ∙ ap (λ (l : List ℕ). b ++ l) (append_assoc c d e))

union_five : (a b c d e : List ℕ) → union_of itself ((a ++ (b ++ (c ++ d))) ++ e)
    ≡ union (union_of itself a) (union (union_of itself b) (union (union_of itself c) (union (union_of itself d) (union_of itself e))))
union_five a b c d e =
    ap (union_of itself) (five a b c d e) ∙ union_append itself a (b ++ (c ++ (d ++ e)))
    ∙ ap (union (union_of itself a)) (union_append itself b (c ++ (d ++ e))
    ∙ ap (union (union_of itself b)) (union_append itself c (d ++ e) ∙ ap (union (union_of itself c)) (union_append itself d e)))

module _ (F : Frame) where
  -- "Only facts that a condition, defeater or constraint uses are bound"
  pub bound-list : bound_facts F ≡ union (constraint_uses F) (union_of itself (rule_uses (uses_at F.plan) F.plan))
  unfolding bound_facts rule_uses joining_uses edge_uses cut_uses attachment_uses bar_uses status_uses edge cut attachment bar status
  bound-list =
      let P = F.plan in
      let at = uses_at P in
      ap (union (constraint_uses F))
      (ap₂ union (list-union (edge_used at) _ P.edges) (ap₂ union (list-union (cut_used at) _ P.cuts)
      (ap₂ union (list-union (attachment_used at) _ P.attachments) (ap₂ union (list-union (bar_used at) _ P.bars) (list-union (status_used at) _ P.statuses))))
      ∙ sym (union_five (map (edge_used at) P.edges) (map (cut_used at) P.cuts) (map (attachment_used at) P.attachments) (map (bar_used at) P.bars) (map (status_used at) P.statuses)))

  -- "all persons of rules using it (defeaters too)"
  users_all : (f : ℕ) → users_in f (rule_uses (uses_at F.plan) F.plan) (persons_by_rule F.plan)
      ≡ union (users_of (length F.plan.edges) (edge_uses F.plan) (pair F.plan) f)
      (union (users_of (length F.plan.cuts) (cut_uses F.plan) (λ i. (cut F.plan i).members) f)
      (union (users_of (length F.plan.attachments) (attachment_uses F.plan) (with_anchor F.plan) f)
      (union (users_of (length F.plan.bars) (bar_uses F.plan) (λ i. (bar F.plan i).members) f)
      (users_of (length F.plan.statuses) (status_uses F.plan) (λ i. one (status F.plan i).person) f))))
  unfolding rule_uses joining_uses persons_by_rule edge_uses cut_uses attachment_uses bar_uses status_uses edge cut attachment bar status pair with_anchor
  users_all f =
      let P = F.plan in
      let at = uses_at P in
      ap₂ (users_in f) (five (map (edge_used at) P.edges) (map (cut_used at) P.cuts) (map (attachment_used at) P.attachments) (map (bar_used at) P.bars) (map (status_used at) P.statuses))
      (ap (λ (l : List ℕ). l ++ map held_by_status P.statuses) (rule_sets_lem P)
      ∙ five (map ends_of P.edges) (map held_by_cut P.cuts) (map with_anchor_of P.attachments) (map held_by_bar P.bars) (map held_by_status P.statuses))
      ∙ users_append f (edge_used at) ends_of P.edges _ _
      ∙ ap₂ union (sym (users_list f (edge_used at) ends_of _ P.edges)) (users_append f (cut_used at) held_by_cut P.cuts _ _
      ∙ ap₂ union (sym (users_list f (cut_used at) held_by_cut _ P.cuts)) (users_append f (attachment_used at) with_anchor_of P.attachments _ _
      ∙ ap₂ union (sym (users_list f (attachment_used at) with_anchor_of _ P.attachments)) (users_append f (bar_used at) held_by_bar P.bars _ _
      ∙ ap₂ union (sym (users_list f (bar_used at) held_by_bar _ P.bars)) (sym (users_list f (status_used at) held_by_status _ P.statuses)))))

  touched-list : (f : ℕ) → touched F f ≡ touched_by (rule_uses (uses_at F.plan) F.plan) (persons_by_rule F.plan) (constraint_uses F) F.roster f (get_fact F.plan f)
  unfolding touched touched_by
  touched-list f = ap (λ (x : ℕ). union (set_of (get_fact F.plan f).tuple) (union (only (has (constraint_uses F) f) F.roster) x)) (sym (users_all f))

  pub touches-list : touches F ≡ touches_by (rule_uses (uses_at F.plan) F.plan) (persons_by_rule F.plan) (constraint_uses F) F.roster (bound_facts F) F.plan.facts
  unfolding touches touch touches_by touch_by get_fact
  touches-list = ap (below (length F.plan.facts)) (fun_ext (λ f. ap (only (has (bound_facts F) f)) (touched-list f)))

  -- what the code's lists and masks make of it
  pub touches_from : (us ps : List ℕ) (used bound : ℕ) (out : List ℕ) → us ≡ rule_uses (uses_at F.plan) F.plan → ps ≡ persons_by_rule F.plan
      → used ≡ constraint_uses F → bound ≡ bound_facts F → Holds 0 out (touches_by us ps used F.roster bound F.plan.facts) → Holds 0 out (touches F)
  touches_from us ps used bound out e k u b h =
      subst (Holds 0 out) (ap₂ (λ (x y : List ℕ). touches_by x y used F.roster bound F.plan.facts) e k
      ∙ ap₂ (λ (x y : ℕ). touches_by (rule_uses (uses_at F.plan) F.plan) (persons_by_rule F.plan) x F.roster y F.plan.facts) u b ∙ sym touches-list) h
