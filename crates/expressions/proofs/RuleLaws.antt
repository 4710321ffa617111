-- Laws of the list of a plan's rules, as it is put together.
use Prim.Native.Nat.{ℕ, ◌+◌, ◌≤◌, ◌<◌, min}
use mathlib.Core.Path.{◌≡◌, refl, sym, ap, ap₂, ◌∙◌, subst, subst₂}
use mathlib.Core.List.{List, [], ◌∷◌, ◌++◌, map, map-append, map-map, append_assoc, append-nil}
use native.Mathlib.Nat.{add-zero, add_assoc, le_refl}
use native.Mathlib.Omega.{arith}
use lib.ListN.{length, get_or, take, set, length-append}
use lib.Seq.{take-length, take-suc, take-suc-set}
use Rattle.std.proofs.Common.{add-one}
use Rattle.sets.specs.paper.Sets.{below, All}
use Rattle.sets.proofs.Every.{all_parts, all_then, all_of_map}
use Rattle.records.proofs.UsedLaws.{used_take}
use Rattle.records.specs.paper.Plan.{Plan}
use Rattle.expressions.specs.paper.Rules.{rule_sets, pair, with_anchor, edge, cut, attachment, bar, ends_of, with_anchor_of}
use Rattle.expressions.specs.code.Listed.{Rules, lists, Added, Ruled, Tells, uses_of, persons_of, held_by_cut, held_by_bar}
use Rattle.expressions.proofs.ListLaws.{below-map, front_below, made-next, made_all, made_each}

added_none : (r : Rules) → Added r r [] []
added_none r = record { count = sym (add-zero r.count); uses = sym (append-nil (uses_of r)); persons = sym (append-nil (persons_of r)) }

pub added_then : {a b c : Rules} {us ps vs qs : List ℕ} → Added a b us ps → Added b c vs qs → Added a c (us ++ vs) (ps ++ qs)
added_then {a} {b} {c} {us} {ps} {vs} {qs} h k =
    let l = length-append us vs in
    let x = h.count in
    let y = k.count in
    record {
      count = omega arith;
      uses = k.uses ∙ ap (λ (l : List ℕ). l ++ vs) h.uses ∙ append_assoc (uses_of a) us vs;
      persons = k.persons ∙ ap (λ (l : List ℕ). l ++ qs) h.persons ∙ append_assoc (persons_of a) ps qs;
    }

-- a rule that stands for x, behind those that stand for xs
added_next : {A : Type 0} (g h : A → ℕ) (at i : ℕ) {us ps vs qs vs' qs' : List ℕ} (xs ys : List A) (x : A) {u p : ℕ}
    → Added (lists at us ps) (lists (at + i) vs qs) (map g xs) (map h xs) → Added (lists (at + i) vs qs) (lists (at + i + 1) vs' qs') (u ∷ []) (p ∷ [])
    → u ≡ g x → p ≡ h x → ys ≡ xs ++ (x ∷ []) → Added (lists at us ps) (lists (at + (i + 1)) vs' qs') (map g ys) (map h ys)
added_next g h at i {us} {ps} {vs} {qs} {vs'} {qs'} xs ys x {u} {p} before one e k s =
    subst (λ (n : ℕ). Added (lists at us ps) (lists n vs' qs') (map g ys) (map h ys)) (add_assoc at i 1)
    (subst₂ (Added (lists at us ps) (lists (at + i + 1) vs' qs')) (last g e) (last h k) (added_then before one))
  where
    last : (f : _ → ℕ) {v : ℕ} → v ≡ f x → map f xs ++ (v ∷ []) ≡ map f ys
    last f e = ap (λ (v : ℕ). map f xs ++ (v ∷ [])) e ∙ sym (map-append f xs (x ∷ [])) ∙ ap (map f) (sym s)

-- a rule stored behind those that are there
added_one : (at u p : ℕ) (us ps : List ℕ) → at < length us → at < length ps → Added (lists at us ps) (lists (at + 1) (set us at u) (set ps at p)) (u ∷ []) (p ∷ [])
added_one at u p us ps l k = record {
  count = refl;
  uses = rw add-one (take-suc-set us at u l);
  persons = rw add-one (take-suc-set ps at p k);
}

-- ---- the rules of some records, one after another: those of the first i are there

pub record Ruling {A : Type 0} (says : A → ℕ × ℕ → Type 0) (xs : List A) (at : ℕ) (us ps : List ℕ) (i : ℕ) (vs qs : List ℕ) : Type 0 where
  pub ruled : Ruled says (take i xs) (lists at us ps) (lists (at + i) vs qs)

module _ {A : Type 0} {says : A → ℕ × ℕ → Type 0} {xs : List A} {at : ℕ} {us ps : List ℕ} where
  pub ruling_none : Ruling says xs at us ps 0 us ps
  ruling_none = record { ruled = record { added = λ g h t. subst (λ (k : ℕ). Added (lists at us ps) (lists k us ps) [] []) (sym (add-zero at)) (added_none (lists at us ps)) } }

  pub ruling_next : {i : ℕ} {vs qs : List ℕ} → Ruling says xs at us ps i vs qs → (x : A) (y : ℕ × ℕ) → i < length xs → x ≡ get_or xs i x
      → at + i < length vs → at + i < length qs → says x y → Ruling says xs at us ps (i + 1) (set vs (at + i) y.0) (set qs (at + i) y.1)
  ruling_next {i} {vs} {qs} w x y l e v q s = record { ruled = record { added = more } }
    where
      cut : take (i + 1) xs ≡ take i xs ++ (x ∷ [])
      cut = rw (add-one i, take-suc xs i x l, ← e) refl

      more : (g h : A → ℕ) → All (Tells says g h) (take (i + 1) xs)
          → Added (lists at us ps) (lists (at + (i + 1)) (set vs (at + i) y.0) (set qs (at + i) y.1)) (map g (take (i + 1) xs)) (map h (take (i + 1) xs))
      more g h t =
          let told = all_parts (Tells says g h) (take i xs) (x ∷ []) (subst (All (Tells says g h)) cut t) in
          let here = told.1.0 y s in
          added_next g h at i (take i xs) (take (i + 1) xs) x (w.ruled.added g h told.0) (added_one (at + i) y.0 y.1 vs qs v q) here.0 here.1 cut

  pub ruling_end : {i : ℕ} {vs qs : List ℕ} → Ruling says xs at us ps i vs qs → i ≡ length xs → Ruled says xs (lists at us ps) (lists (at + length xs) vs qs)
  ruling_end {i} {vs} {qs} w e = subst (λ (ys : List A). Ruled says ys (lists at us ps) (lists (at + length xs) vs qs)) (ap (λ (k : ℕ). take k xs) e ∙ take-length xs) (subst (λ (k : ℕ). Ruled says (take i xs) (lists at us ps) (lists (at + k) vs qs)) e w.ruled)

-- of the records in use: what holds of what each stands for, and the rules that they stand for
module _ {A B : Type 0} (make : A → B) (items : List A) (count most n : ℕ) (long : length items ≡ most) (some : n ≡ min count most) (Q : B → Type 0) (each : All Q (map make (take count items))) where
  pub each_in_use : {R : A → Type 0} → ((x : A) → Q (make x) → R x) → All R (take n items)
  each_in_use {R} h =
      all_then (λ x. Q (make x)) R h (take n items) (subst (All (λ x. Q (make x))) (sym (used_take items count most n long some)) (all_of_map make Q (take count items) each))

  pub ruled_in_use : (g h : B → ℕ) {says : A → ℕ × ℕ → Type 0} {before after : Rules} → Ruled says (take n items) before after
      → ((x : A) → Q (make x) → Tells says (λ y. g (make y)) (λ y. h (make y)) x)
      → Added before after (map g (map make (take count items))) (map h (map make (take count items)))
  ruled_in_use g h {says} {before} {after} r t =
      subst₂ (Added before after) (made g) (made h) (r.added (λ x. g (make x)) (λ x. h (make x)) (each_in_use t))
    where
      made : (f : B → ℕ) → map (λ x. f (make x)) (take n items) ≡ map f (map make (take count items))
      made f = ap (map (λ x. f (make x))) (used_take items count most n long some) ∙ sym (map-map f make (take count items))

-- ---- rules by number, as a list of them

pub below-list : {A B : Type 0} (g : A → B) (d : A) (xs : List A) → below (length xs) (λ i. g (get_or xs i d)) ≡ map g xs
below-list g d xs =
    sym (below-map g (length xs) (λ i. get_or xs i d)) ∙ ap (map g) (sym (front_below d xs (length xs) (le_refl (length xs))) ∙ take-length xs)

-- "edges, cuts, attachments with anchor, and bars"
pub rule_sets_lem : (P : Plan) → rule_sets P ≡ map ends_of P.edges ++ (map held_by_cut P.cuts ++ (map with_anchor_of P.attachments ++ map held_by_bar P.bars))
unfolding rule_sets pair edge cut attachment bar with_anchor
rule_sets_lem P =
    ap₂ ◌++◌ (below-list ends_of _ P.edges)
    (ap₂ ◌++◌ (below-list held_by_cut _ P.cuts) (ap₂ ◌++◌ (below-list with_anchor_of _ P.attachments) (below-list held_by_bar _ P.bars)))
