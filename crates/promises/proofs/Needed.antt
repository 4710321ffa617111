-- Each clause of the circle is needed: with any one left out, strangers do show. So is the difference between Known and a Conflict of one value.
use mathlib.Core.Path.{subst, ◌∙◌, ap, sym, ◌≡◌, refl}
use mathlib.Core.Bool.{Bool, true, false, ◌&&◌, not, true≢false}
use mathlib.Core.List.{List, [], ◌∷◌, map}
use Prim.Native.Nat.{ℕ, ◌<◌}
use lib.ListN.{drop, get_or, length, get_or-map}
use borrow.Author.Tests.{ltb-true, eqb-true, eq-eqb}
use Rattle.sets.specs.paper.Sets.{numbers, below, All}
use Rattle.records.specs.paper.Plan.{Plan}
use Rattle.sets.proofs.BelowLaws.{any_false}
use Rattle.sets.proofs.LoopLaws.{get_or-below, all_at}
use Rattle.expressions.specs.paper.Rules.{fact_count, with_anchor, rule_sets}
use Rattle.expressions.specs.paper.Influence.{Frame, edge_uses, touched, touch, touches, joins, circle, touches_circle}
use Rattle.expressions.specs.paper.Bindings.{frame_of, conflict, unknown, known, unbound, Bound, both, just, binding_of}
use Rattle.expressions.specs.paper.Variables.{choices}
use Rattle.promises.specs.Private.{Private}
use Rattle.promises.specs.Weaker.{none, edge_uses_but, touched_but, touch_but, with_anchor_but, joins_but, touches_but}
use Rattle.promises.proofs.Sanity.{Shown, table, one_candidate, line_room, event_room, the_plan, first, second, Found, found, expected, number, same_bound, same_values, computed}

-- ---- with none left out they are document 01's
whole : touches_but none ≡ touches_circle
unfolding touches_but joins_but with_anchor_but touch_but touched_but edge_uses_but touches_circle circle joins touches touch touched rule_sets with_anchor edge_uses
whole = refl

-- ---- bound alike, from the tests

abbrev numbered : ℕ → Bound
numbered n = get_or (unbound ∷ unknown ∷ known false ∷ known true ∷ conflict (just false) ∷ conflict (just true) ∷ conflict both ∷ []) n unbound

back : (x : Bound) → numbered (number x) ≡ x
back unbound = refl
back unknown = refl
back (known false) = refl
back (known true) = refl
back (conflict (just false)) = refl
back (conflict (just true)) = refl
back (conflict both) = refl

bound-true : (x y : Bound) → same_bound x y ≡ true → x ≡ y
bound-true x y e = sym (back x) ∙ ap numbered (eqb-true (number x) (number y) e) ∙ back y

-- ---- a row refutes the statement that leaves its clause out

alike_near : (a b : Bool) → (a && not b) ≡ false → a ≡ true → b ≡ true
alike_near true true e z = refl
alike_near true false e z = sym e
alike_near false b e z = absurd (true≢false (sym z))

module _ (same : Bound → Bound → Bool) (Alike : Bound → Bound → Type 0) (sound : (x y : Bound) → same x y ≡ true → Alike x y) where
  refuted : (x : Shown) → found same x ≡ expected x → Private (touches_but x.out) Alike → ⊥
  refuted x e private =
      true≢false (sym (eq-eqb x.value₁ x.value₂ values) ∙ ap (λ (r : Found). r.equal) e)
    where
      P : Plan
      P = the_plan x

      near : (f : ℕ) → f < fact_count P → touches_but x.out (frame_of P (first x)) f 0 ≡ true → Alike (binding_of P (first x) f) (binding_of P (second x) f)
      near f l t =
          sound (binding_of P (first x) f) (binding_of P (second x) f)
          (alike_near (touches_but x.out (frame_of P (first x)) f 0) (same (binding_of P (first x) f) (binding_of P (second x) f))
          (any_false (fact_count P) _ (ap (λ (r : Found). r.shows) e) f l) t)

      values : x.value₁ ≡ x.value₂
      values =
          sym (ap (λ (r : Found). r.byte₁) e)
          ∙ ap (λ (s : List ℕ). get_or s x.byte 0)
          (private x.plan x.case₁ x.case₂ line_room event_room line_room event_room P (first x) (second x) (ap (λ (r : Found). r.plan) e) (ap (λ (r : Found). r.first) e)
          (ap (λ (r : Found). r.second) e) (ap (λ (r : Found). r.refusal₁) e) (ap (λ (r : Found). r.refusal₂) e) (ap (λ (r : Found). r.headings) e)
          (ap (λ (r : Found). r.constraints) e) 0 0 (ltb-true 0 _ (ap (λ (r : Found). r.some) e)) (ap (λ (r : Found). r.person) e) near)
          ∙ ap (λ (r : Found). r.byte₂) e

-- ---- the clauses

each : (xs : List Shown) → map (found same_bound) xs ≡ map expected xs → All (λ x. found same_bound x ≡ expected x) xs
each [] e = tt
each (x ∷ xs) e = (ap (λ (rs : List Found). get_or rs 0 (expected x)) e, each xs (ap (drop 1) e))

-- the rows in order are the clauses
clauses : below none (λ k. k) ≡ map (λ x. x.out) table
unfolding table below numbers
clauses = refl

-- EACH CLAUSE IS NEEDED: without it strangers show
pub needed : (clause : ℕ) → clause < none → Private (touches_but clause) ◌≡◌ → ⊥
needed clause l private =
    refuted same_bound ◌≡◌ bound-true row (all_at (λ x. found same_bound x ≡ expected x) table one_candidate clause (each table computed.0) low)
    (subst (λ (k : ℕ). Private (touches_but k) ◌≡◌) is private)
  where
    row : Shown
    row = get_or table clause one_candidate

    low : clause < length table
    low = (unfold table in l)

    is : clause ≡ row.out
    is =
        sym (get_or-below none (λ k. k) one_candidate.out clause l) ∙ ap (λ (ks : List ℕ). get_or ks clause one_candidate.out) clauses
        ∙ get_or-map (λ x. x.out) table clause one_candidate

-- "both Known with one value, both Unknown, or Conflicts with equal candidates": equal values alone would not do, even with all clauses
pub told_apart : Private touches_circle (λ x y. choices x ≡ choices y) → ⊥
told_apart private =
    refuted same_values (λ x y. choices x ≡ choices y) (λ x y e. ap choices (bound-true (conflict (choices x)) (conflict (choices y)) e)) one_candidate computed.1
    (unfold one_candidate in subst (λ (t : Frame → ℕ → ℕ → Bool). Private t (λ x y. choices x ≡ choices y)) (sym whole) private)
