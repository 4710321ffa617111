-- Laws of a fact's sort and family, and of the binding by them.
use mathlib.Core.Path.{◌≡◌, refl, sym, ap, ◌∙◌, subst}
use mathlib.Core.Bool.{true, false}
use mathlib.Core.List.{List, [], ◌∷◌, map}
use Prim.Native.Nat.{ℕ, zero, suc, ◌+◌, ◌<◌}
use lib.ListN.{length, get_or, set, replicate, length-map, get_or-map}
use Rattle.sets.specs.paper.Sets.{has, below, numbers}
use Rattle.expressions.specs.code.Codes.{bound_of}
use Rattle.expressions.specs.code.Coded.{Holds}
use Rattle.records.specs.paper.Plan as paper
use Rattle.records.specs.paper.Plan.{get_fact, is_boolean}
use Rattle.records.specs.paper.Case.{Case, case_heading}
use Rattle.expressions.specs.paper.Bindings.{Bound, unbound, binding_by, bound_boolean, bound_relation, in_scope, scoped, in_family, observed, took_default_by, took_default, bindings, bindings_by, binding_of, frame_of}
use Rattle.expressions.specs.paper.Influence.{bound_facts}
use Rattle.expressions.proofs.ListLaws.{filled_at, fill_next}

module _ (P : paper.Plan) (C : Case) (set f : ℕ) where
  pub binding_none : has set f ≡ false → unbound ≡ binding_by P C set f
  unfolding binding_by
  binding_none h = rw h

  pub binding_boolean : has set f ≡ true → is_boolean (get_fact P f) ≡ true → bound_boolean P C f ≡ binding_by P C set f
  unfolding binding_by
  binding_boolean h b = rw (h, b)

  pub binding_relation : (k : ℕ) → has set f ≡ true → is_boolean (get_fact P f) ≡ false → (get_fact P f).family ≡ k ∷ []
      → in_family (scoped (k ∷ []) (case_heading C).scope C.families) (observed C f) ≡ binding_by P C set f
  unfolding binding_by bound_relation in_scope
  binding_relation k h b e = rw (h, b, e)

-- ---- the code's array of bindings: those of the facts below i, the rest unbound

map-set : {A B : Type 0} (f : A → B) (xs : List A) (i : ℕ) (v : A) → map f (set xs i v) ≡ set (map f xs) i (f v)
map-set f [] i v = refl
map-set f (x ∷ xs) zero v = refl
map-set f (x ∷ xs) (suc i) v = ap (λ (l : List _). f x ∷ l) (map-set f xs i v)

module _ (g : ℕ → Bound) where
  abbrev pub Filled : List ℕ → ℕ → Type 0
  Filled out i = Holds unbound (map bound_of out) (below i g)

  pub filled_none : (n : ℕ) → Filled (replicate n 0) 0
  unfolding bound_of below numbers
  filled_none n = record { at = λ k. get_or-map bound_of (replicate n 0) k 0 ∙ ap bound_of (filled_at n k 0) }

  pub filled_next : (out : List ℕ) (i v : ℕ) → i < length out → bound_of v ≡ g i → Filled out i → Filled (set out i v) (i + 1)
  filled_next out i v h e f =
      subst (λ (l : List Bound). Holds unbound l (below (i + 1) g)) (sym (map-set bound_of out i v))
      (fill_next unbound g (map bound_of out) i (bound_of v) (subst (λ (n : ℕ). i < n) (sym (length-map out bound_of)) h) f e)

  pub filled_end : (out : List ℕ) (n : ℕ) → Filled out n → (k : ℕ) → bound_of (get_or out k 0) ≡ get_or (below n g) k unbound
  unfolding bound_of
  filled_end out n f k = sym (get_or-map bound_of out k 0) ∙ f.at k

-- ---- the set of the facts to bind is that of those in use

pub bindings_by_lem : (P : paper.Plan) (C : Case) → bindings_by P C (bound_facts (frame_of P C)) ≡ bindings P C
unfolding bindings bindings_by binding_of
bindings_by_lem P C = refl

pub default_by : (P : paper.Plan) (C : Case) (f : ℕ) → took_default_by P C (bound_facts (frame_of P C)) f ≡ took_default P C f
unfolding took_default
default_by P C f = refl
