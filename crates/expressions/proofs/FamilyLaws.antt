-- Laws of the families of a number and a scope: what no observation means by the first of them.
use mathlib.Core.Path.{◌≡◌, refl, ap, ap₂, ◌∙◌}
use mathlib.Core.Bool.{Bool, true, false, ◌&&◌, cond, and-false}
use mathlib.Core.List.{List, [], ◌∷◌, ◌++◌, map, flat_map}
use Prim.Native.Nat.{ℕ, ◌+◌, ◌≤◌, ◌<◌, min}
use lib.ListN.{length, get_or, take, drop}
use native.Mathlib.Omega.{arith}
use lib.Dec.{eqb}
use borrow.Author.Tests.{eq-eqb, ne_eqb}
use Rattle.sets.specs.paper.Sets.{all_of}
use Rattle.records.specs.paper.Case as paper
use Rattle.records.specs.paper.Case.{Observation}
use Rattle.records.specs.code.Decoded.{family_of}
use Rattle.records.specs.declared.case.Family.{Family}
use Rattle.expressions.specs.paper.Bindings.{scoped, unknown, known, weighed, in_family}
use Rattle.expressions.specs.code.Codes.{bound_of, silent_code}
use Rattle.expressions.proofs.Rests.{made-next, made_none}

-- ---- one record more

family-first : (number scope : ℕ) (m : Family) (ms : List paper.Family)
    → scoped (number ∷ []) scope (family_of m ∷ ms) ≡ cond (eqb m.number number && eqb m.scope scope) (family_of m ∷ []) [] ++ scoped (number ∷ []) scope ms
unfolding scoped flat_map family_of all_of
family-first number scope m ms = pick (eqb m.number number)
  where
    pick : (t : Bool) → cond ((t && true) && eqb m.scope scope) (family_of m ∷ []) [] ++ scoped (number ∷ []) scope ms
        ≡ cond (t && eqb m.scope scope) (family_of m ∷ []) [] ++ scoped (number ∷ []) scope ms
    pick true = refl
    pick false = refl

silent_first : (m : Family) (ms : List paper.Family) → silent_code (family_of m ∷ ms) ≡ cond m.complete 1 3
unfolding silent_code family_of
silent_first m ms = pick m.complete
  where
    pick : (b : Bool) → cond {A = ℕ} (eqb (length (cond b (m.evidence ∷ []) [])) 0) 3 1 ≡ cond b 1 3
    pick true = refl
    pick false = refl

-- ---- over the family records

module _ (items : List Family) (n number scope i : ℕ) where
  abbrev pub silent_from : ℕ → ℕ
  silent_from k = silent_code (scoped (number ∷ []) scope (drop k (map family_of (take n items))))

  pub silent_end : min n (length items) ≤ i → silent_from i ≡ 0
  unfolding silent_code scoped flat_map
  silent_end h = ap (λ (ms : List paper.Family). silent_code (scoped (number ∷ []) scope ms)) (made_none family_of items n i h)

  module _ (d : Family) (h : i < min n (length items)) where
    abbrev here : Family
    here = get_or items i d

    next : (t : Bool) → (eqb here.number number && eqb here.scope scope) ≡ t
        → silent_from i ≡ silent_code (cond t (family_of here ∷ []) [] ++ scoped (number ∷ []) scope (drop (i + 1) (map family_of (take n items))))
    next t e =
        ap (λ (ms : List paper.Family). silent_code (scoped (number ∷ []) scope ms)) (made-next family_of items n i d h)
        ∙ ap silent_code (family-first number scope here _)
        ∙ ap (λ (b : Bool). silent_code (cond b (family_of here ∷ []) [] ++ scoped (number ∷ []) scope (drop (i + 1) (map family_of (take n items))))) e

    pub silent_here : (b : Bool) → here.number ≡ number → eqb here.scope scope ≡ true → here.complete ≡ b → silent_from i ≡ cond b 1 3
    silent_here b k s e = next true (ap₂ ◌&&◌ (eq-eqb here.number number k) s) ∙ silent_first here _ ∙ ap (λ (b : Bool). cond {A = ℕ} b 1 3) e

    pub silent_other : (here.number ≡ number → ⊥) → silent_from i ≡ silent_from (i + 1)
    silent_other k = next false (ap (λ (b : Bool). b && eqb here.scope scope) (ne_eqb here.number number k))

    pub silent_scope : eqb here.scope scope ≡ false → silent_from i ≡ silent_from (i + 1)
    silent_scope s = next false (ap (λ (b : Bool). eqb here.number number && b) s ∙ and-false (eqb here.number number))

-- ---- the binding that follows

pub family-none : (ms : List paper.Family) (os : List Observation) → silent_code ms ≡ 0 → unknown ≡ in_family ms os
unfolding silent_code
family-none [] os e = refl
family-none (m ∷ ms) os e = pick (eqb (length m.complete) 0) e
  where
    pick : (b : Bool) → cond {A = ℕ} b 3 1 ≡ 0 → unknown ≡ weighed os (cond b unknown (known false))
    pick true e = absurd (omega arith)
    pick false e = absurd (omega arith)

pub family-some : (ms : List paper.Family) (os : List Observation) → (silent_code ms ≡ 0 → ⊥) → weighed os (bound_of (silent_code ms)) ≡ in_family ms os
unfolding silent_code bound_of
family-some [] os n = absurd (n refl)
family-some (m ∷ ms) os n = pick (eqb (length m.complete) 0)
  where
    pick : (b : Bool) → weighed os (bound_of (cond b 3 1)) ≡ weighed os (cond b unknown (known false))
    pick true = refl
    pick false = refl
