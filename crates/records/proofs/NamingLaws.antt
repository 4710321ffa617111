-- Laws of the tests of refusal 4, each of one record.
use mathlib.Core.Path.{◌≡◌, refl, sym, ap, ◌∙◌}
use mathlib.Core.Bool.{Bool, true, false, ◌&&◌, not, cond}
use mathlib.Core.List.{List, [], ◌∷◌}
use Prim.Native.Nat.{ℕ, zero, suc, ◌+◌, ◌≤◌, ◌<◌}
use native.Mathlib.Nat.{le_of_suc-le-suc, not-suc-le-zero}
use native.Mathlib.Omega.{arith}
use lib.Dec.{eqb, ltb}
use lib.ListN.{length, get_or}
use Rattle.sets.specs.paper.Sets.{all_of, below, numbers}
use Rattle.records.specs.paper.Plan as paper
use Rattle.records.specs.code.Decoded.{if_given, node_by, fact_of, decisions_of}
use Rattle.records.specs.code.Named.{all_under}
use Rattle.records.proofs.ListLaws.{all_mapped}
use Rattle.records.specs.declared.plan.Fact.{Fact}
use Rattle.records.specs.declared.plan.Decisions.{Decisions}

pub neg-sound : (P : paper.Plan) (k s n : ℕ) (is : List ℕ) → 4 ≤ s → ltb n k ≡ paper.node_sound P k (node_by s n is)
unfolding node_by paper.node_sound
neg-sound P k zero n is h = absurd (omega arith)
neg-sound P k (suc zero) n is h = absurd (omega arith)
neg-sound P k (suc (suc zero)) n is h = absurd (omega arith)
neg-sound P k (suc (suc (suc zero))) n is h = absurd (omega arith)
neg-sound P k (suc (suc (suc (suc s)))) n is h = refl

pub list-sound : (P : paper.Plan) (k s n : ℕ) (is : List ℕ) → (s ≡ 0 → ⊥) → (s ≡ 1 → ⊥) → s < 4 → all_under k is ≡ paper.node_sound P k (node_by s n is)
unfolding node_by paper.node_sound
list-sound P k zero n is h₀ h₁ h = absurd (h₀ refl)
list-sound P k (suc zero) n is h₀ h₁ h = absurd (h₁ refl)
list-sound P k (suc (suc zero)) n is h₀ h₁ h = refl
list-sound P k (suc (suc (suc zero))) n is h₀ h₁ h = refl
list-sound P k (suc (suc (suc (suc s)))) n is h₀ h₁ h = absurd (omega arith)

pub boolean_of_lem : (x : Fact) → paper.is_boolean (fact_of x) ≡ x.boolean
unfolding paper.is_boolean fact_of
boolean_of_lem x = go x.boolean
  where
    go : (b : Bool) → eqb (length (if_given (not b) x.family)) 0 ≡ b
    go true = refl
    go false = refl

pub family_of_lem : (y : Fact) → y.boolean ≡ false → (fact_of y).family ≡ y.family ∷ []
unfolding fact_of
family_of_lem y b = rw b

-- of an election that may be there
pub all_given : {A : Type 0} (f : A → Bool) (b : Bool) (x : A) → all_of f (if_given b x) ≡ cond b (f x) true
unfolding all_of
all_given f true x = go (f x)
  where
    go : (b : Bool) → (b && true) ≡ b
    go true = refl
    go false = refl
all_given f false x = refl

-- the edges of decisions, and a test of all of them
abbrev pub entries : List ℕ → ℕ → List ℕ
entries list n = below n (λ i. get_or list i 0)

pub all_edges : (f : ℕ → Bool) (d : Decisions) → all_of (λ x. f x.edge) (decisions_of d) ≡ all_of f (entries d.edges d.count)
unfolding decisions_of below
all_edges f d = all_mapped (λ (x : paper.Decision). f x.edge) _ (numbers d.count 0) ∙ sym (all_mapped f _ (numbers d.count 0))

-- ---- records with their numbers

pub length-each : {A B : Type 0} (f : ℕ → A → B) (k : ℕ) (xs : List A) → length (paper.each_from f k xs) ≡ length xs
unfolding paper.each_from
length-each f k [] = refl
length-each f k (x ∷ xs) = ap suc (length-each f (k + 1) xs)

pub get_or-each : {A B : Type 0} (f : ℕ → A → B) (k i : ℕ) (xs : List A) (d : A) (e : B) → i < length xs → get_or (paper.each_from f k xs) i e ≡ f (k + i) (get_or xs i d)
unfolding paper.each_from
get_or-each f k i [] d e h = absurd (not-suc-le-zero h)
get_or-each f k zero (x ∷ xs) d e h = ap (λ (j : ℕ). f j x) (omega arith)
get_or-each f k (suc i) (x ∷ xs) d e h = get_or-each f (k + 1) i xs d e (le_of_suc-le-suc h) ∙ ap (λ (j : ℕ). f j (get_or xs i d)) (omega arith)
