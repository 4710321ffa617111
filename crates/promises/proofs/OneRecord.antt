-- In an accepted plan the elections on one fact have one policy; in a case that can be bound a family has one record.
use mathlib.Core.Path.{◌≡◌, refl, sym, ap, ◌∙◌, subst}
use mathlib.Core.Bool.{Bool, true, false, not, cond, ◌&&◌, ◌||◌}
use mathlib.Core.List.{List, [], ◌∷◌, ◌++◌, map, flat_map}
use mathlib.Core.Logic.{inl, inr}
use Prim.Native.Nat.{ℕ, ◌≤◌}
use native.Mathlib.Omega.{arith}
use lib.ListN.{length}
use lib.Dec.{eqb}
use borrow.Author.Tests.{eqb-true, eqb-false, eq-eqb, ne_eqb}
use Rattle.sets.specs.paper.Sets.{all_of, any_of, All}
use Rattle.sets.proofs.SetLaws.{and_parts}
use Rattle.sets.proofs.Every.{all_then, all_tested}
use Rattle.sets.proofs.LoopLaws.{all_append}
use Rattle.sets.proofs.Local.{clash}
use Rattle.records.specs.paper.Fields.{fine}
use Rattle.records.specs.paper.Plan.{Plan, Election, get_fact, is_boolean, same_election, election_faults, election_records}
use Rattle.records.specs.paper.Case.{Case, Family, case_heading, families_at, booleans_at}
use Rattle.records.specs.promises.Sound.{Sound}
use Rattle.records.proofs.ReadLaws.{of_fine, past-faults, not_faulty}
use Rattle.expressions.specs.paper.Bindings.{elections_in, elections, scoped, in_scope, family_faults, boolean_faults, bindable}
use Rattle.report.proofs.AmongLaws.{Among, all_each, in_right}

-- ---- lists

pub all_flat : {A B : Type 0} (Q : B → Type 0) (f : A → List B) (xs : List A) → All (λ x. All Q (f x)) xs → All Q (flat_map f xs)
unfolding flat_map
all_flat Q f [] h = tt
all_flat Q f (x ∷ xs) h = all_append Q (f x) (flat_map f xs) h.0 (all_flat Q f xs h.1)

map_all : {A B : Type 0} (Q : B → Type 0) (f : A → B) (xs : List A) → All (λ x. Q (f x)) xs → All Q (map f xs)
map_all Q f [] h = tt
map_all Q f (x ∷ xs) h = (h.0, map_all Q f xs h.1)

any_none : {A : Type 0} (f : A → Bool) (xs : List A) → any_of f xs ≡ false → (x : A) → Among x xs → f x ≡ false
unfolding any_of
any_none f [] e x h = elim h [ ]
any_none f (y ∷ ys) e x (inl same) = ap f same ∙ first (f y) (any_of f ys) e
  where
    first : (a b : Bool) → (a || b) ≡ false → a ≡ false
    first true b e = e
    first false b e = refl
any_none f (y ∷ ys) e x (inr later) = any_none f ys (rest (f y) (any_of f ys) e) x later
  where
    rest : (a b : Bool) → (a || b) ≡ false → b ≡ false
    rest true b e = clash refl e
    rest false b e = e

-- ---- elections on one fact have one policy, in a plan that is accepted

abbrev pub first_policy : List Election → ℕ
first_policy [] = 0
first_policy (e ∷ es) = e.policy

abbrev pub OnePolicy : List Election → Type 0
OnePolicy es = All (λ e. e.policy ≡ first_policy es) es

same-policy : (e x : Election) → e.fact ≡ x.fact → same_election e x ≡ true → e.policy ≡ x.policy
unfolding same_election
same-policy e x k h =
    let rest = eqb e.policy x.policy && eqb e.citation x.citation in
    let s : (eqb e.actor x.actor && rest) ≡ true = rw (eq-eqb e.fact x.fact k) at h in
    eqb-true e.policy x.policy (and_parts (eqb e.policy x.policy) (eqb e.citation x.citation) (and_parts (eqb e.actor x.actor) rest s).1).0

-- of one record
abbrev on_fact : ℕ → List Election → List Election
on_fact f es = flat_map (λ e. cond (eqb e.fact f) (e ∷ []) []) es

-- those of later records agree with one that came before
later-policy : (f : ℕ) (x : Election) → x.fact ≡ f → (earlier : List Election) → Among x earlier → (ess : List (List Election))
    → All (λ n. n ≡ 0) (election_faults earlier ess) → All (λ e. e.policy ≡ x.policy) (elections_in ess f)
unfolding elections_in election_faults flat_map
later-policy f x k earlier a [] z = tt
later-policy f x k earlier a (es ∷ ess) z =
    all_append (λ e. e.policy ≡ x.policy) (on_fact f es) (elections_in ess f) here (later-policy f x k (es ++ earlier) (in_right x es earlier a) ess z.1)
  where
    one : (e : Election) → all_of (same_election e) earlier ≡ true → (b : Bool) → eqb e.fact f ≡ b → All (λ e. e.policy ≡ x.policy) (cond b (e ∷ []) [])
    one e t false q = tt
    one e t true q =
        (same-policy e x (eqb-true e.fact f q ∙ sym k) (all_each (λ y. same_election e y ≡ true) earlier (all_tested (same_election e) earlier t) x a), tt)

    here : All (λ e. e.policy ≡ x.policy) (on_fact f es)
    here =
        all_flat (λ e. e.policy ≡ x.policy) (λ e. cond (eqb e.fact f) (e ∷ []) []) es
        (all_then (λ e. all_of (same_election e) earlier ≡ true) (λ e. All (λ e. e.policy ≡ x.policy) (cond (eqb e.fact f) (e ∷ []) []))
        (λ e t. one e t (eqb e.fact f) refl) es (all_tested (λ e. all_of (same_election e) earlier) es (not_faulty 6 _ z.0)))

one-policy : (f : ℕ) (ess : List (List Election)) (earlier : List Election) → All (λ n. n ≡ 0) (election_faults earlier ess) → All (λ es. length es ≤ 1) ess
    → OnePolicy (elections_in ess f)
unfolding elections_in election_faults flat_map
one-policy f [] earlier z o = tt
one-policy f ([] ∷ ess) earlier z o = one-policy f ess earlier z.1 o.1
one-policy f ((x ∷ []) ∷ ess) earlier z o = pick (eqb x.fact f) refl (one-policy f ess (x ∷ earlier) z.1 o.1)
  where
    pick : (b : Bool) → eqb x.fact f ≡ b → OnePolicy (elections_in ess f) → OnePolicy ((cond b (x ∷ []) [] ++ []) ++ elections_in ess f)
    pick true e h = (refl, later-policy f x (eqb-true x.fact f e) (x ∷ earlier) (inl refl) ess z.1)
    pick false e h = h
one-policy f ((x ∷ y ∷ es) ∷ ess) earlier z o = let l = o.0 in absurd (omega arith)

pub elections-one : (P : Plan) → Sound P → (f : ℕ) → OnePolicy (elections P f)
unfolding elections
elections-one P S f =
    one-policy f (election_records P) [] S.elections
    (all_append One (map (λ c. c.election) P.cuts) (map (λ a. a.election) P.attachments)
    (map_all One (λ c. c.election) P.cuts (all_then _ (λ c. One c.election) (λ c h. h.one) P.cuts S.cuts))
    (map_all One (λ a. a.election) P.attachments (all_then _ (λ a. One a.election) (λ a h. h.one) P.attachments S.attachments)))
  where
    One : List Election → Type 0
    One es = length es ≤ 1

-- ---- a family has one record, in a case that can be bound

abbrev pub OnFirst : (Family → Type 0) → List Family → Type 0
OnFirst Q [] = Unit {0}
OnFirst Q (m ∷ ms) = Q m

module _ (n : ℕ) (ns : List ℕ) (scope : ℕ) where
  later-none : (x : Family) → x.number ≡ n → (earlier : List Family) → Among x earlier → (ms : List Family) → All (λ k. k ≡ 0) (family_faults earlier ms)
      → scoped (n ∷ ns) scope ms ≡ []
  unfolding scoped family_faults flat_map all_of
  later-none x k earlier a [] z = refl
  later-none x k earlier a (m ∷ ms) z = rw (ne_eqb m.number n other) (later-none x k (m ∷ earlier) (inr a) ms z.1)
    where
      not-true : (b : Bool) → not b ≡ true → b ≡ false
      not-true true e = sym e
      not-true false e = refl

      other : m.number ≡ n → ⊥
      other e =
          eqb-false x.number m.number
          (any_none (λ e. eqb e.number m.number) earlier (not-true (any_of (λ e. eqb e.number m.number) earlier) (not_faulty 4 _ z.0)) x a) (k ∙ sym e)

  one_record : (Q : Family → Type 0) (ms earlier : List Family) → All (λ k. k ≡ 0) (family_faults earlier ms) → OnFirst Q (scoped (n ∷ ns) scope ms)
      → All Q (scoped (n ∷ ns) scope ms)
  unfolding scoped family_faults flat_map all_of
  one_record Q [] earlier z h = tt
  one_record Q (m ∷ ms) earlier z h = pick (eqb m.number n) refl (all_of (eqb m.number) ns) (eqb m.scope scope) h (one_record Q ms (m ∷ earlier) z.1)
    where
      rest : List Family
      rest = scoped (n ∷ ns) scope ms

      pick : (a : Bool) → eqb m.number n ≡ a → (b c : Bool) → OnFirst Q (cond ((a && b) && c) (m ∷ []) [] ++ rest) → (OnFirst Q rest → All Q rest)
          → All Q (cond ((a && b) && c) (m ∷ []) [] ++ rest)
      pick true e true true q ih = (q, subst (All Q) (sym (later-none m (eqb-true m.number n e) (m ∷ earlier) (inl refl) ms z.1)) tt)
      pick true e true false q ih = ih q
      pick true e false c q ih = ih q
      pick false e b c q ih = ih q

-- a case that can be bound has no family twice
families-once : (C : Case) → bindable C ≡ fine C → All (λ k. k ≡ 0) (family_faults [] C.families)
unfolding bindable
families-once C e =
    of_fine (λ D. All (λ k. k ≡ 0) (family_faults [] C.families)) (bindable C) C
    (past-faults _ (families_at C) (family_faults [] C.families) _ (λ z. past-faults _ (booleans_at C) (boolean_faults [] C.booleans) (fine C) (λ y. z))) e

-- what holds of the first record in scope of a relation's family holds of all
pub scope-one : (P : Plan) (C : Case) → bindable C ≡ fine C → (f : ℕ) → is_boolean (get_fact P f) ≡ false
    → (Q : Family → Type 0) → OnFirst Q (in_scope P C f) → All Q (in_scope P C f)
unfolding in_scope is_boolean
scope-one P C b f = pick (get_fact P f).family
  where
    pick : (number : List ℕ) → eqb (length number) 0 ≡ false → (Q : Family → Type 0) → OnFirst Q (scoped number (case_heading C).scope C.families)
        → All Q (scoped number (case_heading C).scope C.families)
    pick [] e Q = clash refl e
    pick (n ∷ ns) e Q = one_record n ns (case_heading C).scope Q C.families [] (families-once C b)
