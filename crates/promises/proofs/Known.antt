-- AN OPEN ANSWER IS NEVER READ AS NO, nor as yes: a fact is Known in the ways of `KnownBy` and in no other.
use mathlib.Core.Path.{◌≡◌, refl, sym, ap, ◌∙◌, subst}
use mathlib.Core.Bool.{Bool, true, false, cond, ◌&&◌}
use mathlib.Core.List.{List, [], ◌∷◌, cons-ne-nil}
use mathlib.Core.Logic.{◌⊎◌, inl, inr, ⊎_elim, ◌≢◌}
use Prim.Native.Nat.{ℕ, zero, suc, ◌<◌}
use native.Mathlib.Omega.{arith}
use lib.ListN.{length}
use lib.Dec.{eqb}
use borrow.Author.Tests.{eqb-true, eqb-false, eq-eqb, ne_eqb}
use Rattle.sets.specs.paper.Sets.{has, all_of, All}
use Rattle.sets.proofs.SetLaws.{and_parts, lt_or_le}
use Rattle.sets.proofs.Every.{all_then, all_tested}
use Rattle.sets.proofs.LoopLaws.{all_append}
use Rattle.sets.proofs.Local.{clash}
use Rattle.records.specs.paper.Fields.{fine}
use Rattle.records.specs.paper.Plan.{Plan, Election, get_fact, is_boolean, checked_plan}
use Rattle.records.specs.paper.Case.{Case, Family, Boolean, Relation, Observation, read_case, case_heading}
use Rattle.records.specs.promises.Sound.{Sound, SoundCase, SoundBoolean, SoundRelation, SoundObservation}
use Rattle.records.proofs.Accepted.{accepted}
use Rattle.records.proofs.AcceptedCase.{accepted_case}
use Rattle.expressions.specs.paper.Influence.{bound_facts}
use Rattle.expressions.specs.paper.Bindings.{Bound, unbound, known, unknown, conflict, observed, observed_in_booleans, observed_in_relations, said_unknown, same_observation, values_seen, weighed, elections, default_of, by_default, bound_boolean, in_scope, in_family, bound_relation, binding_by, binding_of, bindings, frame_of, bindable}
use Rattle.report.specs.paper.Operations.{told, Opened, incomplete, or_stop, unless_fault, heading_fault, counted, bound_and_counted, bound, opened, answer_opened, answer}
use Rattle.report.proofs.Answered.{bindable_split}
use Rattle.promises.specs.KnownBy.{Each, byte_of, policy_of, Seen, KnownBy, observation, default, relation_observed, family_complete, KnownOnlyBy}
use Rattle.promises.proofs.OneRecord.{all_flat, OnePolicy, elections-one, OnFirst, scope-one}

-- ---- lists

some-length : {A : Type 0} (xs : List A) → xs ≢ [] → length xs ≡ 0 → ⊥
some-length [] n e = n refl
some-length (x ∷ xs) n e = omega arith

none-length : {A : Type 0} (xs : List A) → length xs ≡ 0 → xs ≡ []
none-length [] e = refl
none-length (x ∷ xs) e = absurd (omega arith)

test_all : {A : Type 0} (f : A → Bool) (xs : List A) → All (λ x. f x ≡ true) xs → all_of f xs ≡ true
unfolding all_of
test_all f [] h = refl
test_all f (x ∷ xs) h = ap (λ (b : Bool). b && all_of f xs) h.0 ∙ test_all f xs h.1

-- ---- a binding that is Known

known_same : (a b : Bool) → known a ≡ known b → a ≡ b
known_same a b e = cc

abbrev is_known : Bound → Bool
is_known unbound = false
is_known (known b) = true
is_known unknown = false
is_known (conflict c) = false

-- no other binding is Known
other : {A : Type 0} {b : Bound} {v : Bool} → is_known b ≡ false → b ≡ known v → A
other n e = clash (sym (ap is_known (sym e))) n

-- ---- observations

value_is : (n : ℕ) (v : Bool) → n < 2 → eqb n 1 ≡ v → n ≡ byte_of v
value_is n true l e = eqb-true n 1 e
value_is n false l e = let h = eqb-false n 1 e in ⊎_elim (λ m. omega arith) (λ m. absurd (h (omega arith))) (lt_or_le n 1)

value_back : (n : ℕ) (v : Bool) → n ≡ byte_of v → eqb n 1 ≡ v
value_back n true e = eq-eqb n 1 e
value_back n false e = ne_eqb n 1 (λ z. omega arith)

weighed-known : (os : List Observation) (silent : Bound) (v : Bool) → All SoundObservation os → weighed os silent ≡ known v
    → ((os ≡ []) × (silent ≡ known v)) ⊎ Seen os v
unfolding weighed
weighed-known [] silent v s e = inl (refl, e)
weighed-known (o ∷ os) silent v s e = pick (all_of (same_observation o) os) refl e
  where
    others : o.value ≡ byte_of v → all_of (same_observation o) os ≡ true → All (λ x. (x.value ≡ byte_of v) × (x.evidence ≡ o.evidence)) os
    others value t =
        all_then (λ x. same_observation o x ≡ true) (λ x. (x.value ≡ byte_of v) × (x.evidence ≡ o.evidence)) (λ x h.
        let t = and_parts (eqb o.value x.value) (eqb o.evidence x.evidence) h in
        (sym (eqb-true o.value x.value t.0) ∙ value, sym (eqb-true o.evidence x.evidence t.1))) os (all_tested (same_observation o) os t)

    pick : (b : Bool) → all_of (same_observation o) os ≡ b → cond b (known (eqb o.value 1)) (conflict (values_seen o.value os)) ≡ known v
        → (((o ∷ os) ≡ []) × (silent ≡ known v)) ⊎ Seen (o ∷ os) v
    pick false t e = other refl e
    pick true t e =
        let value = value_is o.value v s.0.value (known_same (eqb o.value 1) v e) in
        inr (o.evidence, (cons-ne-nil o os, ((value, refl), others value t)))

weighed-seen : (os : List Observation) (silent : Bound) (v : Bool) → Seen os v → weighed os silent ≡ known v
unfolding weighed
weighed-seen [] silent v s = absurd (s.1.0 refl)
weighed-seen (o ∷ os) silent v s =
    ap (λ (b : Bool). cond b (known (eqb o.value 1)) (conflict (values_seen o.value os))) (test_all (same_observation o) os same)
    ∙ ap known (value_back o.value v s.1.1.0.0)
  where
    one : (x : Observation) → (x.value ≡ byte_of v) × (x.evidence ≡ s.0) → same_observation o x ≡ true
    one x h =
        ap (λ (b : Bool). b && eqb o.evidence x.evidence) (eq-eqb o.value x.value (s.1.1.0.0 ∙ sym h.0))
        ∙ eq-eqb o.evidence x.evidence (s.1.1.0.1 ∙ sym h.1)

    same : All (λ x. same_observation o x ≡ true) os
    same = all_then (λ x. (x.value ≡ byte_of v) × (x.evidence ≡ s.0)) (λ x. same_observation o x ≡ true) one os s.1.1.1

observed-sound : (P : Plan) (C : Case) → SoundCase P C → (f : ℕ) → All SoundObservation (observed C f)
unfolding observed_in_booleans observed_in_relations
observed-sound P C S f =
    all_append SoundObservation (observed_in_booleans C.booleans f) (observed_in_relations C.relations f)
    (all_flat SoundObservation of_boolean C.booleans
    (all_then (SoundBoolean P) (λ b. All SoundObservation (of_boolean b)) (λ b h. if (eqb b.fact f) b.observations h.observations) C.booleans S.booleans))
    (all_flat SoundObservation of_relation C.relations
    (all_then (SoundRelation P C) (λ r. All SoundObservation (of_relation r)) (λ r h. if (eqb r.fact f) (r.observation ∷ []) (h.observation, tt)) C.relations S.relations))
  where
    of_boolean : Boolean → List Observation
    of_boolean b = cond (eqb b.fact f) b.observations []

    of_relation : Relation → List Observation
    of_relation r = cond (eqb r.fact f) (r.observation ∷ []) []

    if : (b : Bool) (os : List Observation) → All SoundObservation os → All SoundObservation (cond b os [])
    if true os h = h
    if false os h = tt

-- ---- an election's default

default-known : (es : List Election) (v : Bool) → OnePolicy es → by_default (default_of es) ≡ known v → Each (λ e. e.policy ≡ policy_of v) es
unfolding default_of
default-known [] v o h = other refl h
default-known (e ∷ es) v o h =
    let first = pick (eqb e.policy 1) (eqb e.policy 2) refl refl h in
    (cons-ne-nil e es, all_then (λ x. x.policy ≡ e.policy) (λ x. x.policy ≡ policy_of v) (λ x k. k ∙ first) (e ∷ es) o)
  where
    pick : (b c : Bool) → eqb e.policy 1 ≡ b → eqb e.policy 2 ≡ c → by_default (cond b (false ∷ []) (cond c (true ∷ []) [])) ≡ known v → e.policy ≡ policy_of v
    pick true c p q h = eqb-true e.policy 1 p ∙ ap policy_of (known_same false v h)
    pick false true p q h = eqb-true e.policy 2 q ∙ ap policy_of (known_same true v h)
    pick false false p q h = other refl h

default_of_lem : (es : List Election) (v : Bool) → Each (λ e. e.policy ≡ policy_of v) es → by_default (default_of es) ≡ known v
unfolding default_of
default_of_lem [] v h = absurd (h.0 refl)
default_of_lem (e ∷ es) false h = rw (eq-eqb e.policy 1 h.1.0)
default_of_lem (e ∷ es) true h = rw (ne_eqb e.policy 1 (λ z. let p = h.1.0 in omega arith), eq-eqb e.policy 2 h.1.0)

-- ---- Known in one of the ways, and in no other

module _ (P : Plan) (C : Case) (S : Sound P) (T : SoundCase P C) (bindable : bindable C ≡ fine C) (f : ℕ) (v : Bool) where
  abbrev os : List Observation
  os = observed C f

  sound : All SoundObservation os
  sound = observed-sound P C T f

  boolean_known : is_boolean (get_fact P f) ≡ true → bound_boolean P C f ≡ known v → KnownBy P C f v
  unfolding bound_boolean
  boolean_known i = pick (eqb (length (said_unknown C f)) 0) refl
    where
      pick : (b : Bool) → eqb (length (said_unknown C f)) 0 ≡ b → cond b (weighed os (by_default (default_of (elections P f)))) unknown ≡ known v → KnownBy P C f v
      pick false e h = other refl h
      pick true e h =
          let said = none-length (said_unknown C f) (eqb-true (length (said_unknown C f)) 0 e) in
          ⊎_elim (λ w. default i said w.0 (default-known (elections P f) v (elections-one P S f) w.1)) (λ w. observation i said w)
          (weighed-known os (by_default (default_of (elections P f))) v sound h)

  relation-known : is_boolean (get_fact P f) ≡ false → bound_relation P C f ≡ known v → KnownBy P C f v
  unfolding bound_relation
  relation-known i = pick (in_scope P C f) refl (scope-one P C bindable f i)
    where
      whole : (m : Family) (ms : List Family) → in_scope P C f ≡ m ∷ ms → ((Q : Family → Type 0) → OnFirst Q (m ∷ ms) → All Q (m ∷ ms))
          → (b : Bool) → eqb (length m.complete) 0 ≡ b → os ≡ [] → cond b unknown (known false) ≡ known v → KnownBy P C f v
      whole m ms e one true t o h = other refl h
      whole m ms e one false t o h =
          subst (KnownBy P C f) (known_same false v h)
          (family_complete i
          (subst (Each (λ m. m.complete ≢ [])) (sym e) (cons-ne-nil m ms, one (λ m. m.complete ≢ []) (λ z. eqb-false (length m.complete) 0 t (ap length z)))) o)

      pick : (ms : List Family) → in_scope P C f ≡ ms → ((Q : Family → Type 0) → OnFirst Q ms → All Q ms) → in_family ms os ≡ known v → KnownBy P C f v
      pick [] e one h = other refl h
      pick (m ∷ ms) e one h =
          ⊎_elim (λ w. whole m ms e one (eqb (length m.complete) 0) refl w.0 w.1) (λ w. relation_observed i (λ z. cons-ne-nil m ms (sym e ∙ z)) w)
          (weighed-known os (cond (eqb (length m.complete) 0) unknown (known false)) v sound h)

  there : binding_of P C f ≡ known v → (has (bound_facts (frame_of P C)) f ≡ true) × KnownBy P C f v
  unfolding binding_of binding_by
  there = pick (has (bound_facts (frame_of P C)) f) refl (is_boolean (get_fact P f)) refl
    where
      pick : (b : Bool) → has (bound_facts (frame_of P C)) f ≡ b → (c : Bool) → is_boolean (get_fact P f) ≡ c
          → cond b (cond c (bound_boolean P C f) (bound_relation P C f)) unbound ≡ known v
          → (has (bound_facts (frame_of P C)) f ≡ true) × KnownBy P C f v
      pick true e true i h = (e, boolean_known i h)
      pick true e false i h = (e, relation-known i h)
      pick false e c i h = other refl h

-- ---- and each of the ways makes it Known

seen_boolean : (P : Plan) (C : Case) (f : ℕ) (b : Bound) → said_unknown C f ≡ [] → weighed (observed C f) (by_default (default_of (elections P f))) ≡ b
    → bound_boolean P C f ≡ b
unfolding bound_boolean
seen_boolean P C f b s e = rw (eq-eqb (length (said_unknown C f)) 0 (ap length s)) e

seen-relation : (P : Plan) (C : Case) (f : ℕ) (v : Bool) → in_scope P C f ≢ [] → Seen (observed C f) v → bound_relation P C f ≡ known v
unfolding bound_relation
seen-relation P C f v n s = pick (in_scope P C f) n
  where
    pick : (ms : List Family) → ms ≢ [] → in_family ms (observed C f) ≡ known v
    pick [] n = absurd (n refl)
    pick (m ∷ ms) n = weighed-seen (observed C f) _ v s

absent-relation : (P : Plan) (C : Case) (f : ℕ) → Each (λ m. m.complete ≢ []) (in_scope P C f) → observed C f ≡ [] → bound_relation P C f ≡ known false
unfolding bound_relation weighed
absent-relation P C f h o = ap (in_family (in_scope P C f)) o ∙ pick (in_scope P C f) h
  where
    pick : (ms : List Family) → Each (λ m. m.complete ≢ []) ms → in_family ms [] ≡ known false
    pick [] h = absurd (h.0 refl)
    pick (m ∷ ms) h = rw (ne_eqb (length m.complete) 0 (some-length m.complete h.1.0))

bound_boolean_lem : (P : Plan) (C : Case) (f : ℕ) → has (bound_facts (frame_of P C)) f ≡ true → is_boolean (get_fact P f) ≡ true → binding_of P C f ≡ bound_boolean P C f
unfolding binding_of binding_by
bound_boolean_lem P C f b i = rw (b, i)

bound-relation : (P : Plan) (C : Case) (f : ℕ) → has (bound_facts (frame_of P C)) f ≡ true → is_boolean (get_fact P f) ≡ false → binding_of P C f ≡ bound_relation P C f
unfolding binding_of binding_by
bound-relation P C f b i = rw (b, i)

back : (P : Plan) (C : Case) (f : ℕ) → has (bound_facts (frame_of P C)) f ≡ true → {v : Bool} → KnownBy P C f v → binding_of P C f ≡ known v
unfolding weighed
back P C f b (observation {v = v} i said s) = bound_boolean_lem P C f b i ∙ seen_boolean P C f (known v) said (weighed-seen (observed C f) _ v s)
back P C f b (default {v = v} i said o e) =
    bound_boolean_lem P C f b i
    ∙ seen_boolean P C f (known v) said (ap (λ (os : List Observation). weighed os (by_default (default_of (elections P f)))) o ∙ default_of_lem (elections P f) v e)
back P C f b (relation_observed {v = v} i n s) = bound-relation P C f b i ∙ seen-relation P C f v n s
back P C f b (family_complete i e o) = bound-relation P C f b i ∙ absent-relation P C f e o

-- ---- OF AN ACCEPTED PLAN AND A CASE THAT CAN BE BOUND

pub known_by : (P : Plan) (C : Case) → Sound P → SoundCase P C → bindable C ≡ fine C → KnownOnlyBy P C
known_by P C S T b f v = (there P C S T b f v, λ h. back P C f h.0 h.1)

-- ---- OF AN ANSWERED CASE whose roster is complete

answered_bindable : (plan case : List ℕ) (l e : ℕ) (P : Plan) (C : Case) → checked_plan plan ≡ fine P → read_case P case ≡ fine C
    → (told (answer plan case l e).answer).refusal ≡ 0 → (case_heading C).complete ≢ [] → bindable C ≡ fine C
unfolding answer opened bound bound_and_counted
answered_bindable plan case l e P C checked read answered full =
    pick (heading_fault P (case_heading C) l) (rw (checked, read) at answered)
  where
    next : Case → Opened
    next C = counted P C (bindings P C)

    pick : (k : ℕ) → (told (answer_opened l e (unless_fault k (bound P C))).answer).refusal ≡ 0 → bindable C ≡ fine C
    pick (suc n) h = absurd (omega arith)
    pick zero h =
        let g = subst (λ (b : Bool). (told (answer_opened l e (cond b (incomplete (case_heading C).roster) (or_stop (bindable C) next))).answer).refusal ≡ 0)
        (ne_eqb (length (case_heading C).complete) 0 (some-length (case_heading C).complete full)) h in
        ⊎_elim (λ e. e) (λ r. let z : suc r.0 ≡ 0 = rw r.2 at g in absurd (omega arith)) (bindable_split C)

module _ (plan case : List ℕ) (line_room event_room : ℕ) (P : Plan) (C : Case) (checked : checked_plan plan ≡ fine P) (read : read_case P case ≡ fine C)
    (answered : (told (answer plan case line_room event_room).answer).refusal ≡ 0) (full : (case_heading C).complete ≢ []) where
  pub known_exactly : KnownOnlyBy P C
  known_exactly =
      known_by P C (accepted plan P checked) (accepted_case P case C read) (answered_bindable plan case line_room event_room P C checked read answered full)

  -- no other way makes it false
  pub known-false : (f : ℕ) → binding_of P C f ≡ known false → KnownBy P C f false
  known-false f h = ((known_exactly f false).0 h).1

  -- nor true
  pub known-true : (f : ℕ) → binding_of P C f ≡ known true → KnownBy P C f true
  known-true f h = ((known_exactly f true).0 h).1
