-- Laws of the marking of evidence: the union of what each record gives, record by record.
use mathlib.Core.Path.{◌≡◌, refl, sym, ap, ap₂, ◌∙◌, subst}
use mathlib.Core.Bool.{Bool, true, false, ◌||◌, cond}
use mathlib.Core.List.{List, [], ◌∷◌, map}
use Prim.Native.Nat.{ℕ, ◌+◌, ◌≤◌, ◌<◌, min}
use native.Mathlib.Omega.{arith}
use lib.ListN.{length, get_or, take, drop, set}
use lib.Dec.{eqb}
use Rattle.sets.specs.paper.Sets.{has, one, union, only, union_of, set_of, All}
use Rattle.sets.proofs.SetLaws.{ext, has-union}
use Rattle.records.specs.paper.Case as paper
use Rattle.records.specs.paper.Case.{Case, Observation}
use Rattle.records.specs.promises.Sound.{Evidence, SoundObservation, SoundBoolean, SoundRelation}
use Rattle.records.specs.code.Decoded.{observations_of, boolean_of}
use Rattle.records.specs.declared.case.Observations.{Observations}
use Rattle.records.specs.declared.case.Boolean.{Boolean}
use Rattle.sets.proofs.LoopLaws.{all_at, get_or-below, length-below}
use Rattle.sets.proofs.Every.{all_then}
use Rattle.expressions.specs.paper.Bindings.{observed_in_booleans, observed_in_relations, unknown_in, said_unknown, evidence_of}
use Rattle.expressions.specs.code.Evident.{evidence_mark, boolean_evidence, Evident, EvidentBoolean, EvidentRelation, ReadCase}
use Rattle.expressions.proofs.Rests.{below_next, below_none, made-next, made_none}
use Rattle.sets.proofs.UnionLaws.{union-none, union_append, union-agree, union-first, union_end, union_flat, set-union}
use Rattle.expressions.proofs.ListLaws.{changed_at, made_each}

-- ---- the observations of a record

pub observations-next : (o : Observations) (i : ℕ) → i < o.count
    → drop i (observations_of o) ≡ record { value = get_or o.values i 0; evidence = get_or o.evidence i 0 } ∷ drop (i + 1) (observations_of o)
unfolding observations_of
observations-next o i h = below_next o.count (λ i. record { value = get_or o.values i 0; evidence = get_or o.evidence i 0 }) i h

pub observations-none : (o : Observations) (i : ℕ) → o.count ≤ i → drop i (observations_of o) ≡ []
unfolding observations_of
observations-none o i h = below_none o.count (λ i. record { value = get_or o.values i 0; evidence = get_or o.evidence i 0 }) i h

-- ---- what each record gives for a fact

abbrev boolean_mark : ℕ → paper.Boolean → ℕ
boolean_mark f b = union_of evidence_mark (cond (eqb b.fact f) b.observations [])

abbrev unknown_mark : ℕ → paper.Boolean → ℕ
unknown_mark f b = union_of one (cond (eqb b.fact f) b.unknown [])

abbrev relation_mark : ℕ → paper.Relation → ℕ
relation_mark f r = union_of evidence_mark (cond (eqb r.fact f) (r.observation ∷ []) [])

boolean_marks : (f : ℕ) (bs : List paper.Boolean) → union_of evidence_mark (observed_in_booleans bs f) ≡ union_of (boolean_mark f) bs
unfolding observed_in_booleans
boolean_marks f bs = union_flat evidence_mark (λ b. cond (eqb b.fact f) b.observations []) bs

unknown-marks : (f : ℕ) (bs : List paper.Boolean) → set_of (unknown_in bs f) ≡ union_of (unknown_mark f) bs
unfolding unknown_in
unknown-marks f bs = set-union _ ∙ union_flat one (λ b. cond (eqb b.fact f) b.unknown []) bs

relation-marks : (f : ℕ) (rs : List paper.Relation) → union_of evidence_mark (observed_in_relations rs f) ≡ union_of (relation_mark f) rs
unfolding observed_in_relations
relation-marks f rs = union_flat evidence_mark (λ r. cond (eqb r.fact f) (r.observation ∷ []) []) rs

-- ---- the numbers have a place in a mask

pub evident_at : (o : Observations) (i : ℕ) → All Evident (observations_of o) → i < o.count → Evidence (get_or o.evidence i 0)
unfolding observations_of
evident_at o i a h =
    subst Evident (get_or-below o.count (λ i. record { value = get_or o.values i 0; evidence = get_or o.evidence i 0 }) none i h)
    (all_at Evident (observations_of o) none i a (subst (λ (k : ℕ). i < k) (sym (length-below o.count _)) h))
  where
    none : Observation
    none = record { value = 0; evidence = 0 }

pub evident_booleans : (C : Case) → ReadCase C → All EvidentBoolean C.booleans
evident_booleans C r =
    all_then (SoundBoolean r.plan) EvidentBoolean
    (λ b s. (s.unknown.1, all_then SoundObservation Evident (λ o k. k.evidence) b.observations s.observations)) C.booleans r.sound.booleans

pub evident_relations : (C : Case) → ReadCase C → All EvidentRelation C.relations
evident_relations C r = all_then (SoundRelation r.plan C) EvidentRelation (λ b s. s.observation.evidence) C.relations r.sound.relations

-- ---- all of it

evidence-parts : (C : Case) (f : ℕ)
    → union (union (union_of evidence_mark (observed_in_booleans C.booleans f)) (union_of evidence_mark (observed_in_relations C.relations f))) (set_of (said_unknown C f)) ≡ evidence_of C f
unfolding evidence_of
evidence-parts C f =
    ap (λ (x : ℕ). union x (set_of (said_unknown C f))) (sym (union_append evidence_mark (observed_in_booleans C.booleans f) (observed_in_relations C.relations f)))

-- of one record
pub unknown_evident : (b : Boolean) → EvidentBoolean (boolean_of b) → b.unknown ≡ true → Evidence b.evidence
unfolding boolean_of
unknown_evident b e u = (subst (λ (t : Bool). All Evidence (cond t (b.evidence ∷ []) [])) u e.0).0

pub observations_evident : (b : Boolean) → EvidentBoolean (boolean_of b) → All Evident (observations_of b.observations)
unfolding boolean_of
observations_evident b e = e.1

-- ---- by fact, a record at a time

or_swap : (a b c d : Bool) → ((a || b) || (c || d)) ≡ ((a || c) || (b || d))
or_swap true b c d = refl
or_swap false true true d = refl
or_swap false true false d = refl
or_swap false false c d = refl

union_swap : (a b c d : ℕ) → union (union a b) (union c d) ≡ union (union a c) (union b d)
union_swap a b c d =
    ext (union (union a b) (union c d)) (union (union a c) (union b d)) (λ p.
    has-union (union a b) (union c d) p ∙ ap₂ ◌||◌ (has-union a b p) (has-union c d p) ∙ or_swap (has a p) (has b p) (has c p) (has d p)
    ∙ sym (has-union (union a c) (union b d) p ∙ ap₂ ◌||◌ (has-union a c p) (has-union b d p)))

union-both : {A : Type 0} (g h : A → ℕ) (xs : List A) → union_of (λ x. union (g x) (h x)) xs ≡ union (union_of g xs) (union_of h xs)
unfolding union_of
union-both g h [] = sym (union-none 0)
union-both g h (x ∷ xs) = ap (union (union (g x) (h x))) (union-both g h xs) ∙ union_swap (g x) (h x) (union_of g xs) (union_of h xs)

boolean_given : (f : ℕ) (b : paper.Boolean) → only (eqb b.fact f) (boolean_evidence b) ≡ union (boolean_mark f b) (unknown_mark f b)
unfolding union_of
boolean_given f b = pick (eqb b.fact f)
  where
    pick : (t : Bool) → only t (boolean_evidence b) ≡ union (union_of evidence_mark (cond t b.observations [])) (union_of one (cond t b.unknown []))
    pick true = refl
    pick false = sym (union-none 0)

relation-given : (f : ℕ) (r : paper.Relation) → only (eqb r.fact f) (evidence_mark r.observation) ≡ relation_mark f r
unfolding union_of
relation-given f r = pick (eqb r.fact f)
  where
    pick : (t : Bool) → only t (evidence_mark r.observation) ≡ union_of evidence_mark (cond t (r.observation ∷ []) [])
    pick true = sym (union-none (evidence_mark r.observation))
    pick false = refl

pub evidence-given : (C : Case) (f : ℕ)
    → union (union_of (λ b. only (eqb b.fact f) (boolean_evidence b)) C.booleans) (union_of (λ r. only (eqb r.fact f) (evidence_mark r.observation)) C.relations) ≡ evidence_of C f
evidence-given C f =
    let seen = union_of (boolean_mark f) C.booleans in
    let said = union_of (unknown_mark f) C.booleans in
    let told = union_of (relation_mark f) C.relations in
    ap₂ union (union-agree (λ b. only (eqb b.fact f) (boolean_evidence b)) (λ b. union (boolean_mark f b) (unknown_mark f b)) (boolean_given f) C.booleans ∙ union-both (boolean_mark f) (unknown_mark f) C.booleans)
    (union-agree (λ r. only (eqb r.fact f) (evidence_mark r.observation)) (relation_mark f) (relation-given f) C.relations)
    ∙ ap (union (union seen said)) (sym (union-none told)) ∙ union_swap seen said told 0 ∙ ap (union (union seen told)) (union-none said)
    ∙ ap₂ union (ap₂ union (sym (boolean_marks f C.booleans)) (sym (relation-marks f C.relations))) (sym (unknown-marks f C.booleans))
    ∙ evidence-parts C f

-- a record's evidence, where it says that its fact is unknown or not
pub given-unknown : (b : Boolean) (m t : ℕ) → b.unknown ≡ true → m ≡ union_of evidence_mark (observations_of b.observations) → t ≡ union m (one b.evidence) → t ≡ boolean_evidence (boolean_of b)
unfolding boolean_of union_of
given-unknown b m t u e k =
    k ∙ ap₂ union e (sym (union-none (one b.evidence)) ∙ ap (λ (x : Bool). union_of one (cond x (b.evidence ∷ []) [])) (sym u))

pub given-seen : (b : Boolean) (m : ℕ) → b.unknown ≡ false → m ≡ union_of evidence_mark (observations_of b.observations) → m ≡ boolean_evidence (boolean_of b)
unfolding boolean_of union_of
given-seen b m u e =
    e ∙ sym (union-none (union_of evidence_mark (observations_of b.observations))) ∙ ap (λ (x : Bool). union (union_of evidence_mark (observations_of b.observations)) (union_of one (cond x (b.evidence ∷ []) []))) (sym u)

-- the entry of a fact takes in what a record gives
pub note_at : (table : List ℕ) (g f more v : ℕ) → g < length table → v ≡ union (get_or table g 0) more
    → get_or (set table g v) f 0 ≡ union (get_or table f 0) (only (eqb g f) more)
note_at table g f more v h e =
    changed_at table g f (λ (m : ℕ). union m more) v 0 h e ∙ pick (eqb g f)
  where
    pick : (t : Bool) → cond t (union (get_or table f 0) more) (get_or table f 0) ≡ union (get_or table f 0) (only t more)
    pick true = refl
    pick false = sym (union-none (get_or table f 0))

-- the records of a kind, each with a fact and its evidence: of each fact what is noted, with what the records from i on give, is the whole
pub record Noting {A B : Type 0} (make : A → B) (fact mark : B → ℕ) (items : List A) (count most : ℕ) (old : List ℕ) (n : ℕ) (table : List ℕ) (i : ℕ) : Type 0 where
  pub long : length items ≡ most
  pub some : n ≡ min count most
  pub few : i ≤ n
  pub left : (f : ℕ) → union (get_or table f 0) (union_of (λ x. only (eqb (fact x) f) (mark x)) (drop i (map make (take count items))))
      ≡ union (get_or old f 0) (union_of (λ x. only (eqb (fact x) f) (mark x)) (map make (take count items)))

module _ {A B : Type 0} {make : A → B} {fact mark : B → ℕ} {items : List A} {count most : ℕ} {old : List ℕ} {n : ℕ} where
  pub noting_none : length items ≡ most → n ≡ min count most → Noting make fact mark items count most old n old 0
  noting_none l s = record { long = l; some = s; few = omega arith; left = λ f. refl }

  module _ {table : List ℕ} {i : ℕ} (w : Noting make fact mark items count most old n table i) where
    pub noting_each : (Q : B → Type 0) (d : A) → i < n → All Q (map make (take count items)) → Q (make (get_or items i d))
    noting_each Q d l q = made_each make items count most n w.long w.some Q i d l q

    pub noting_next : {t : List ℕ} {more : ℕ} (d : A) → i < n → more ≡ mark (make (get_or items i d))
        → ((f : ℕ) → get_or t f 0 ≡ union (get_or table f 0) (only (eqb (fact (make (get_or items i d))) f) more)) → Noting make fact mark items count most old n t (i + 1)
    noting_next {t} {more} d l e k = record {
      long = w.long;
      some = w.some;
      few = omega arith;
      left = λ f. union-first (λ x. only (eqb (fact x) f) (mark x)) (get_or table f 0) _ (only (eqb (fact (make (get_or items i d))) f) more) _ _ (make (get_or items i d))
          (made-next make items count i d (omega (arith, w.long, w.some))) (k f) (ap (only (eqb (fact (make (get_or items i d))) f)) e) ∙ w.left f;
    }

    pub noting_end : n ≤ i → (f : ℕ) → get_or table f 0 ≡ union (get_or old f 0) (union_of (λ x. only (eqb (fact x) f) (mark x)) (map make (take count items)))
    noting_end l f =
        sym (union_end (λ x. only (eqb (fact x) f) (mark x)) (get_or table f 0) _ (made_none make items count i (omega (arith, w.long, w.some)))) ∙ w.left f
