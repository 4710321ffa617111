-- What the tests of refusal 4 in a case say of a kind's records, in every plan and case of which these are the facts that a boolean or a relation may name and
-- this is the number of nodes. Contracts of src/case/naming.rt cite it.
use Rattle.std.specs.Prelude.{◌≡◌, Bool, List, [], ◌∷◌, ℕ, ◌≤◌, eqb, ltb, length}
use Rattle.sets.specs.paper.Sets.{has, all_of}
use Rattle.records.specs.paper.Plan as paper
use Rattle.records.specs.paper.Case as case
use Rattle.records.specs.code.Decoded.{facts_of, families_of, booleans_of, relations_of, constraints_of}
use Rattle.records.specs.code.Named.{SaysFirst, MarksBooleans}
use Rattle.records.specs.declared.plan.Facts.{Facts}
use Rattle.records.specs.declared.case.Families.{Families}
use Rattle.records.specs.declared.case.Booleans.{Booleans}
use Rattle.records.specs.declared.case.Relations.{Relations}
use Rattle.records.specs.declared.case.Constraints.{Constraints}
use Rattle.records.specs.declared.checked.Checked.{Checked}
use Rattle.records.specs.declared.case.naming.CaseCounts.{CaseCounts}

-- the numbers of records of a case, and their limits
pub record CaseCountsOf (C : case.Case) (r : CaseCounts) : Type 0 where
  pub headings : r.headings ≡ length C.headings
  pub families : r.families ≡ length C.families
  pub booleans : r.booleans ≡ length C.booleans
  pub relations : r.relations ≡ length C.relations
  pub constraints : r.constraints ≡ length C.constraints

pub record CaseCountLimits (r : CaseCounts) : Type 0 where
  pub headings : r.headings ≤ 1
  pub families : r.families ≤ 16
  pub booleans : r.booleans ≤ 64
  pub relations : r.relations ≤ 256
  pub constraints : r.constraints ≤ 16

abbrev pub same_family : ℕ → case.Family → Bool
same_family n f = all_of (eqb f.number) (n ∷ [])

-- a set of facts: those that a relation record may name
abbrev pub MarksRelations : paper.Plan → case.Case → ℕ → Type 0
MarksRelations P C m = (x : case.Relation) → has m x.fact ≡ case.relation_sound P C x

abbrev pub RelationFacts : Facts → Families → ℕ → Type 0
RelationFacts fs ms r = (P : paper.Plan) (C : case.Case) → facts_of fs ≡ P.facts → families_of ms ≡ C.families → MarksRelations P C r

-- ---- the first of a kind's records that names what is not there; the kind begins at record `first`

abbrev pub boolean_faults : paper.Plan → Booleans → List ℕ
boolean_faults P x = paper.faults 4 (λ b. paper.boolean_fact P b.fact) (booleans_of x)

abbrev pub BooleansNamed : ℕ → Booleans → ℕ → Checked → Type 0
BooleansNamed set x first r = (P : paper.Plan) (C : case.Case) → MarksBooleans P set → SaysFirst C first (boolean_faults P x) r

abbrev pub relation_faults : paper.Plan → case.Case → Relations → List ℕ
relation_faults P C x = paper.faults 4 (case.relation_sound P C) (relations_of x)

abbrev pub RelationsNamed : ℕ → Relations → ℕ → Checked → Type 0
RelationsNamed set x first r = (P : paper.Plan) (C : case.Case) → MarksRelations P C set → SaysFirst C first (relation_faults P C x) r

abbrev pub constraint_faults : paper.Plan → Constraints → List ℕ
constraint_faults P x = paper.faults 4 (λ i. ltb i (length P.nodes)) (constraints_of x)

abbrev pub ConstraintsNamed : ℕ → Constraints → ℕ → Checked → Type 0
ConstraintsNamed nodes x first r = (P : paper.Plan) (C : case.Case) → nodes ≡ length P.nodes → SaysFirst C first (constraint_faults P x) r
