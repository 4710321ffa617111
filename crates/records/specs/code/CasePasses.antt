-- The passes over a case: what each kind's reader stands for. Contracts of src/case/reading/ cite it.
use Rattle.std.specs.Prelude.{◌≡◌, Bool, not, List, ℕ, ◌+◌, ◌*◌, ◌/◌, ◌%◌, ◌≤◌, length, eqb}
use Rattle.records.specs.paper.Fields.{Read, got, bad}
use Rattle.records.specs.paper.Case.{Case, CaseHeading, Family, Boolean, Relation, case_formats, add_to_case, judge_case, observations_from}
use Rattle.records.specs.code.Decoded as decoded
use Rattle.records.specs.code.Decoded.{if_given}
use Rattle.records.specs.code.Readers.{bytes_from}
use Rattle.records.specs.code.Passes.{WithBits, Reading}
use Rattle.records.specs.declared.case.reading.heading.HeadingSeen.{HeadingSeen}
use Rattle.records.specs.declared.case.reading.heading.HeadingSeen.TheVariants as heading
use Rattle.records.specs.declared.case.reading.families.FamilySeen.{FamilySeen}
use Rattle.records.specs.declared.case.reading.families.FamilySeen.TheVariants as family
use Rattle.records.specs.declared.case.reading.booleans.BooleanSeen.{BooleanSeen}
use Rattle.records.specs.declared.case.reading.booleans.BooleanSeen.TheVariants as boolean
use Rattle.records.specs.declared.case.reading.relations.RelationSeen.{RelationSeen}
use Rattle.records.specs.declared.case.reading.relations.RelationSeen.TheVariants as relation
use Rattle.records.specs.declared.case.reading.constraints.ConstraintSeen.{ConstraintSeen}
use Rattle.records.specs.declared.case.reading.constraints.ConstraintSeen.TheVariants as constraint

-- there is a heading or none; nothing else of what was read is judged again
abbrev pub CleanCase : Bool → Case → Type 0
CleanCase headed C = not (eqb (length C.headings) 0) ≡ headed

abbrev pub case_reading : Reading Case
case_reading = record { formats = case_formats; add = add_to_case; judge = judge_case; Clean = CleanCase }

-- ---- the heading

abbrev pub with_case_headings : Case → List CaseHeading → Case
with_case_headings C xs = record { headings = xs; families = C.families; booleans = C.booleans; relations = C.relations; constraints = C.constraints }

abbrev pub case_heading_read : HeadingSeen → Read (WithBits CaseHeading)
case_heading_read (heading.Got b x n) = got (record { bits = b; item = decoded.case_heading_of x }) n
case_heading_read heading.Bad = bad

-- ---- families

abbrev pub with_families : Case → List Family → Case
with_families C xs = record { headings = C.headings; families = xs; booleans = C.booleans; relations = C.relations; constraints = C.constraints }

abbrev pub family_read : FamilySeen → Read (WithBits Family)
family_read (family.Got b x n) = got (record { bits = b; item = decoded.family_of x }) n
family_read family.Bad = bad

-- ---- booleans

abbrev pub with_booleans : Case → List Boolean → Case
with_booleans C xs = record { headings = C.headings; families = C.families; booleans = xs; relations = C.relations; constraints = C.constraints }

abbrev pub boolean_read : List ℕ → BooleanSeen → Read (WithBits Boolean)
boolean_read s (boolean.Got b fact evidence at k n) =
    got (record { bits = b; item = record { fact = fact; unknown = if_given (eqb (b / 2 % 2) 1) evidence; observations = observations_from (bytes_from s at (k * 2)) } }) n
boolean_read s boolean.Bad = bad

abbrev pub boolean_fits : List ℕ → BooleanSeen → Type 0
boolean_fits s (boolean.Got b fact evidence at k n) = (k ≤ 16) × (at + k * 2 ≤ length s)
boolean_fits s boolean.Bad = Unit {0}

-- ---- relations

abbrev pub with_relations : Case → List Relation → Case
with_relations C xs = record { headings = C.headings; families = C.families; booleans = C.booleans; relations = xs; constraints = C.constraints }

abbrev pub relation_read : RelationSeen → Read (WithBits Relation)
relation_read (relation.Got b x n) = got (record { bits = b; item = decoded.relation_of x }) n
relation_read relation.Bad = bad

-- ---- constraints

abbrev pub with_constraints : Case → List ℕ → Case
with_constraints C xs = record { headings = C.headings; families = C.families; booleans = C.booleans; relations = C.relations; constraints = xs }

abbrev pub constraint_read : ConstraintSeen → Read (WithBits ℕ)
constraint_read (constraint.Got b node n) = got (record { bits = b; item = node }) n
constraint_read constraint.Bad = bad
