-- What binding finds, as functions of the bytes offered.
use Rattle.std.specs.Prelude.{Bool, true, false, cond, ℕ, ◌+◌, ◌*◌}
use mathlib.Core.List.{List, [], ◌∷◌, ◌++◌, map, flat_map}
use Rattle.records.specs.paper.Fields.{Verdict, fine, refused, on_fine}
use Rattle.records.specs.paper.Plan.{Plan, checked_plan}
use Rattle.records.specs.paper.Case.{Case, read_case, case_heading}
use Rattle.expressions.specs.paper.Bindings.{just, both, Bound, unbound, known, unknown, conflict, bindings, binding_at, frame_of, bindable}
use Rattle.expressions.specs.paper.Variables.{Influence, influence, Slot, fact, decision, slots, choice, is_variable, world_count}
use Rattle.expressions.specs.code.Slots.{choice_code}
use Rattle.expressions.specs.code.Counted.{count_against}
use Rattle.expressions.specs.declared.variables.Count.{Count}

-- the refusal's number, 0 for none, and its record
abbrev pub refusal_number : {A : Type 0} → Verdict A → ℕ
refusal_number (fine a) = 0
refusal_number (refused n k) = n

abbrev pub record_of : {A : Type 0} → Verdict A → ℕ
record_of (fine a) = 0
record_of (refused n k) = k

-- ---- a plan, and a case over it: read, or refused by 1 to 7 of a plan, 1 to 4 of a case; a case that a later number refuses is read, and bound
-- as it stands

pub record Given : Type 0 where
  pub plan : Plan
  pub case : Case

abbrev pub given_over : List ℕ → Plan → Verdict Given
given_over case P = on_fine (read_case P case) (λ C. fine (record { plan = P; case = C }))

unfoldable pub both_read : List ℕ → List ℕ → Verdict Given
both_read plan case = on_fine (checked_plan plan) (given_over case)

abbrev pub bindings_of : Given → List Bound
bindings_of g = bindings g.plan g.case

-- how a case binds a fact: not at all where plan or case is not read
abbrev pub bound_in : ℕ → Verdict Given → Bound
bound_in f (fine g) = binding_at (bindings_of g) f
bound_in f (refused n k) = unbound

unfoldable pub binding_in : List ℕ → List ℕ → ℕ → Bound
binding_in plan case f = bound_in f (both_read plan case)

-- a binding as a number
abbrev pub code_of : Bound → ℕ
code_of unbound = 0
code_of (known false) = 1
code_of (known true) = 2
code_of unknown = 3
code_of (conflict (just false)) = 4
code_of (conflict (just true)) = 5
code_of (conflict both) = 6

-- the influence of each fact, then of each decision: none where they are not read
abbrev pub sets_listed : Influence → List ℕ
sets_listed I = I.facts ++ I.decisions

abbrev pub influences_in : Verdict Given → List ℕ
influences_in (fine g) = sets_listed (influence (frame_of g.plan g.case) (bindings_of g))
influences_in (refused n k) = []

unfoldable pub influences : List ℕ → List ℕ → List ℕ
influences plan case = influences_in (both_read plan case)

-- ---- "Variables: Unknown facts (false, true), Conflicts (candidates, false first), unresolved decisions (false, true)"

abbrev pub varies : List Bound → Slot → Bool
varies bs (fact f) = is_variable (binding_at bs f)
varies bs (decision d) = true

-- the variables among what a world gives values to
unfoldable pub varying : List Bound → List Slot → List Slot
varying bs ss = flat_map (λ s. cond (varies bs s) (s ∷ []) []) ss

-- a fact by its number, a decision by its number and 64
abbrev pub slot_code : Slot → ℕ
slot_code (fact f) = f
slot_code (decision d) = 64 + d

-- a variable as a number: the low byte says which it is, the next its candidates (1 false, 2 true, 3 both), so none is 0
unfoldable pub variable_code : List Bound → Slot → ℕ
variable_code bs s = slot_code s + 256 * choice_code (choice bs s)

unfoldable pub variable_codes : List Bound → List Slot → List ℕ
variable_codes bs ss = map (variable_code bs) (varying bs ss)

-- "Order: booleans, decisions by cut and edge, relations": none where they are not read
abbrev pub slots_in : Verdict Given → List Slot
slots_in (fine g) = slots g.plan
slots_in (refused n k) = []

abbrev pub variables_in : Verdict Given → List ℕ
variables_in (fine g) = variable_codes (bindings_of g) (slots g.plan)
variables_in (refused n k) = []

unfoldable pub variables : List ℕ → List ℕ → List ℕ
variables plan case = variables_in (both_read plan case)

-- ---- the count of worlds before constraints and the heading's maximum, "both 2^64 − 1 from 2^64 on": zeros where they are not read

abbrev pub nothing_counted : Count
nothing_counted = record { refused = false; count = 0; maximum = 0 }

abbrev pub count_in : Verdict Given → Count
count_in (fine g) = count_against (world_count g.plan (bindings_of g)) (case_heading g.case).most_worlds
count_in (refused n k) = nothing_counted

unfoldable pub worlds_counted : List ℕ → List ℕ → Count
worlds_counted plan case = count_in (both_read plan case)

-- ---- the first refusal up to the count of worlds; 8, 9 and 12, which document 01 has between reading and binding, are left out

-- "Then 5 a family twice; per boolean 10 explicit unknown beside observations, 5 fact twice; 11 more worlds, before constraints, than the heading allows"
abbrev pub refusal_by : Case → Bool → Verdict Case
refusal_by C over = on_fine (bindable C) (λ C. cond over (refused 11 0) (fine C))

abbrev pub refusal_in : Verdict Given → Verdict Case
refusal_in (fine g) = refusal_by g.case (count_in (fine g)).refused
refusal_in (refused n k) = refused n k

unfoldable pub case_refusal : List ℕ → List ℕ → Verdict Case
case_refusal plan case = refusal_in (both_read plan case)
