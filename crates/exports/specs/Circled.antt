-- A person's circle as a function of the bytes offered. Document 01, "Circle".
use Rattle.std.specs.Prelude.{cond, List, ℕ, ltb}
use Rattle.records.specs.paper.Fields.{Verdict, fine, refused, on_fine}
use Rattle.records.specs.paper.Plan.{Plan, checked_plan}
use Rattle.records.specs.paper.Case.{read_case}
use Rattle.expressions.specs.paper.Bindings.{frame_of}
use Rattle.expressions.specs.paper.Influence.{circle}

abbrev pub or_nobody : Verdict ℕ → ℕ
or_nobody (fine m) = m
or_nobody (refused n k) = 0

-- "Circles follow from plan, heading and constraints alone": a case that a number from 8 on refuses is read, and has circles
abbrev pub circle_over : List ℕ → ℕ → Plan → Verdict ℕ
circle_over case p P = on_fine (read_case P case) (λ C. fine (circle (frame_of P C) p))

-- nobody where plan or case is not read, refused by 1 to 7, and for who is no person
unfoldable pub circle_in : List ℕ → List ℕ → ℕ → ℕ
circle_in plan case p = cond (ltb p 64) (or_nobody (on_fine (checked_plan plan) (circle_over case p))) 0
