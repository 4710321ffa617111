-- The answer of reading a plan: number 0 and the plan, or the refusal's number and record. Free, since document 01 says nothing of them: in a
-- refusal the plan, which is some plan of the code and stands for nothing; in a success the record, which is some number. No caller reads them.
use Rattle.std.specs.Prelude.{cond, eqb}
use Rattle.records.specs.paper.Fields.{Verdict, fine, refused}
use Rattle.records.specs.paper.Plan as paper
use Rattle.records.specs.code.Decoded.{plan_of}
use Rattle.records.specs.declared.plan.reading.PlanRead.{PlanRead}

unfoldable pub plan_read_of : PlanRead → Verdict paper.Plan
plan_read_of r = cond (eqb r.number 0) (fine (plan_of r.plan)) (refused r.number r.«record»)
