-- A plan is read back from its bytes.
use mathlib.Core.Path.{◌≡◌, ap, ◌∙◌}
use Rattle.records.specs.paper.Fields.{Verdict, fine, on_fine}
use Rattle.records.specs.paper.Plan.{Plan, plan_faults, checked_plan}
use Rattle.records.specs.promises.Sound.{Sound}
use Rattle.encoding.specs.paper.Encoded.{plan_bytes}
use Rattle.encoding.proofs.PlanBack.{records_back}
use Rattle.encoding.proofs.Faultless.{no-faults}

-- WHAT THE CHECK MAKES OF A PLAN'S BYTES IS THE PLAN, for one that is sound: it has one heading, is within all ranges and limits, and has no
-- fault of 4, 6 and 7. Every plan that the check accepts is so.
pub read_back : (P : Plan) → Sound P → checked_plan (plan_bytes P) ≡ fine P
unfolding checked_plan
read_back P S = ap (λ (v : Verdict Plan). on_fine v plan_faults) (records_back P S) ∙ no-faults P S
