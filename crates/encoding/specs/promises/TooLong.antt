-- A plan that does not fit a lent buffer.
use Rattle.std.specs.Prelude.{◌≡◌, ℕ, ◌<◌, length}
use Rattle.records.specs.paper.Fields.{Verdict, fine}
use Rattle.records.specs.paper.Plan.{Plan}
use Rattle.encoding.specs.paper.Encoded.{plan_bytes}

pub record TooLong (room : ℕ) (v : Verdict Plan) : Type 0 where
  pub plan : Plan
  pub is : v ≡ fine plan
  pub long : room < length (plan_bytes plan)
