-- A loop over cuts and attachments that keeps an election for each fact, left at the first that differs.
use mathlib.Core.Path.{◌≡◌}
use Prim.Native.Nat.{◌≤◌, ◌-◌, ◌+◌}
use lib.ListN.{length}
use Rattle.records.specs.paper.Plan.{Plan, election_records}
use Rattle.records.specs.code.Elections.{agreement}
use Rattle.records.proofs.FaultLaws.{NoneYet}
use Rattle.records.proofs.ElectionLaws.{Elects, Kept}
use Rattle.records.proofs.plan.checks.elections.elections.Given as goal

abbrev pub invariant-loop-k : goal.invariant-loop-k
invariant-loop-k l =
    (l.k ≤ l.total) × (length l.kept ≡ 256) × ((P : Plan) → Elects l.cuts l.attachments P → l.cut_count ≡ length P.cuts → l.total ≡ length P.cuts + length P.attachments
    → NoneYet l.first (agreement P) P l.k × Kept (election_records P) l.k l.kept)
