-- Up to sixty-four pairs, copied.
use mathlib.Core.Path.{◌≡◌}
use Prim.Native.Nat.{◌-◌, ◌*◌, ◌≤◌}
use lib.ListN.{length}
use Rattle.sets.specs.paper.Sets.{below}
use Rattle.records.specs.paper.Plan as paper
use Rattle.records.specs.code.Readers.{bytes_from}
use Rattle.records.proofs.Listing.{decided}
use Rattle.records.proofs.fields.lists.decisions_from.Given as goal

abbrev pub invariant-loop-i : goal.invariant-loop-i
invariant-loop-i l =
    (l.i ≤ l.n) × (length l.edges ≡ 64) × (length l.verdicts ≡ 64) × (below l.i (decided l.edges l.verdicts) ≡ paper.decisions_from (bytes_from l.s l.first (l.i * 2)))
