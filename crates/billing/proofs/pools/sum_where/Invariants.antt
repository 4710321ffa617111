-- `pools::sum_where`: with what the lines left add, the sum is found.
use mathlib.Core.Path.{◌≡◌}
use Prim.Native.Nat.{◌≤◌, ◌+◌, ◌*◌}
use Rattle.sets.specs.paper.Sets.{only, sum_of}
use Rattle.report.specs.paper.LineAt.{lines_from}
use Rattle.billing.specs.paper.Pools.{shares}
use Rattle.billing.proofs.PoolLaws.{shares_from_lem}
use Rattle.billing.proofs.pools.sum_where.Given as goal

abbrev pub invariant-loop-k : goal.invariant-loop-k
invariant-loop-k g l =
    (l.sum ≤ l.k * 4294967295)
    × (l.sum + sum_of (λ x. only (g.passes x.line) x.cents) (shares_from_lem l.lines l.amounts l.k l.n)
    ≡ sum_of (λ x. only (g.passes x.line) x.cents) (shares (lines_from l.lines 0 l.n) l.amounts))
