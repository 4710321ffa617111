-- `cite::cite_edges`: with the edges left, the table is the one asked for; an edge is cited at the block of its lower end.
use mathlib.Core.Path.{◌≡◌}
use mathlib.Core.Bool.{◌&&◌}
use lib.ListN.{length}
use Rattle.sets.specs.paper.Sets.{meets, subset, only}
use Rattle.worlds.specs.code.Tables.{row}
use Rattle.worlds.proofs.CiteLaws.{Left}
use Rattle.worlds.proofs.cite.cite_edges.Given as goal

abbrev pub invariant-loop-e : goal.invariant-loop-e
invariant-loop-e l = (length l.cited ≡ 64) × Left l.blocks (λ e b. only (meets (row l.t 0 e) b && subset (row l.t 0 e) b) (row l.t 16 e)) l.frozen l.initial.cited l.cited l.e-iterator.0
