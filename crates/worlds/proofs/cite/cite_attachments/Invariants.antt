-- `cite::cite_attachments`: with the attachments left, the table is the one asked for; one is cited at its anchor's block.
use mathlib.Core.Path.{◌≡◌}
use mathlib.Core.Bool.{◌&&◌}
use lib.ListN.{length}
use Rattle.sets.specs.paper.Sets.{has, meets, only, lowest}
use Rattle.worlds.specs.code.Tables.{row}
use Rattle.worlds.proofs.CiteLaws.{Left}
use Rattle.worlds.proofs.cite.cite_attachments.Given as goal

abbrev pub invariant-loop-i : goal.invariant-loop-i
invariant-loop-i l = (length l.cited ≡ 64) × Left l.blocks (λ i b. only (has b (lowest (row l.t 12 i)) && meets (row l.t 11 i) b) (row l.t 18 i)) l.attachments l.initial.cited l.cited l.i-iterator.0
