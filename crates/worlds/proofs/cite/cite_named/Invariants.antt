-- `cite::cite_named`: with the rules left, the table is the one asked for.
use Rattle.sets.specs.paper.Sets.{meet, meets, only}
use Rattle.worlds.specs.code.Over.{entry}
use Rattle.worlds.proofs.CiteLaws.{Left}
use Rattle.worlds.proofs.cite.cite_named.Given as goal

abbrev pub invariant-loop-i : goal.invariant-loop-i
invariant-loop-i l = Left l.blocks (λ i b. only (meets (meet (entry l.named i) l.persons) b) (entry l.citations i)) l.rules l.initial.cited l.cited l.i-iterator.0
