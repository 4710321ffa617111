-- `cite::cite_cuts`: with the frozen edges left, the table is the one asked for; each end gets what the other end's cuts cite.
use Rattle.sets.specs.paper.Sets.{has, union, only, lowest}
use Rattle.worlds.specs.code.Over.{entry}
use Rattle.worlds.specs.code.Citing.{far}
use Rattle.worlds.proofs.CiteLaws.{Left}
use Rattle.worlds.proofs.cite.cite_cuts.Given as goal

abbrev pub invariant-loop-e : goal.invariant-loop-e
invariant-loop-e l = Left l.blocks
    (λ e b. union (only (has b (lowest (entry l.pairs e))) (entry l.own (far (entry l.pairs e)))) (only (has b (far (entry l.pairs e))) (entry l.own (lowest (entry l.pairs e))))) l.frozen l.initial.cited l.cited l.e-iterator.0
