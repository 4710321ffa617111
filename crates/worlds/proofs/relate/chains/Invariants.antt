-- `relate::chains`: with the chains of the cuts left, the table is the one asked for.
use Rattle.worlds.specs.code.Over.{entry}
use Rattle.worlds.specs.code.Related.{chain_by}
use Rattle.worlds.proofs.OverLaws.{Changing}
use Rattle.worlds.proofs.relate.chains.Given as goal

abbrev pub invariant-loop-c : goal.invariant-loop-c
invariant-loop-c l = Changing (λ c x. chain_by l.direct l.steps (entry l.direct c)) 0 l.cuts l.c-iterator.0 l.initial.preceded l.preceded
