-- `elections::elect_by_cuts`: the table has the first election of the records from i on, else what it had.
use Rattle.expressions.proofs.ElectionLaws.{Electing}
use Rattle.expressions.proofs.elections.elect_by_cuts.Given as goal

abbrev pub invariant-loop-i : goal.invariant-loop-i
invariant-loop-i l = Electing (λ x. x.election) l.cuts.items l.cuts.count 16 l.initial.out.items l.out.items l.i
