-- `rules::add`: after i records the lists have the rules of these behind those that were there.
use Rattle.expressions.proofs.RuleLaws.{Ruling}
use Rattle.expressions.proofs.rules.add.Given as goal

abbrev pub invariant-loop-i : goal.invariant-loop-i
invariant-loop-i g l = Ruling (goal.F-post g l.rule) l.records l.at l.initial.uses l.initial.persons l.i l.uses l.persons
