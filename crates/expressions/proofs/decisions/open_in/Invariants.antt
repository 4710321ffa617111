-- `decisions::open_in`: after e edges the list has the open decisions on them behind it.
use mathlib.Core.Path.{◌≡◌}
use mathlib.Core.List.{◌++◌}
use Rattle.records.specs.code.Decoded.{decisions_of}
use Rattle.expressions.specs.paper.Influence.{open_in}
use Rattle.expressions.specs.code.Undecided.{opens_of}
use Rattle.expressions.proofs.decisions.open_in.Given as goal

abbrev pub invariant-loop-e : goal.invariant-loop-e
invariant-loop-e l = opens_of l.out ≡ opens_of l.initial.out ++ open_in (decisions_of l.fn.decisions) l.c l.e
