-- `decisions::open_over`: after i cuts the list has their open decisions.
use mathlib.Core.Path.{◌≡◌}
use Rattle.records.specs.code.Decoded.{cuts_of}
use Rattle.expressions.specs.paper.Influence.{open_below}
use Rattle.expressions.specs.code.Undecided.{opens_of}
use Rattle.expressions.proofs.decisions.open_over.Given as goal

abbrev pub invariant-loop-i : goal.invariant-loop-i
invariant-loop-i l = opens_of l.out ≡ open_below (cuts_of l.cuts) l.edges l.i
