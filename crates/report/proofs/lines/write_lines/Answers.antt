-- `lines::write_lines`: each line is the person's, whatever worlds the sums are of.
use borrow.Author.Rules.{rules}
use mathlib.Core.Path.{ap}
use Rattle.report.specs.paper.Line.{line_bytes}
use Rattle.report.proofs.WriteLaws.{holding_lt}
use Rattle.report.proofs.lines.write_lines.Goals as goal

pub write_each-requires-clause-made : goal.write_each-requires-clause-made
write_each-requires-clause-made c p few at = search (rules, holding_lt)

pub returns : goal.returns
returns c = record { at = λ first more h. c.write_each.ensures _ (λ p l few at made. ap line_bytes (search (rules, h))) }
