-- The heading of a case that has none.
use borrow.Author.Rules.{rules}
use Rattle.records.specs.paper.Case.{case_heading}
use Rattle.records.specs.code.Decoded.{case_heading_of}
use Rattle.records.proofs.case.reading.heading.no_heading.Goals as goal

pub returns : goal.returns
unfolding case_heading_of case_heading
returns c = search rules
