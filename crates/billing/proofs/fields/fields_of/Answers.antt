-- `fields::fields_of`: a line's bytes by their places.
use Rattle.report.specs.paper.LineAt.{decoded}
use borrow.Author.Rules.{rules}
use Rattle.billing.proofs.fields.fields_of.Goals as goal

pub returns : goal.returns
unfolding decoded
returns c = search rules
