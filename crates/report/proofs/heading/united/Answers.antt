-- `heading::united`: the sets, taken in one after another.
use mathlib.Core.Path.{◌≡◌, ◌∙◌}
use borrow.Author.Rules.{rules}
use Rattle.std.specs.List.{fold}
use Rattle.sets.specs.paper.Sets.{union}
use Rattle.report.specs.code.Opening.{itself}
use Rattle.report.proofs.HeadingLaws.{folded-union}
use Rattle.report.proofs.heading.united.Goals as goal

pub returns : goal.returns
returns c =
    let all : c.fold.result ≡ fold union 0 c.args.sets.now = search rules in
    all ∙ folded-union itself c.args.sets.now
