-- `touch::bound_facts`: the facts of each rule, taken in one after another.
use mathlib.Core.Path.{◌≡◌, ◌∙◌}
use borrow.Author.Rules.{rules}
use Rattle.std.specs.List.{fold}
use Rattle.sets.specs.paper.Sets.{union}
use Rattle.expressions.proofs.ListLaws.{folded_onto}
use Rattle.expressions.proofs.touch.bound_facts.Goals as goal

pub returns : goal.returns
returns c =
    let all : c.fold.result ≡ fold union c.args.constraints c.args.uses.now = search rules in
    all ∙ folded_onto (λ u. u) c.args.constraints c.args.uses.now
