use borrow.Author.Rules.{rules}
use Rattle.sets.specs.paper.Sets.{meets, disjoint, meet}
use Rattle.worlds.specs.code.Over.{entry}
use Rattle.worlds.proofs.OverLaws.{tested-has}
use Rattle.worlds.proofs.over.meeting.Goals as goal

pub returns : goal.returns
unfolding meets disjoint meet
returns c =
    tested-has (λ i. meets (entry c.args.table.now i) c.args.other) c.args.set c.those.result c.those.ensures.outside
    (λ i e. let h = c.those.ensures.inside i e in search rules)
