use mathlib.Core.Path.{refl, ◌∙◌}
use mathlib.Core.Bool.{Bool, ◌&&◌}
use native.Mathlib.Omega.{arith}
use lib.Dec.{eqb}
use borrow.Author.Rules.{rules}
use borrow.Author.Tests.{tests}
use Rattle.std.proofs.lemmas.Iterator.{YieldsList-from_range}
use Rattle.std.proofs.lemmas.Iterator.Search.{any_from_yields_List}
use Rattle.report.specs.paper.Line.{Line}
use Rattle.report.specs.paper.LineAt.{line_at, decoded}
use Rattle.billing.specs.paper.Pools.{mark_of}
use Rattle.billing.proofs.PoolLaws.{some_line}
use Rattle.billing.proofs.pools.mark_of.Goals as goal

pub returns : goal.returns
unfolding mark_of
returns c =
    let s = c.args.lines.now in
    let test : Line → Bool = λ l. eqb l.kind 2 && eqb l.block c.args.block in
    any_from_yields_List (λ k. test (decoded (line_at s k))) _ _ c.any.result c.any.ensures.ran (YieldsList-from_range 0 c.args.n c.args.n refl (omega arith)) (λ x b q k. search (rules, tests))
    ∙ some_line test s 0 c.args.n
