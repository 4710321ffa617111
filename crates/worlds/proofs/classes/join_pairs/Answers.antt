use mathlib.Core.Path.{sym, ◌∙◌}
use Rattle.worlds.proofs.ClassLaws.{pairs_next, pairs_end, pair-joined, pair_left}
use Rattle.worlds.proofs.classes.join_pairs.Goals as goal

pub loop-e-init : goal.loop-e-init
loop-e-init c = rw c.into_iter-e-iterator.ensures.into_iter_gives (λ last j. j)

pub loop-e-preserved-then-subset : goal.loop-e-preserved-then-subset
loop-e-preserved-then-subset c =
    let s = c.in-Some.ensures.steps in
    λ last j. c.loop-e.invariant last
    (pairs_next c.args.pairs.now c.args.within _ _ _ s.rest.0 s.first.0 (pair-joined c.args.pairs.now c.args.within c.in-Some.e (sym c.subset.ensures ∙ c.if-subset.true) c.join.ensures) j)

pub loop-e-preserved : goal.loop-e-preserved
loop-e-preserved c =
    let s = c.in-Some.ensures.steps in
    λ last j. c.loop-e.invariant last
    (pairs_next c.args.pairs.now c.args.within _ _ _ s.rest.0 s.first.0 (pair_left c.args.pairs.now c.args.within c.in-Some.e c.loop-e.classes (sym c.subset.ensures ∙ c.if-subset.false)) j)

pub returns : goal.returns
returns c = c.loop-e.invariant c.loop-e.classes (pairs_end c.args.pairs.now c.args.within c.loop-e.e-iterator.0 c.loop-e.classes c.in-None.ensures.steps.0)
