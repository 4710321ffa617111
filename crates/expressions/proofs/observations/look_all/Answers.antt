use mathlib.Core.Path.{refl, sym, ◌∙◌}
use borrow.Author.Rules.{rules}
use Rattle.expressions.proofs.SeenLaws.{pairs_next, pairs-none}
use Rattle.records.specs.code.Decoded.{observations_of}
use Rattle.expressions.proofs.observations.look_all.Goals as goal

pub loop-i-init : goal.loop-i-init
loop-i-init c = (search rules, refl)

pub loop-i-preserved : goal.loop-i-preserved
loop-i-preserved c =
    let l = c in
    let a = l.args in
    (search rules, rw (c.look-s.ensures, c.entry.ensures, c.entry-in-loop-i.ensures) (sym (pairs_next l.loop-i.s a.o.count a.o.values a.o.evidence l.loop-i.i (search rules)) ∙ l.loop-i.invariant.1))

pub returns : goal.returns
unfolding observations_of
returns c =
    let l = c in
    let a = l.args in
    sym (pairs-none l.loop-i.s a.o.count a.o.values a.o.evidence l.loop-i.i (search rules)) ∙ l.loop-i.invariant.1
