use mathlib.Core.Path.{refl, sym, ap, ◌∙◌}
use borrow.Author.Rules.{rules}
use Rattle.sets.proofs.UnionLaws.{union-first, union_end}
use Rattle.expressions.proofs.EvidenceLaws.{evident_at, observations-next, observations-none}
use Rattle.expressions.specs.code.Evident.{evidence_mark}
use Rattle.sets.specs.paper.Sets.{one}
use Rattle.expressions.proofs.evidence.mark_all.Goals as goal

pub loop-i-init : goal.loop-i-init
loop-i-init c = (search rules, refl)

pub mark-all-requires : goal.mark-all-requires
mark-all-requires c =
    let s = c in
    rw c.entry.ensures (evident_at s.args.o c.loop-i.i s.requires (search rules))

pub loop-i-preserved : goal.loop-i-preserved
loop-i-preserved c =
    let l = c in
    let next = observations-next l.args.o l.loop-i.i (search rules) in
    (search rules, union-first evidence_mark l.loop-i.all c.mark-all.result (one c.entry.result) _ _ _ next c.mark-all.ensures (ap one c.entry.ensures) ∙ l.loop-i.invariant.1)

pub returns : goal.returns
returns c =
    let l = c in
    sym (union_end evidence_mark l.loop-i.all _ (observations-none l.args.o l.loop-i.i (search rules))) ∙ l.loop-i.invariant.1
