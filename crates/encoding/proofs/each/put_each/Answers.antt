use mathlib.Core.Path.{sym, ap, subst, ◌∙◌}
use mathlib.Core.List.{◌∷◌}
use Prim.Native.Nat.{◌+◌}
use lib.ListN.{drop, drop_of_length-le}
use Rattle.sets.proofs.LoopLaws.{all_at}
use Rattle.records.proofs.UsedLaws.{rest-next}
use Rattle.page.proofs.PageLaws.{put_more, put_done}
use Rattle.encoding.proofs.each.put_each.Goals as goal

pub put-next-requires : goal.put-next-requires
put-next-requires g c = subst g.T.Record.fits (sym c.x-item.is) (all_at g.T.Record.fits c.args.records.now c.x-item.result c.loop-x.x-index c.requires c.loop-x-test.true)

pub loop-x-preserved : goal.loop-x-preserved
loop-x-preserved g c =
    let xs = c.args.records.now in
    let i = c.loop-x.x-index in
    put_more g.T.Record.bytes _ _ c.x-item.result _ _ (rest-next xs i c.x-item.result c.loop-x-test.true ∙ ap (λ x. x ∷ drop (i + 1) xs) (sym c.x-item.is)) c.put-next.ensures ∙ c.loop-x.invariant

pub returns : goal.returns
returns g c = put_done g.T.Record.bytes _ _ (drop_of_length-le c.args.records.now c.loop-x-test.false) ∙ c.loop-x.invariant
