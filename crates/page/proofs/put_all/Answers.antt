use mathlib.Core.Path.{refl, ◌∙◌}
use Prim.Native.Nat.{zero-le}
use Rattle.page.proofs.PageLaws.{put_next, put_end}
use borrow.Author.Rules.{rules}
use Rattle.page.proofs.put_all.Goals as goal

pub loop-byte-init : goal.loop-byte-init
loop-byte-init c = (zero-le, refl, refl)

pub loop-byte-preserved : goal.loop-byte-preserved
loop-byte-preserved c =
    let l = c in (
      search rules,
      search rules,
      put_next _ l.loop-byte.byte-index _ _ c.loop-byte-test.true c.put-next.ensures ∙ l.loop-byte.invariant.2,
    )

pub returns : goal.returns
returns c = put_end _ _ _ c.loop-byte-test.false ∙ c.loop-byte.invariant.2
