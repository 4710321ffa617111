-- Past a limit, then wrong bits or no heading, then unsound.
use mathlib.Core.Path.{sym, ◌∙◌}
use mathlib.Core.Bool.{◌&&◌}
use native.Mathlib.Omega.{arith}
use borrow.Author.Tests.{not-true, not-false}
use Rattle.records.proofs.KindLaws.{room-left}
use Rattle.records.proofs.fields.judge.judged_fully.Goals as goal

pub returns-then-late : goal.returns-then-late
returns-then-late c = (rw (sym c.past-late.ensures ∙ c.if-late.true), λ z. omega (arith, z))

pub returns-then-unfit : goal.returns-then-unfit
returns-then-unfit c =
    let a = c.args in
    (rw (sym c.past-late.ensures ∙ c.if-late.false, not-true (a.fits && a.headed) (sym c.unsuited-unfit.ensures ∙ c.if-unfit.true)), λ z. omega (arith, z))

pub returns-then-sound : goal.returns-then-sound
returns-then-sound c =
    let a = c.args in
    let p = sym c.past-late.ensures ∙ c.if-late.false in
    (rw (p, not-false (a.fits && a.headed) (sym c.unsuited-unfit.ensures ∙ c.if-unfit.false), c.if-sound.true), λ z. room-left a.limit a.n a.over p)

pub returns-else-sound : goal.returns-else-sound
returns-else-sound c =
    let a = c.args in
    let p = sym c.past-late.ensures ∙ c.if-late.false in
    (rw (p, not-false (a.fits && a.headed) (sym c.unsuited-unfit.ensures ∙ c.if-unfit.false), c.if-sound.false), λ z. omega (arith, z))
