-- After the last kind: what was refused, or what is refused now.
use mathlib.Core.Path.{refl}
use lib.ListN.{length}
use borrow.Author.Tests.{lt-ltb, le-ltb, eq-eqb, ne_eqb}
use Rattle.records.proofs.fields.passing.ended.Goals as goal

pub returns-then-last-ne0 : goal.returns-then-last-ne0
returns-then-last-ne0 c = let a = c.args in (rw (ne_eqb a.last.number 0 c.if-last-ne0.true), refl)

pub returns-then-last-s : goal.returns-then-last-s
returns-then-last-s c =
    let a = c.args in
    rw (c.refused.ensures, eq-eqb a.last.number 0 c.if-last-ne0.false, lt-ltb a.last.at (length a.s.now) c.if-last-s.true) (refl, refl)

pub returns-then-last-eq0 : goal.returns-then-last-eq0
returns-then-last-eq0 c =
    let a = c.args in
    rw (c.refused-then-last-eq0.ensures, eq-eqb a.last.number 0 c.if-last-ne0.false, le-ltb a.last.at (length a.s.now) c.if-last-s.false, eq-eqb a.last.«record» 0 c.if-last-eq0.true) (refl, refl)

pub returns : goal.returns
returns c =
    let a = c.args in
    (rw (eq-eqb a.last.number 0 c.if-last-ne0.false, le-ltb a.last.at (length a.s.now) c.if-last-s.false, ne_eqb a.last.«record» 0 c.if-last-eq0.false) c.if-last-ne0.false, refl)
