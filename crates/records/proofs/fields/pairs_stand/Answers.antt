use mathlib.Core.Path.{◌∙◌}
use mathlib.Core.List.{[], ◌∷◌}
use native.Mathlib.Nat.{sub-zero}
use native.Mathlib.Omega.{arith}
use Rattle.records.specs.paper.Fields.{up_to}
use Rattle.records.specs.code.Readers.{field_read}
use Rattle.records.proofs.Reading.{seen, entries_none, entry-bad, pair-bad, pair-more}
use Rattle.records.proofs.fields.pairs_stand.Goals as goal

pub loop-i-init : goal.loop-i-init
loop-i-init c = (omega arith, rw sub-zero)

pub returns-in_default : goal.returns-in_default
returns-in_default c =
    let a = c.args in
    let l = c.loop-i in
    entry-bad a.s.now l.p a.n l.i c.loop-i-test.true (up_to a.top) (record { low = a.low; top = a.high } ∷ []) (seen field_read c.byte_at.ensures c.in_default.is) ∙ l.invariant.1

pub returns-in_default-byte_at : goal.returns-in_default-byte_at
returns-in_default-byte_at c =
    let a = c.args in
    let l = c.loop-i in
    pair-bad a.s.now l.p a.n l.i c.loop-i-test.true (up_to a.top) (record { low = a.low; top = a.high }) (seen field_read c.byte_at.ensures c.in-Got.is) (seen field_read c.byte_at-in-loop-i.ensures c.in_default-byte_at.is) ∙ l.invariant.1

pub loop-i-preserved : goal.loop-i-preserved
loop-i-preserved c =
    let a = c.args in
    let l = c.loop-i in
    (omega arith, pair-more a.s.now l.p a.n l.i c.loop-i-test.true (up_to a.top) (record { low = a.low; top = a.high }) (seen field_read c.byte_at.ensures c.in-Got.is) (seen field_read c.byte_at-in-loop-i.ensures c.in-Got-byte_at.is) ∙ l.invariant.1)

pub returns : goal.returns
returns c =
    let a = c.args in
    let l = c.loop-i in
    entries_none a.s.now l.p a.n l.i (up_to a.top ∷ record { low = a.low; top = a.high } ∷ []) c.loop-i-test.false ∙ l.invariant.1
