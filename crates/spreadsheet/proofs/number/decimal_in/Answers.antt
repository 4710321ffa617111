use mathlib.Core.Path.{refl, ap, sym, ◌∙◌}
use Prim.Native.Nat.{ℕ, ◌+◌, ◌*◌, ◌-◌}
use native.Mathlib.Omega.{arith}
use lib.ListN.{get_or}
use Rattle.spreadsheet.specs.paper.Numerals.{decimal_from}
use Rattle.spreadsheet.specs.code.FieldSeen.{between}
use Rattle.spreadsheet.proofs.BetweenLaws.{between_none, between_cons}
use Rattle.spreadsheet.proofs.NumeralLaws.{decimal_end, read_low, read_high, read_step, decimal-over}
use Rattle.spreadsheet.proofs.number.decimal_in.Goals as goal

pub loop-i-init : goal.loop-i-init
loop-i-init c = (omega arith, (omega arith, (omega arith, refl)))

pub returns-then-b-lt48 : goal.returns-then-b-lt48
returns-then-b-lt48 c =
    let L = c in
    let a = L.args in
    let d = between_cons a.s.now L.loop-i.i a.to c.loop-i-test.true L.requires.1 in
    read_low a.top L.loop-i.v (get_or a.s.now L.loop-i.i 0) (between a.s.now (L.loop-i.i + 1) a.to) (omega (arith, c.from-b.ensures)) ∙ ap (decimal_from a.top L.loop-i.v) (sym d) ∙ L.loop-i.invariant.1.1.1

pub returns-then-b-gt57 : goal.returns-then-b-gt57
returns-then-b-gt57 c =
    let L = c in
    let a = L.args in
    let d = between_cons a.s.now L.loop-i.i a.to c.loop-i-test.true L.requires.1 in
    read_high a.top L.loop-i.v (get_or a.s.now L.loop-i.i 0) (between a.s.now (L.loop-i.i + 1) a.to) (omega (arith, c.from-b.ensures)) (omega (arith, c.from-b.ensures)) ∙ ap (decimal_from a.top L.loop-i.v) (sym d) ∙ L.loop-i.invariant.1.1.1

pub returns-then-v-most : goal.returns-then-v-most
returns-then-v-most c =
    let L = c in
    let a = L.args in
    let b = get_or a.s.now L.loop-i.i 0 in
    let t = between a.s.now (L.loop-i.i + 1) a.to in
    let d = between_cons a.s.now L.loop-i.i a.to c.loop-i-test.true L.requires.1 in
    decimal-over a.top (10 * L.loop-i.v + (b - 48)) t (omega (arith, c.from-b.ensures)) ∙ sym (read_step a.top L.loop-i.v b t (omega (arith, c.from-b.ensures)) (omega (arith, c.from-b.ensures))) ∙ ap (decimal_from a.top L.loop-i.v) (sym d) ∙ L.loop-i.invariant.1.1.1

pub loop-i-preserved : goal.loop-i-preserved
loop-i-preserved c =
    let L = c in
    let a = L.args in
    let b = get_or a.s.now L.loop-i.i 0 in
    let t = between a.s.now (L.loop-i.i + 1) a.to in
    let d = between_cons a.s.now L.loop-i.i a.to c.loop-i-test.true L.requires.1 in
    (omega arith, (omega arith, (omega arith, ap (λ (x : ℕ). decimal_from a.top (10 * L.loop-i.v + (x - 48)) t) c.from-b.ensures ∙ sym (read_step a.top L.loop-i.v b t (omega (arith, c.from-b.ensures)) (omega (arith, c.from-b.ensures))) ∙ ap (decimal_from a.top L.loop-i.v) (sym d) ∙ L.loop-i.invariant.1.1.1)))

pub returns : goal.returns
returns c =
    let L = c in
    let a = L.args in
    decimal_end a.top L.loop-i.v L.loop-i.invariant.1.1.0 ∙ ap (decimal_from a.top L.loop-i.v) (sym (between_none a.s.now L.loop-i.i a.to c.loop-i-test.false)) ∙ L.loop-i.invariant.1.1.1
