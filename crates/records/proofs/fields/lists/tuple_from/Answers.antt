use mathlib.Core.Path.{◌≡◌, refl, sym, ◌∙◌, ap}
use Prim.Native.Nat.{ℕ}
use native.Mathlib.Omega.{arith}
use lib.ListN.{take, length-set}
use Rattle.records.specs.code.Readers.{bytes_from}
use Rattle.records.proofs.Listing.{copied}
use Rattle.records.proofs.fields.lists.tuple_from.Goals as goal

pub loop-i-init : goal.loop-i-init
unfolding bytes_from
loop-i-init c = (omega arith, refl, refl)

pub loop-i-preserved : goal.loop-i-preserved
loop-i-preserved c =
    let l = c.loop-i in
    (omega arith, rw length-set l.invariant.1, copied c.args.s.now l.items c.args.first l.i (omega arith) l.invariant.2)

pub returns : goal.returns
returns c =
    let l = c.loop-i in
    let e : l.i ≡ c.args.count = omega arith in
    ap (λ (k : ℕ). take k l.items) (sym e) ∙ l.invariant.2 ∙ ap (bytes_from c.args.s.now c.args.first) e
