use mathlib.Core.Path.{refl, ◌∙◌}
use mathlib.Core.Bool.{false}
use Prim.Native.Nat.{zero-le}
use native.Mathlib.Omega.{arith}
use lib.ListN.{get_or, length-map}
use borrow.Author.Rules.{rules}
use borrow.Kind.Array.{e_bool, good_length}
use Rattle.sets.specs.paper.Sets.{only}
use Rattle.billing.proofs.LaidLaws.{made-next, made_all}
use Rattle.exports.proofs.PoolLaws.{mark-byte, padded-full}
use Rattle.exports.proofs.pools.mark_bytes.Goals as goal

pub loop-i-init : goal.loop-i-init
loop-i-init c = (zero-le, refl)

pub loop-i-preserved : goal.loop-i-preserved
loop-i-preserved c =
    let l = c.loop-i in
    let h = c.loop-i-test.true in
    let n = good_length e_bool 64 c.args.marks _ c.well_formed.0 in
    (search rules, made-next 0 (λ b. only b 1) c.args.marks false l.i _ _ (omega (arith, n, h)) (omega (arith, n)) l.invariant.1 (mark-byte (get_or c.args.marks l.i false)))

pub returns : goal.returns
returns c =
    let l = c.loop-i in
    let n = good_length e_bool 64 c.args.marks _ c.well_formed.0 in
    let h = c.loop-i-test.false in
    l.invariant.1 ∙ made_all 0 (λ b. only b 1) c.args.marks l.i (omega (arith, n, h)) ∙ padded-full 0 _ (length-map c.args.marks (λ b. only b 1) ∙ n)
