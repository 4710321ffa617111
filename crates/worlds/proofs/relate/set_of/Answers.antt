use mathlib.Core.Path.{◌≡◌, refl, sym, ap, ◌∙◌, subst}
use Prim.Native.Nat.{ℕ, ◌<◌, min}
use native.Mathlib.Omega.{arith}
use lib.ListN.{length, take, drop_of_length-le}
use Rattle.sets.specs.paper.Sets.{one, union, set_of, All}
use Rattle.sets.proofs.LoopLaws.{all_at}
use Rattle.sets.proofs.UnionLaws.{none-union, union-first, union_end, set-union}
use Rattle.records.specs.declared.plan.Numbers.{Numbers}
use Rattle.records.specs.code.Decoded.{numbers_of}
use Rattle.records.proofs.UsedLaws.{rest-next, used_take}
use Rattle.worlds.proofs.relate.set_of.Goals as goal

-- the numbers that the loop goes over
in_use : (list : Numbers) (k n : ℕ) → length list.items ≡ 16 → k ≡ list.count → n ≡ min k 16 → take n list.items ≡ numbers_of list
unfolding numbers_of
in_use list k n long e some = used_take list.items list.count 16 n long (some ∙ ap (λ (x : ℕ). min x 16) e)

pub loop-p-init : goal.loop-p-init
loop-p-init c = none-union _

pub bit-all-requires : goal.bit-all-requires
bit-all-requires c =
    let all = subst (All (λ n. n < 64)) (sym (in_use c.args.list _ _ (omega (arith, c.well_formed)) c.from.ensures c.min-n.ensures)) c.requires in
    all_at (λ n. n < 64) _ 0 c.loop-p.p-index all c.loop-p-test.true

pub loop-p-preserved : goal.loop-p-preserved
unfolding union
loop-p-preserved c = union-first one c.loop-p.all _ _ _ _ _ (rest-next _ c.loop-p.p-index 0 c.loop-p-test.true) refl c.bit-all.ensures ∙ c.loop-p.invariant

pub returns : goal.returns
returns c =
    sym (union_end one c.loop-p.all _ (drop_of_length-le _ c.loop-p-test.false)) ∙ c.loop-p.invariant ∙ sym (set-union _)
    ∙ ap set_of (in_use c.args.list _ _ (omega (arith, c.well_formed)) c.from.ensures c.min-n.ensures)
