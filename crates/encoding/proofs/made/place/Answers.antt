-- `place`: the plan's bytes are put apart, and then where they belong.
use Prim.Native.Nat.{◌≤◌}
use native.Mathlib.Omega.{arith}
use borrow.Author.Rules.{rules}
use Rattle.records.specs.code.Decoded.{plan_of}
use Rattle.encoding.specs.paper.Encoded.{plan_bytes}
use Rattle.encoding.proofs.PlanLength.{sound-short}
use Rattle.encoding.proofs.Placing.{long_put, not-kept, is_kept}
use Rattle.encoding.proofs.made.place.Goals as goal

pub returns-then-n-out : goal.returns-then-n-out
returns-then-n-out c =
    not-kept (plan_bytes (plan_of c.args.plan)) 10564 (sound-short (plan_of c.args.plan) c.requires.0) _ c.put_plan-n.ensures c.args.number c.args.out.now c.requires.1 c.if-n-out.true

-- so many bytes stand apart
pub slice_bounds-bytes-end : goal.slice_bounds-bytes-end
slice_bounds-bytes-end c =
    let s = sound-short (plan_of c.args.plan) c.requires.0 in
    let e = long_put (plan_bytes (plan_of c.args.plan)) 10564 s _ c.put_plan-n.ensures in
    let l : c.put_plan-n.result ≤ 10564 = omega arith in
    search rules

pub slice_bounds-put_all-end : goal.slice_bounds-put_all-end
slice_bounds-put_all-end c =
    let s = sound-short (plan_of c.args.plan) c.requires.0 in
    let e = long_put (plan_bytes (plan_of c.args.plan)) 10564 s _ c.put_plan-n.ensures in
    let l : c.put_plan-n.result ≤ 10564 = omega arith in
    search rules

pub returns : goal.returns
returns c =
    is_kept (plan_bytes (plan_of c.args.plan)) 10564 (sound-short (plan_of c.args.plan) c.requires.0) _ c.put_plan-n.ensures c.args.number c.args.out.now c.requires.1 _ (search rules) c.put_all.ensures
