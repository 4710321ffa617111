use Prim.Native.Nat.{min}
use mathlib.Core.Path.{◌≡◌, refl, ap, ◌∙◌}
use native.Mathlib.Omega.{arith}
use lib.ListN.{length-set}
use Rattle.sets.specs.paper.Sets.{union, below, numbers}
use Rattle.records.specs.code.Decoded.{edge_of}
use Rattle.expressions.specs.paper.Influence.{open_touch}
use Rattle.expressions.specs.code.Coded.{EndsFit}
use Rattle.expressions.specs.code.Undecided.{open_at, opens_of}
use Rattle.expressions.proofs.ListLaws.{holds_none, fill_next, below-map, made_each}
use Rattle.expressions.proofs.DecisionLaws.{cut_in, edge_in, touch_at}
use Rattle.expressions.proofs.decisions.touches_over.Goals as goal

pub loop-i-init : goal.loop-i-init
unfolding below numbers
loop-i-init c = (refl, λ P x y. holds_none 16 0)

pub bounds-cuts-from : goal.bounds-cuts-from
bounds-cuts-from c =
    let a = c.args in
    omega (arith, cut_in a.cuts a.edges a.found c.loop-i.i c.loop-i-test.true c.requires.1 (omega (arith, c.well_formed)))

pub bounds-edges-from : goal.bounds-edges-from
bounds-edges-from c =
    let a = c.args in
    omega (arith, edge_in a.cuts a.edges a.found c.loop-i.i c.loop-i-test.true c.requires.1 (omega (arith, c.well_formed)))

pub ends-requires : goal.ends-requires
ends-requires c =
    let a = c.args in
    let k = edge_in a.cuts a.edges a.found c.loop-i.i c.loop-i-test.true c.requires.1 (omega (arith, c.well_formed)) in
    made_each edge_of a.edges.items a.edges.count 64 (min a.edges.count 64) (omega (arith, c.well_formed)) refl EndsFit c.from-in-loop-i.result _ (omega (arith, c.from-in-loop-i.ensures, k)) c.requires.2

pub loop-i-preserved : goal.loop-i-preserved
loop-i-preserved c =
    let a = c.args in
    let o = a.found in
    let now = rw (c.from.ensures, c.from-in-loop-i.ensures) at (c.union.ensures ∙ ap (union _) c.ends.ensures) in (
      simp length-set c.loop-i.invariant.0,
      λ P x y. fill_next 0 (λ k. open_touch P (open_at o.cuts o.edges k)) c.loop-i.out c.loop-i.i c.union.result (omega arith) (c.loop-i.invariant.1 P x y)
          (now ∙ touch_at a.cuts a.edges o c.loop-i.i c.loop-i-test.true c.requires.1 (omega (arith, c.well_formed)) (omega (arith, c.well_formed)) _ _ P x y),
    )

pub returns : goal.returns
unfolding opens_of
returns c = λ P x y.
    let o = c.args.found in
    let all : o.count ≡ c.loop-i.i = omega arith in
    rw (below-map (open_touch P) o.count (open_at o.cuts o.edges), all) (c.loop-i.invariant.1 P x y)
