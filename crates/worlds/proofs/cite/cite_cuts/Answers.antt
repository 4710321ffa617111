use mathlib.Core.Path.{◌≡◌, sym, ◌∙◌, subst}
use mathlib.Core.List.{◌∷◌}
use Prim.Native.Nat.{ℕ, ◌<◌, ◌^◌}
use native.Mathlib.Omega.{arith}
use Rattle.sets.specs.paper.Sets.{union, members, lowest}
use Rattle.worlds.specs.code.Over.{entry}
use Rattle.worlds.specs.code.Citing.{CitesIn, far, through}
use Rattle.worlds.proofs.CiteLaws.{left_all, left-turn, left-none}
use Rattle.worlds.proofs.CiteTurns.{far_other, far-same, ends_cite, ends_added, ends_idle, ends-none}
use Rattle.worlds.proofs.cite.cite_cuts.Goals as goal
use Rattle.worlds.proofs.cite.cite_cuts.Goals.{then-more-ne0, else-more-ne0}

-- the second end: the far one of the pair
far-end : (pair more r o : ℕ) → members pair ≡ lowest pair ∷ members more → more < 2 ^ 64 → (more ≡ 0 → ⊥) → r ≡ o → (o ≡ lowest more) × (o < 64) → (r ≡ far pair) × (r < 64)
far-end pair more r o e fits n is low = (far_other pair more r e fits n (is ∙ low.0), subst (λ (x : ℕ). x < 64) (sym is) low.1)

-- and where the pair has one person alone
same-end : (pair more r o : ℕ) → members pair ≡ lowest pair ∷ members more → more ≡ 0 → r ≡ o → (o ≡ lowest pair) × (o < 64) → (r ≡ far pair) × (r < 64)
same-end pair more r o e n is low = (far-same pair more r e n (is ∙ low.0), subst (λ (x : ℕ). x < 64) (sym is) low.1)

pub loop-e-init : goal.loop-e-init
loop-e-init c = rw c.into_iter-e-iterator.ensures.into_iter_gives (left_all _ _ _ _)

pub bounds-own-r : goal.bounds-own-r
bounds-own-r c = elim c.if-more-ne0.branch [
  | then-more-ne0 w ↦ omega (arith, w.r-is, w.low-r.ensures.1)
  | else-more-ne0 w ↦ omega (arith, w.r-is)
]

pub loop-e-preserved-then-near-far-ne0 : goal.loop-e-preserved-then-near-far-ne0
loop-e-preserved-then-near-far-ne0 c =
    let own = entry c.args.own.now in
    let pair = entry c.args.pairs.now c.in-Some.e in
    let f : (c.if-more-ne0.r ≡ far pair) × (c.if-more-ne0.r < 64) = elim c.if-more-ne0.branch [
      | then-more-ne0 w ↦ far-end pair c.others-more.result _ _ c.others-more.ensures.0 c.others-more.type_inv w.if-more-ne0.true w.r-is w.low-r.ensures
      | else-more-ne0 w ↦ same-end pair c.others-more.result _ _ c.others-more.ensures.0 w.if-more-ne0.false w.r-is c.low-l.ensures
    ] in
    left-turn c.loop-e.invariant c.in-Some.ensures.steps
    (ends_added c.args.blocks.now pair own c.low-l.result c.if-more-ne0.r c.low-l.ensures.0 f.0 c.cite_one.ensures c.cite_one-then-near-far-ne0.ensures)

pub loop-e-preserved-else-near-far-ne0 : goal.loop-e-preserved-else-near-far-ne0
unfolding union
loop-e-preserved-else-near-far-ne0 c =
    let own = entry c.args.own.now in
    let pair = entry c.args.pairs.now c.in-Some.e in
    let f : (c.if-more-ne0.r ≡ far pair) × (c.if-more-ne0.r < 64) = elim c.if-more-ne0.branch [
      | then-more-ne0 w ↦ far-end pair c.others-more.result _ _ c.others-more.ensures.0 c.others-more.type_inv w.if-more-ne0.true w.r-is w.low-r.ensures
      | else-more-ne0 w ↦ same-end pair c.others-more.result _ _ c.others-more.ensures.0 w.if-more-ne0.false w.r-is c.low-l.ensures
    ] in
    left-turn c.loop-e.invariant c.in-Some.ensures.steps
    (ends_idle c.args.blocks.now pair own c.low-l.result c.if-more-ne0.r c.loop-e.cited c.low-l.ensures.0 f.0 c.if-near-far-ne0.false)

pub loop-e-preserved : goal.loop-e-preserved
loop-e-preserved c =
    left-turn c.loop-e.invariant c.in-Some.ensures.steps
    (ends-none c.args.blocks.now (entry c.args.pairs.now c.in-Some.e) (entry c.args.own.now) c.loop-e.cited c.if-pair-ne0.false)

pub returns : goal.returns
unfolding through
returns c = left-none c.in-None.ensures.steps.0 c.loop-e.invariant
