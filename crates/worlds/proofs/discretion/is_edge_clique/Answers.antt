use mathlib.Core.Path.{◌≡◌, refl, sym, ap, ◌∙◌}
use mathlib.Core.Bool.{Bool, ◌&&◌}
use mathlib.Core.List.{List}
use Prim.Native.Nat.{ℕ}
use native.Mathlib.Nat.{lt_trans}
use native.Mathlib.Omega.{arith}
use lib.Bits.{bit_or}
use Rattle.sets.specs.paper.Sets.{one, union, subset, lowest, all_of, members}
use Rattle.worlds.specs.code.Over.{entry}
use Rattle.worlds.specs.code.Discretion.{clique_by}
use Rattle.worlds.proofs.LooseLaws.{all_next, all_fails, all_none}
use Rattle.worlds.proofs.SetTurns.{turn-members}
use Rattle.worlds.proofs.discretion.is_edge_clique.Goals as goal

-- q is led to everybody of the set
abbrev led : List ℕ → ℕ → ℕ → Bool
led lead set q = subset set (union (one q) (entry lead q))

-- what the code tests at q
tested : (lead : List ℕ) (set q b : ℕ) (r : Bool) → r ≡ subset set (bit_or b (entry lead q)) → b ≡ one q → led lead set q ≡ r
unfolding union
tested lead set q b r e k = sym (e ∙ ap (λ (x : ℕ). subset set (union x (entry lead q))) k)

pub loop-p-init : goal.loop-p-init
unfolding clique_by
loop-p-init c = rw c.into_iter-p-iterator.ensures.into_iter_gives (c.ranges.set.fits, refl)

pub returns-then-not-subset : goal.returns-then-not-subset
returns-then-not-subset c =
    let a = c.args in
    let turn = c.in-Some.ensures.steps in
    sym (all_fails (led a.lead.now a.set) c.loop-p.p-iterator.0 c.in-Some.p c.loop-p.invariant.0 turn.some turn.first.0
    (tested a.lead.now a.set c.in-Some.p _ _ c.subset.ensures c.person_mask.ensures ∙ c.if-not-subset.true))
    ∙ c.loop-p.invariant.1

pub loop-p-preserved : goal.loop-p-preserved
loop-p-preserved c =
    let a = c.args in
    let f = led a.lead.now a.set in
    let turn = c.in-Some.ensures.steps in
    let is = tested a.lead.now a.set c.in-Some.p _ _ c.subset.ensures c.person_mask.ensures ∙ c.if-not-subset.false in (
      omega (arith, turn.rest.1),
      sym (all_next f c.loop-p.p-iterator.0 c.next.new.self.0 c.in-Some.p (turn-members turn) ∙ ap (λ (b : Bool). b && all_of f (members c.next.new.self.0)) is) ∙ c.loop-p.invariant.1,
    )

pub returns : goal.returns
returns c = sym (all_none (led c.args.lead.now c.args.set) c.loop-p.p-iterator.0 c.in-None.ensures.steps.0) ∙ c.loop-p.invariant.1
