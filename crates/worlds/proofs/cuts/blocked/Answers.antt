use mathlib.Core.Path.{refl, sym, ap, ◌∙◌}
use Prim.Native.Nat.{◌<◌}
use native.Mathlib.Nat.{lt_trans}
use native.Mathlib.Omega.{arith}
use lib.ListN.{length, length-set}
use Rattle.sets.specs.paper.Sets.{union, members}
use Rattle.sets.proofs.UnionLaws.{none-union, union_end}
use Rattle.worlds.specs.code.Tables.{row}
use Rattle.worlds.specs.code.Cuts.{blockers, blocked_twins}
use Rattle.sets.proofs.TurnLaws.{turn_has, members-none}
use Rattle.worlds.proofs.NoteLaws.{note_end, twins_if, twins_in, twins-out, note_in, note_out}
use Rattle.worlds.proofs.cuts.blocked.Goals as goal

pub loop-c-init : goal.loop-c-init
loop-c-init c = rw c.into_iter-c-iterator.ensures.into_iter_gives (c.ranges.standing.fits, c.told-noted, none-union _, λ i. refl)

pub loop-c-preserved-then-edges-ne0 : goal.loop-c-preserved-then-edges-ne0
unfolding union blocked_twins
loop-c-preserved-then-edges-ne0 c =
    let bs = blockers c.args.t.now c.args.frozen c.args.decisions in
    let tw = row c.args.t.now 2 in
    let i = c.loop-c.invariant in
    let m = c.loop-c.c-iterator.0 in
    let r = c.next.new.self.0 in
    let turn = c.in-Some.ensures.steps in (
      omega (arith, turn.rest.1),
      simp length-set i.1,
      twins_in bs tw m r c.in-Some.c c.blocking-edges.result c.blocking-edges.ensures c.loop-c.found _ _ turn.rest.0 turn.first.0 i.2 c.if-edges-ne0.true refl,
      note_in bs tw m r c.in-Some.c c.blocking-edges.result c.blocking-edges.ensures c.loop-c.noted _ _ (turn_has m r c.in-Some.c i.0 turn.first turn.rest) i.3 (omega (arith, turn.first.1)) refl,
    )

pub loop-c-preserved : goal.loop-c-preserved
unfolding blocked_twins
loop-c-preserved c =
    let bs = blockers c.args.t.now c.args.frozen c.args.decisions in
    let tw = row c.args.t.now 2 in
    let i = c.loop-c.invariant in
    let m = c.loop-c.c-iterator.0 in
    let r = c.next.new.self.0 in
    let turn = c.in-Some.ensures.steps in (
      omega (arith, turn.rest.1),
      i.1,
      twins-out bs tw m r c.in-Some.c c.blocking-edges.result c.blocking-edges.ensures c.loop-c.found _ _ turn.rest.0 turn.first.0 i.2 c.if-edges-ne0.false refl,
      note_out bs tw m r c.in-Some.c c.blocking-edges.result c.blocking-edges.ensures c.loop-c.noted _ _ (turn_has m r c.in-Some.c i.0 turn.first turn.rest) i.3 c.if-edges-ne0.false refl,
    )

pub returns : goal.returns
unfolding blocked_twins
returns c =
    let a = c.args in
    let bs = blockers a.t.now a.frozen a.decisions in record { twins = sym (union_end (twins_if bs (row a.t.now 2)) c.loop-c.found (members c.loop-c.c-iterator.0) (members-none _ c.in-None.ensures.steps.0)) ∙ c.loop-c.invariant.2; noted = record { at = λ i. sym (note_end bs c.loop-c.c-iterator.0 c.loop-c.noted c.in-None.ensures.steps.0 i) ∙ c.loop-c.invariant.3 i } }
