use mathlib.Core.Path.{◌≡◌, refl, sym, ap, ◌∙◌}
use Prim.Native.Nat.{ℕ, ◌<◌}
use native.Mathlib.Omega.{arith}
use Rattle.sets.specs.paper.Sets.{has, one, union, any_of, All}
use Rattle.sets.proofs.SetLaws.{has-none}
use Rattle.records.specs.paper.Plan.{Plan}
use Rattle.expressions.specs.paper.Influence.{Open, open_decisions, decision_count, open_decision}
use Rattle.expressions.specs.code.Undecided.{opens_of, open_at}
use Rattle.expressions.specs.declared.decisions.Undecided.{Undecided}
use Rattle.worlds.specs.code.Tables.{row}
use Rattle.worlds.specs.code.Laid.{OpenFits}
use Rattle.worlds.proofs.LayLaws.{filled_next, filled_other, filled_row, same_next, laid_other, below_each, digit-next}
use Rattle.worlds.proofs.PlanAt.{decision-count, decision_at}
use Rattle.worlds.proofs.lay.lay_decisions.Goals as goal

-- what is required of the one at i
fits : (u : Undecided) (i : ℕ) → i < u.count → All OpenFits (opens_of u) → OpenFits (open_at u.cuts u.edges i)
unfolding opens_of
fits u i h all = below_each OpenFits (open_at u.cuts u.edges) u.count i h all

pub bit-requires : goal.bit-requires
bit-requires c = (fits c.args.undecided c.loop-i.i c.loop-i-test.true c.requires.1).1

pub bounds-t-c : goal.bounds-t-c
bounds-t-c c = omega (arith, c.from-c.ensures, (fits c.args.undecided c.loop-i.i c.loop-i-test.true c.requires.1).0)

pub lay-requires-in-loop-i : goal.lay-requires-in-loop-i
lay-requires-in-loop-i c = (omega arith, omega (arith, c.from-c.ensures, (fits c.args.undecided c.loop-i.i c.loop-i-test.true c.requires.1).0))

pub loop-i-preserved : goal.loop-i-preserved
unfolding union any_of
loop-i-preserved c =
    let v = c.loop-i.invariant in
    let first = c.lay.ensures in
    let second = c.lay-in-loop-i.ensures in (
      λ P e.
          let here = decision_at c.args.undecided P e c.loop-i.i c.loop-i-test.true in (
            filled_other second refl (filled_next first (c.bit.ensures ∙ sym (ap (λ (x : Open). one x.edge) here)) (v.0 P e).0),
            digit-next (λ (d : ℕ). (open_decision P d).cut) c.args.t.now c.lay.new.t c.lay-in-loop-i.new.t 9 c.loop-i.i c.from-c.result _ second
                (ap (union (row c.lay.new.t 9 c.from-c.result)) c.bit-in-loop-i.ensures) (ap (λ (x : Open). x.cut) here ∙ sym c.from-c.ensures)
                (λ x d. ap (λ (m : ℕ). has m d) (laid_other 9 x first refl) ∙ (v.0 P e).1 x d),
          ),
      same_next _ refl second (same_next _ refl first v.1),
    )

pub returns : goal.returns
returns c =
    let v = c.loop-i.invariant in
    let end : (P : Plan) → open_decisions P ≡ opens_of c.args.undecided → decision_count P ≡ c.loop-i.i =
    λ P e. omega (arith, decision-count c.args.undecided P e, c.loop-i-test.false) in record {
      edges = λ P e. filled_row (end P e) (v.0 P e).0;
      opens = λ P e z x d. (v.0 P e).1 x d ∙ rw (z x, has-none, end P e);
      same = v.1;
    }
