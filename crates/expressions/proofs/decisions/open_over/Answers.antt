use mathlib.Core.Path.{◌≡◌, refl, sym, ap, ◌∙◌}
use native.Mathlib.Omega.{arith}
use lib.ListN.{length}
use Rattle.sets.specs.paper.Sets.{below, numbers}
use Rattle.records.specs.paper.Plan.{Cut}
use Rattle.records.specs.code.Decoded.{cut_of, cuts_of}
use Rattle.expressions.specs.paper.Influence.{open_below}
use Rattle.expressions.specs.code.Undecided.{opens_of}
use Rattle.expressions.proofs.ListLaws.{made_at, made-length}
use Rattle.expressions.proofs.OpenLaws.{all_next, room_all}
use Rattle.expressions.proofs.decisions.open_over.Goals as goal

pub loop-i-init : goal.loop-i-init
unfolding opens_of open_below below numbers
loop-i-init c = refl

pub open_in-out-requires : goal.open_in-out-requires
unfolding cut_of
open_in-out-requires c =
    let cs = c.args.cuts in
    let len = made-length cut_of cs.items cs.count 16 _ (omega (arith, c.well_formed)) c.min-i-end.ensures in
    let next = all_next (cuts_of cs) c.args.edges c.loop-i.i _ (λ d.
    ap (λ (x : Cut). x.decisions) (made_at cut_of cs.items cs.count 16 _ (omega (arith, c.well_formed)) c.min-i-end.ensures c.loop-i.i _ d c.loop-i-test.true)) in
    (c.requires.0, room_all (cuts_of cs) c.args.edges c.loop-i.i (length (cuts_of cs)) c.loop-i.out _ c.loop-i.invariant next (omega (arith, len)) c.requires.1)

pub loop-i-preserved : goal.loop-i-preserved
unfolding cut_of
loop-i-preserved c =
    let cs = c.args.cuts in
    rw (c.open_in-out.ensures, c.loop-i.invariant) (sym (all_next (cuts_of cs) c.args.edges c.loop-i.i _ (λ d.
    ap (λ (x : Cut). x.decisions) (made_at cut_of cs.items cs.count 16 _ (omega (arith, c.well_formed)) c.min-i-end.ensures c.loop-i.i _ d c.loop-i-test.true))))

pub returns : goal.returns
returns c =
    let cs = c.args.cuts in
    let all : length (cuts_of cs) ≡ c.loop-i.i = made-length cut_of cs.items cs.count 16 _ (omega (arith, c.well_formed)) c.min-i-end.ensures ∙ omega arith in
    rw all c.loop-i.invariant
