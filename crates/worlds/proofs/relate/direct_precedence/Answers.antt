use mathlib.Core.Path.{◌≡◌, sym, ap, ◌∙◌}
use mathlib.Core.List.{List, []}
use native.Mathlib.Omega.{arith}
use lib.ListN.{length, get_or, length-set}
use Rattle.sets.specs.paper.Sets.{set_of}
use Rattle.records.specs.paper.Plan.{Cut}
use Rattle.records.specs.code.Decoded.{cut_of, cuts_of}
use Rattle.expressions.specs.paper.Rules.{cut}
use Rattle.expressions.proofs.ListLaws.{made_at, made_each, made-length}
use Rattle.worlds.specs.code.Related.{PrecedesFit}
use Rattle.worlds.proofs.RelateLaws.{stored_next}
use Rattle.worlds.proofs.relate.direct_precedence.Goals as goal

pub set_of-requires : goal.set_of-requires
unfolding cut_of
set_of-requires c =
    let long : length c.args.cuts.items ≡ 16 = omega (arith, c.well_formed) in
    made_each cut_of _ c.args.cuts.count 16 _ long c.min-n.ensures PrecedesFit c.loop-i.i _ (omega arith) c.requires

pub loop-i-preserved : goal.loop-i-preserved
unfolding cut_of
loop-i-preserved c =
    let long : length c.args.cuts.items ≡ 16 = omega (arith, c.well_formed) in (
      simp length-set c.loop-i.invariant.0,
      stored_next (λ j x. (d : Cut) → x ≡ set_of (get_or (cuts_of c.args.cuts) j d).precedes) _ c.loop-i.i _ (omega arith)
          (λ d. c.set_of.ensures ∙ sym (ap (λ (x : Cut). set_of x.precedes) (made_at cut_of _ c.args.cuts.count 16 _ long c.min-n.ensures c.loop-i.i _ d (omega arith))))
          c.loop-i.invariant.1,
    )

pub returns : goal.returns
unfolding cut
returns c =
    let long : length c.args.cuts.items ≡ 16 = omega (arith, c.well_formed) in
    let none : Cut = record { members = 0; condition = 256; citation = 0; election = []; decisions = []; precedes = [] } in
    let n = made-length cut_of c.args.cuts.items c.args.cuts.count 16 _ long c.min-n.ensures in
    record {
      at = λ P e i h.
          c.loop-i.invariant.1 i (omega (arith, n, ap length e, c.loop-i-test.false)) none ∙ sym (ap (λ (x : List Cut). set_of (get_or x i none).precedes) e);
    }
