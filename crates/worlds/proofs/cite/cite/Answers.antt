-- `cite::cite`: the five parts are gathered one after the other, and handed out with each person's own cuts.
use mathlib.Core.Path.{refl, sym, ap, ◌∙◌}
use mathlib.Core.Bool.{true≢false}
use Prim.Native.Nat.{ℕ}
use Rattle.sets.specs.paper.Sets.{has, union}
use Rattle.sets.proofs.SetLaws.{has-none}
use Rattle.expressions.proofs.ListLaws.{filled_at}
use Rattle.sets.proofs.UnionLaws.{none-union}
use Rattle.worlds.specs.code.Citing.{own_of}
use Rattle.worlds.proofs.CiteTurns.{kept}
use Rattle.worlds.proofs.CiteView.{cites-view}
use Rattle.worlds.proofs.cite.cite.Goals as goal

pub returns-then-persons-eq0 : goal.returns-then-persons-eq0
returns-then-persons-eq0 c = record {
  at = λ P I a S F L W E p h l. absurd (true≢false (sym h ∙ ap (λ (x : ℕ). has x p) c.if-persons-eq0.true ∙ has-none p));
  others = λ p e. refl;
}

pub returns : goal.returns
returns c =
    record {
      at = λ P I a S F L W E p h l.
          cites-view P I c.args.common c.args.t.now a c.args.frozen c.args.settled S F L W c.args.blocks.now _ _ _ _ _ _ _ _ _ c.args.persons _ _ _ _
          (λ h. filled_at 64 h 0) c.minus-barred.ensures (λ x. c.own_citations.ensures x ∙ ap (λ (y : ℕ). union y (own_of c.args.t.now c.args.settled.applied x)) (filled_at 64 x 0) ∙ none-union _)
          c.unless_none-leading.ensures c.unless_none-bars.ensures c.unless_none-statuses.ensures
          c.cite_edges.ensures c.cite_cuts.ensures c.cite_attachments.ensures
          c.cite_named.ensures c.cite_named-2.ensures c.hand_out.ensures E p h l;
      others = kept c.hand_out.ensures;
    }
