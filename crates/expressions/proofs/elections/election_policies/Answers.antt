-- `elections::election_policies`: the first of the attachments, over it the first of the cuts.
use mathlib.Core.Path.{sym, ap, ◌∙◌}
use mathlib.Core.List.{List, ◌++◌, map, append-nil}
use lib.ListN.{take}
use Rattle.records.specs.paper.Plan as paper
use Rattle.records.specs.code.Decoded.{election_of, no_election}
use Rattle.expressions.specs.paper.Bindings.{elections_in}
use Rattle.expressions.proofs.ListLaws.{filled_at}
use Rattle.expressions.proofs.ElectionLaws.{elections_of, first_of_both}
use Rattle.expressions.proofs.elections.election_policies.Goals as goal

pub returns : goal.returns
unfolding election_of
returns c = λ P k l. record {
  at = λ f h.
      let a = c.args in
      let xs = elections_in (map (λ c. election_of c.election) (take a.cuts.count a.cuts.items)) f in
      let ys = elections_in (map (λ a. election_of a.election) (take a.attachments.count a.attachments.items)) f in
      c.elect_by_cuts.ensures f h
      ∙ ap (λ (es : List paper.Election). take 1 (xs ++ es)) (c.elect_by_attachments.ensures f h ∙ ap (λ (e : _). take 1 (ys ++ election_of e)) (filled_at 64 f no_election) ∙ ap (take 1) (append-nil ys))
      ∙ first_of_both xs ys ∙ ap (take 1) (sym (elections_of P a.cuts a.attachments f k l));
}
