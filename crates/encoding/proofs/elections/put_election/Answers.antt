-- `put_election`: four bytes, or none.
use mathlib.Core.Path.{sym, ap, ◌∙◌}
use Rattle.page.specs.Page.{puts}
use Rattle.encoding.proofs.ElectionBytes.{election_put, election-none}
use Rattle.encoding.proofs.elections.put_election.Goals as goal

pub returns-then-e : goal.returns-then-e
returns-then-e c =
    let i = c in
    c.put_all.ensures ∙ sym (ap (puts _) (election_put i.args.e i.if-e.true))

pub returns : goal.returns
unfolding puts
returns c = sym (ap (puts _) (election-none c.args.e c.if-e.false))
