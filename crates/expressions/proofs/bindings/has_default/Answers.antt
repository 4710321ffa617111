-- `expressions::bindings::has_default` meets its contract.
use mathlib.Core.List.{[], ◌∷◌}
use mathlib.Core.Bool.{Bool, true, false, not, cond}
use mathlib.Core.Path.{◌≡◌, refl}
use lib.ListN.{length}
use lib.Dec.{eqb}
use borrow.Author.Tests.{eq-eqb, ne_eqb, not-true, not-false}
use Rattle.expressions.specs.paper.Bindings.{default_of}
use Rattle.records.specs.code.Decoded.{election_of}
use Rattle.expressions.proofs.bindings.has_default.Goals as goal

two : (b : Bool) → b ≡ not (eqb (length (cond b (true ∷ []) [])) 0)
two true = refl
two false = refl

pub returns-then-not-e : goal.returns-then-not-e
unfolding election_of default_of
returns-then-not-e c = rw (not-true c.args.e.given c.if-not-e.true)

pub returns-then-e-eq1 : goal.returns-then-e-eq1
unfolding election_of default_of
returns-then-e-eq1 c = rw (not-false c.args.e.given c.if-not-e.false, eq-eqb _ _ c.if-e-eq1.true)

pub returns : goal.returns
unfolding election_of default_of
returns c =
    let a = c.args in
    rw (not-false a.e.given c.if-not-e.false, ne_eqb a.e.policy 1 c.if-e-eq1.false) (two (eqb a.e.policy 2))
