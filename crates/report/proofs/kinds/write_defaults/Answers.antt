-- `kinds::write_defaults`: without defaults nothing is written; else the first election of a fact says all.
use native.Mathlib.Omega.{arith}
use borrow.Author.Rules.{rules}
use Rattle.expressions.specs.paper.Bindings.{elections}
use Rattle.report.specs.code.Happened.{default_over}
use Rattle.report.proofs.EventLaws.{default-read, writes_nothing}
use Rattle.report.proofs.PieceLaws.{size_none}
use Rattle.report.proofs.kinds.write_defaults.Goals as goal

pub returns-then-defaults-eq0-clause-place : goal.returns-then-defaults-eq0-clause-place
returns-then-defaults-eq0-clause-place c = omega (arith, size_none _ c.if-defaults-eq0.true)

pub returns-then-defaults-eq0-clause-written : goal.returns-then-defaults-eq0-clause-written
unfolding default_over
returns-then-defaults-eq0-clause-written c P e k b = writes_nothing _ _ _ _ _ c.if-defaults-eq0.true

pub returns-clause-written : goal.returns-clause-written
unfolding default_over
returns-clause-written c P e k b =
    let elected = c.election_policies-elections.ensures P e k in
    c.write_each.ensures.written _ _ b (λ i d few h made. rw (← default-read i (elections P i), ← elected.at i few) (search rules))
