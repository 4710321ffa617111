-- Two elections, byte by byte, if they are on one fact.
use borrow.Author.Tests.{not-true, not-false, eq-eqb, ne_eqb}
use Rattle.records.specs.paper.Plan.{same_election}
use Rattle.records.specs.code.Decoded.{election_of}
use Rattle.records.proofs.ElectionLaws.{agree-given}
use Rattle.records.proofs.plan.checks.elections.same.Goals as goal

pub returns-then-not-a : goal.returns-then-not-a
unfolding election_of
returns-then-not-a c = let s = c.args in
    rw (agree-given, not-true s.a.given c.if-not-a.true)

pub returns-then-not-b : goal.returns-then-not-b
unfolding election_of
returns-then-not-b c = let s = c.args in
    rw (agree-given, not-false s.a.given c.if-not-a.false, not-true s.b.given c.if-not-b.true)

pub returns-then-a-b : goal.returns-then-a-b
unfolding election_of same_election
returns-then-a-b c = let s = c.args in
    rw (agree-given, not-false s.a.given c.if-not-a.false, not-false s.b.given c.if-not-b.false, ne_eqb s.a.fact s.b.fact c.if-a-b.true)

pub returns-then-a-b-2 : goal.returns-then-a-b-2
unfolding election_of same_election
returns-then-a-b-2 c = let s = c.args in
    rw (agree-given, not-false s.a.given c.if-not-a.false, not-false s.b.given c.if-not-b.false, eq-eqb s.a.fact s.b.fact c.if-a-b.false, ne_eqb s.a.actor s.b.actor c.if-a-b-2.true)

pub returns-then-a-b-3 : goal.returns-then-a-b-3
unfolding election_of same_election
returns-then-a-b-3 c = let s = c.args in
    rw (agree-given, not-false s.a.given c.if-not-a.false, not-false s.b.given c.if-not-b.false, eq-eqb s.a.fact s.b.fact c.if-a-b.false, eq-eqb s.a.actor s.b.actor c.if-a-b-2.false, ne_eqb s.a.policy s.b.policy c.if-a-b-3.true)

pub returns : goal.returns
unfolding election_of same_election
returns c = let s = c.args in
    rw (agree-given, not-false s.a.given c.if-not-a.false, not-false s.b.given c.if-not-b.false, eq-eqb s.a.fact s.b.fact c.if-a-b.false, eq-eqb s.a.actor s.b.actor c.if-a-b-2.false, eq-eqb s.a.policy s.b.policy c.if-a-b-3.false)
