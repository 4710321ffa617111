-- Booleans first, then by family and tuple.
use mathlib.Core.Path.{sym}
use borrow.Author.Tests.{eq-eqb, ne_eqb}
use Rattle.sets.specs.paper.Sets.{lex_less}
use Rattle.records.specs.paper.Plan.{rises, is_boolean}
use Rattle.records.specs.code.Decoded.{fact_of}
use Rattle.records.proofs.FactLaws.{is_boolean_lem}
use Rattle.records.proofs.plan.checks.fact_order.fact_rises.Goals as goal

pub returns-then-b : goal.returns-then-b
unfolding rises is_boolean fact_of lex_less
returns-then-b c = rw c.if-b.true (sym (is_boolean_lem c.args.a.boolean c.args.a.family))

pub returns-then-a : goal.returns-then-a
unfolding rises is_boolean fact_of lex_less
returns-then-a c = rw (c.if-b.false, c.if-a.true, c.requires.2 c.if-a.true)

pub returns-then-a-b : goal.returns-then-a-b
unfolding rises is_boolean fact_of lex_less
returns-then-a-b c = rw (c.if-b.false, c.if-a.false, ne_eqb _ _ c.if-a-b.true)

pub returns : goal.returns
unfolding rises is_boolean fact_of lex_less
returns c = rw (c.if-b.false, c.if-a.false, eq-eqb _ _ c.if-a-b.false) c.tuple_less.ensures
