-- The four bytes of an election, or none.
use mathlib.Core.Path.{ap}
use borrow.Author.Tests.{not-true, not-false}
use Rattle.records.specs.paper.Fields.{field_at, bytes_at}
use Rattle.records.specs.paper.Plan.{election_from}
use Rattle.records.specs.code.Decoded as decoded
use Rattle.records.specs.code.Readers.{field_read}
use Rattle.records.proofs.Reading.{seen}
use Rattle.records.proofs.fields.election_at.Goals as goal

pub returns-then-not-present : goal.returns-then-not-present
unfolding election_from decoded.election_of
returns-then-not-present c = rw (not-true c.args.present c.if-not-present.true-raw, ap decoded.election_of c.no_election.ensures)

pub returns-in_default : goal.returns-in_default
unfolding field_at bytes_at election_from
returns-in_default c = rw (not-false c.args.present c.if-not-present.false-raw, seen field_read c.byte_at.ensures c.in_default.is)

pub returns-in_default-byte_at : goal.returns-in_default-byte_at
unfolding field_at bytes_at election_from
returns-in_default-byte_at c = rw (not-false c.args.present c.if-not-present.false-raw, seen field_read c.byte_at.ensures c.in-Got.is, seen field_read c.byte_at-2.ensures c.in_default-byte_at.is)

pub returns-in_default-byte_at-2 : goal.returns-in_default-byte_at-2
unfolding field_at bytes_at election_from
returns-in_default-byte_at-2 c = rw (not-false c.args.present c.if-not-present.false-raw, seen field_read c.byte_at.ensures c.in-Got.is, seen field_read c.byte_at-2.ensures c.in-Got-byte_at.is, seen field_read c.byte_at-3.ensures c.in_default-byte_at-2.is)

pub returns-in_default-byte_at-3 : goal.returns-in_default-byte_at-3
unfolding field_at bytes_at election_from
returns-in_default-byte_at-3 c = rw (not-false c.args.present c.if-not-present.false-raw, seen field_read c.byte_at.ensures c.in-Got.is, seen field_read c.byte_at-2.ensures c.in-Got-byte_at.is, seen field_read c.byte_at-3.ensures c.in-Got-byte_at-2.is, seen field_read c.byte_at-4.ensures c.in_default-byte_at-3.is)

pub returns : goal.returns
unfolding field_at bytes_at election_from decoded.election_of
returns c = rw (not-false c.args.present c.if-not-present.false-raw, seen field_read c.byte_at.ensures c.in-Got.is, seen field_read c.byte_at-2.ensures c.in-Got-byte_at.is, seen field_read c.byte_at-3.ensures c.in-Got-byte_at-2.is, seen field_read c.byte_at-4.ensures c.in-Got-byte_at-3.is)
