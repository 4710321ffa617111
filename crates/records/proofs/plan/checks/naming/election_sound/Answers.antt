-- The fact of an election that is given.
use mathlib.Core.Path.{◌∙◌}
use borrow.Author.Tests.{not-true, not-false}
use Rattle.records.specs.code.Decoded.{election_of}
use Rattle.records.specs.paper.Plan.{election_sound}
use Rattle.records.proofs.NamingLaws.{all_given}
use Rattle.records.proofs.plan.checks.naming.election_sound.Goals as goal

pub returns-then-not-election : goal.returns-then-not-election
unfolding election_of election_sound
returns-then-not-election c = λ P e. rw (all_given, not-true c.args.election.given c.if-not-election.true)

pub returns : goal.returns
unfolding election_of election_sound
returns c = λ P e. rw (all_given, not-false c.args.election.given c.if-not-election.false) (c.contains.ensures ∙ e _)
