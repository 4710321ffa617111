-- `rows::put_person`: the first person, or one behind a comma.
use Rattle.listing.proofs.PersonLaws.{first_put, later_put}
use Rattle.listing.proofs.rows.put_person.Goals as goal

pub returns-then-first : goal.returns-then-first
returns-then-first c = first_put _ _ _ _ c.if-first.true c.put_number.ensures

pub returns : goal.returns
returns c = later_put _ _ _ _ _ c.if-first.false c.put-next.ensures c.put_number-2.ensures
