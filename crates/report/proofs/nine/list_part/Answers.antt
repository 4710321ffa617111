-- `nine::list_part`: a listed event stays alone, another comes in where there is room, and without room the listing is full.
use borrow.Author.Rules.{rules}
use Rattle.report.proofs.NineLaws.{part_full, part_kept, part_more}
use Rattle.report.proofs.nine.list_part.Goals as goal

pub returns-then-listing : goal.returns-then-listing
returns-then-listing c = search (rules, part_full)

pub returns-then-n-events : goal.returns-then-n-events
returns-then-n-events c = search (rules, part_more)

pub returns-else-n-events : goal.returns-else-n-events
returns-else-n-events c = search (rules, part_kept)
