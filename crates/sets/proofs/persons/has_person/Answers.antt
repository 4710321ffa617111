-- `sets::persons::has_person`: the set without its first p digits tells the digit, and a u64 has none from 64 on.
use mathlib.Core.Path.{sym}
use native.Mathlib.Omega.{arith}
use Rattle.sets.proofs.SetLaws.{has_shift, has_high}
use Rattle.sets.proofs.persons.has_person.Goals as goal

pub returns-then-p-lt64 : goal.returns-then-p-lt64
returns-then-p-lt64 c = has_shift c.args.set c.args.p

pub returns-else-p-lt64 : goal.returns-else-p-lt64
returns-else-p-lt64 c = sym (has_high 64 c.args.set c.args.p c.ranges.set.fits (omega arith))
