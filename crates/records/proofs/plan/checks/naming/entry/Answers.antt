-- An entry of an array, 0 past its end.
use mathlib.Core.Path.{◌≡◌, sym}
use native.Mathlib.Omega.{arith}
use lib.ListN.{length, get_or-eq_default}
use borrow.Author.Rules.{rules}
use Rattle.records.proofs.plan.checks.naming.entry.Goals as goal

pub returns-then-i-ge64 : goal.returns-then-i-ge64
returns-then-i-ge64 c =
    let xs = c.args.list in
    let long : length xs ≡ 64 = search rules in
    sym (get_or-eq_default xs 0 (omega arith))
