-- `fields::fields_at`: the bytes at a line's place.
use mathlib.Core.Path.{◌≡◌, subst}
use Prim.Native.Nat.{ℕ, ◌+◌, ◌*◌, ◌-◌}
use native.Mathlib.Omega.{arith}
use lib.ListN.{take, drop}
use Rattle.report.specs.paper.Line.{line_length}
use Rattle.report.specs.paper.LineAt.{line_at, decoded}
use Rattle.billing.specs.Shown.{Shows}
use Rattle.billing.proofs.fields.fields_at.Goals as goal

pub returns : goal.returns
unfolding line_at
returns c =
    let a = c.args in
    let e : line_length * a.k + line_length - line_length * a.k ≡ line_length = omega arith in
    subst (λ (n : ℕ). Shows (decoded (take n (drop (line_length * a.k) a.lines.now))) c.fields_of.result) e c.fields_of.ensures
