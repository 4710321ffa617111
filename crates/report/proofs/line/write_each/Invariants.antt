-- `line::write_each`: the lines of the persons left, put behind those written, make the whole.
use mathlib.Core.Path.{◌≡◌}
use mathlib.Core.Bool.{true}
use mathlib.Core.List.{List}
use Prim.Native.Nat.{ℕ, ◌<◌}
use Rattle.sets.specs.paper.Sets.{has}
use Rattle.report.specs.paper.Line.{line_bytes, line_length}
use Rattle.report.specs.declared.line.Line.{Line}
use Rattle.report.specs.code.Written.{line_from}
use Rattle.report.proofs.PieceLaws.{Writing}
use Rattle.report.proofs.line.write_each.Given as goal

abbrev pub invariant-loop-p : goal.invariant-loop-p
invariant-loop-p g l =
    Writing line_length
    (λ (x : (f : ℕ → List ℕ) × ((p : ℕ) (k : Line) → p < 64 → has l.persons p ≡ true → goal.F-post g l.make p k → line_bytes (line_from k) ≡ f p)). x.0)
    0 l.persons l.initial.lines l.p-iterator.0 l.at l.lines
