-- `evidence::note`: the entry of the fact takes in what is given, the others stay.
use Prim.Native.Nat.{ℕ}
use mathlib.Core.Path.{ap, ◌∙◌}
use native.Mathlib.Omega.{arith}
use lib.Dec.{eqb}
use lib.ListN.{get_or}
use Rattle.sets.specs.paper.Sets.{union, only}
use Rattle.expressions.proofs.EvidenceLaws.{note_at}
use Rattle.expressions.proofs.evidence.note.Goals as goal

pub returns : goal.returns
returns c = λ f.
    let a = c.args in
    let w = c.from-f in
    note_at a.table.now w.result f a.more _ (omega (arith, c.told-table, w.ensures, c.ranges)) c.union-m.ensures
    ∙ ap (λ (k : ℕ). union (get_or a.table.now f 0) (only (eqb k f) a.more)) w.ensures
