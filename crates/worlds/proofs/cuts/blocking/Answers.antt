-- `cuts::blocking`: the frozen edges that cross the cut, and on which it says blocked, or unresolved and false.
use mathlib.Core.Path.{ap, ◌∙◌}
use Prim.Native.Nat.{ℕ}
use lib.Bits.{bit_and, bit_or}
use Rattle.sets.specs.paper.Sets.{union, meet, members, union_of}
use Rattle.worlds.specs.code.Tables.{row}
use Rattle.worlds.specs.code.Cuts.{blockers}
use Rattle.worlds.proofs.cuts.blocking.Goals as goal

pub returns : goal.returns
unfolding blockers meet union
returns c =
    let a = c.args in
    ap (λ (m : ℕ). bit_and (bit_and a.frozen (row a.t.now 7 a.c)) (bit_or (row a.t.now 8 a.c) m))
    (c.gather.ensures ∙ ap (λ (m : ℕ). union_of (row a.t.now 10) (members m)) c.minus-open.ensures)
