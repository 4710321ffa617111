use mathlib.Core.Path.{◌≡◌, refl, sym, ◌∙◌, ap}
use Prim.Native.Nat.{ℕ, ◌*◌}
use native.Mathlib.Omega.{arith}
use lib.ListN.{length-set}
use Rattle.sets.specs.paper.Sets.{below}
use Rattle.records.specs.paper.Plan as paper
use Rattle.records.specs.code.Decoded.{decisions_of}
use Rattle.records.specs.code.Readers.{bytes_from}
use Rattle.records.proofs.Listing.{decided, pair_copied}
use Rattle.records.proofs.fields.lists.decisions_from.Goals as goal

pub loop-i-init : goal.loop-i-init
unfolding bytes_from below Rattle.sets.specs.paper.Sets.numbers paper.decisions_from
loop-i-init c = (omega arith, refl, refl, refl)

pub loop-i-preserved : goal.loop-i-preserved
loop-i-preserved c =
    let l = c.loop-i in
    (omega arith, rw length-set l.invariant.1, rw length-set l.invariant.2, pair_copied c.args.s.now l.edges l.verdicts c.args.first l.i (omega arith) (omega arith) l.invariant.3)

pub returns : goal.returns
unfolding decisions_of
returns c =
    let l = c.loop-i in
    let e : l.i ≡ c.args.count = omega arith in
    (ap (λ (k : ℕ). below k (decided l.edges l.verdicts)) (sym e) ∙ l.invariant.3 ∙ ap (λ (k : ℕ). paper.decisions_from (bytes_from c.args.s.now c.args.first (k * 2))) e, refl)
