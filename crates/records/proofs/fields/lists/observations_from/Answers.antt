use mathlib.Core.Path.{◌≡◌, refl, sym, ◌∙◌, ap}
use Prim.Native.Nat.{ℕ, ◌*◌}
use native.Mathlib.Omega.{arith}
use mathlib.Core.List.{List}
use lib.ListN.{get_or, length-set}
use Rattle.sets.specs.paper.Sets.{below}
use Rattle.records.specs.paper.Case as paper
use Rattle.records.specs.code.Decoded.{observations_of}
use Rattle.records.specs.code.Readers.{bytes_from}
use Rattle.records.proofs.Pairs.{copied}
use Rattle.records.proofs.fields.lists.observations_from.Goals as goal

abbrev mk : ℕ → ℕ → paper.Observation
mk v e = record { value = v; evidence = e }

abbrev observed : List ℕ → List ℕ → ℕ → paper.Observation
observed vs es i = mk (get_or vs i 0) (get_or es i 0)

pub loop-i-init : goal.loop-i-init
unfolding bytes_from below Rattle.sets.specs.paper.Sets.numbers paper.observations_from
loop-i-init c = (omega arith, refl, refl, refl)

pub loop-i-preserved : goal.loop-i-preserved
unfolding paper.observations_from
loop-i-preserved c =
    let l = c.loop-i in
    (omega arith, rw length-set l.invariant.1, rw length-set l.invariant.2, copied mk paper.observations_from refl (λ x y bs. refl) c.args.s.now l.values l.evidence c.args.first l.i (omega arith) (omega arith) l.invariant.3)

pub returns : goal.returns
unfolding observations_of
returns c =
    let l = c.loop-i in
    let e : l.i ≡ c.args.count = omega arith in
    ap (λ (k : ℕ). below k (observed l.values l.evidence)) (sym e) ∙ l.invariant.3 ∙ ap (λ (k : ℕ). paper.observations_from (bytes_from c.args.s.now c.args.first (k * 2))) e
