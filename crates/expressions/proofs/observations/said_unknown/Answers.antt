use mathlib.Core.Path.{sym, ap, ◌∙◌}
use mathlib.Core.Bool.{Bool, ◌||◌, or-false}
use mathlib.Core.List.{map}
use lib.ListN.{take}
use borrow.Author.Rules.{rules}
use Rattle.sets.specs.paper.Sets.{has}
use Rattle.records.specs.code.Decoded.{boolean_of}
use Rattle.sets.proofs.SetLaws.{has-none}
use Rattle.expressions.proofs.SeenLaws.{said, said-next, said-none}
use native.Mathlib.Omega.{arith}
use Rattle.expressions.proofs.observations.said_unknown.Goals as goal

pub loop-i-init : goal.loop-i-init
loop-i-init c = (omega (arith, c.well_formed), search rules, λ f h. ap (λ (b : Bool). b || said (map boolean_of (take c.args.booleans.count c.args.booleans.items)) f) (has-none f))

pub loop-i-preserved : goal.loop-i-preserved
loop-i-preserved c =
    let l = c in
    let a = c.args in
    (l.loop-i.invariant.0, search rules, λ f h. said-next a.booleans.items a.booleans.count f l.loop-i.i _ (has l.loop-i.m f) (has c.with_number-m.result f) (search rules) (c.with_number-m.ensures f h) ∙ l.loop-i.invariant.2 f h)

pub returns : goal.returns
returns c = λ f h.
    let l = c in
    let a = c.args in
    sym (ap (λ (b : Bool). has l.loop-i.m f || b) (said-none a.booleans.items a.booleans.count f l.loop-i.i (search rules)) ∙ or-false (has l.loop-i.m f)) ∙ l.loop-i.invariant.2 f h
