-- `expressions::bindings::scope_of` meets its contract.
use mathlib.Core.List.{[], ◌∷◌}
use mathlib.Core.Path.{sym, ap}
use native.Mathlib.Omega.{arith}
use lib.Seq.{get_or-take}
use Rattle.records.specs.paper.Case.{CaseHeading, case_heading}
use Rattle.records.specs.code.Decoded.{case_of, case_heading_of}
use Rattle.expressions.proofs.bindings.scope_of.Goals as goal

pub returns-then-case-eq0 : goal.returns-then-case-eq0
unfolding case_of case_heading
returns-then-case-eq0 c = rw c.if-case-eq0.true

pub returns-else-case-eq0 : goal.returns-else-case-eq0
unfolding case_of case_heading case_heading_of
returns-else-case-eq0 c =
    let k = c.args.case in
    ap (λ (h : CaseHeading). h.scope) (sym (get_or-take k.headings (case_heading_of k.heading ∷ []) 0 _ (omega (arith, c.if-case-eq0.false))))
