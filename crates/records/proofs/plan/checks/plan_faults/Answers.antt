-- Refusals 4, 6 and 7 in their order.
use mathlib.Core.Path.{◌≡◌, ap, ◌∙◌}
use Rattle.records.specs.paper.Fields.{fine, first_fault, Verdict}
use Rattle.records.specs.paper.Plan as paper
use Rattle.records.specs.code.Decoded.{plan_of}
use Rattle.records.specs.code.Check.{checked_of}
use Rattle.records.specs.code.Crossings.{crossing_faults}
use Rattle.records.specs.code.Elections.{agreement}
use Rattle.records.specs.declared.checked.Checked.{Checked}
use Rattle.records.proofs.CheckLaws.{or_else, fault_then, refused-stands, accepted_passes}
use Rattle.records.proofs.plan.checks.plan_faults.Goals as goal

abbrev then-elected : paper.Plan → Verdict paper.Plan
then-elected P = first_fault (paper.cuts_at P) (agreement P) (fine P)

abbrev then-crossed : paper.Plan → Verdict paper.Plan
then-crossed P = first_fault (paper.cuts_at P) (crossing_faults P) (then-elected P)

after-crossed : (P : paper.Plan) (r : Checked) → r ≡ checked_of (first_fault (paper.cuts_at P) (crossing_faults P) (fine P)) → or_else r (checked_of (then-elected P)) ≡ checked_of (then-crossed P)
after-crossed P r e = ap (λ x. or_else x (checked_of (then-elected P))) e ∙ fault_then (paper.cuts_at P) (crossing_faults P) P (then-elected P)

after-naming : (P : paper.Plan) (r : Checked) → r ≡ checked_of (first_fault (paper.nodes_at P) (paper.naming_faults P) (fine P)) → or_else r (checked_of (then-crossed P)) ≡ checked_of (paper.plan_faults P)
unfolding paper.plan_faults
after-naming P r e = ap (λ x. or_else x (checked_of (then-crossed P))) e ∙ fault_then (paper.nodes_at P) (paper.naming_faults P) P (then-crossed P)

pub returns-in_default : goal.returns-in_default
returns-in_default c = let P = plan_of c.args.plan in let r = c.naming-named in
    refused-stands r.result (checked_of (then-crossed P)) c.in_default.is ∙ after-naming P r.result r.ensures

pub returns-in_default-crossed : goal.returns-in_default-crossed
returns-in_default-crossed c = let P = plan_of c.args.plan in let r = c.naming-named in let s = c.crossings-crossed in
    refused-stands s.result (checked_of (then-elected P)) c.in_default-crossed.is ∙ after-crossed P s.result s.ensures
    ∙ accepted_passes r.result (checked_of (then-crossed P)) c.in-Accepted.is ∙ after-naming P r.result r.ensures

pub returns : goal.returns
returns c = let P = plan_of c.args.plan in let r = c.naming-named in let s = c.crossings-crossed in
    c.elections.ensures ∙ accepted_passes s.result (checked_of (then-elected P)) c.in-Accepted-crossed.is ∙ after-crossed P s.result s.ensures
    ∙ accepted_passes r.result (checked_of (then-crossed P)) c.in-Accepted.is ∙ after-naming P r.result r.ensures
