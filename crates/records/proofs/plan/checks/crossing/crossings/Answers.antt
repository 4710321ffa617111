-- The record number of the first crossing's cut.
use mathlib.Core.Path.{◌≡◌, sym, ap, ◌∙◌}
use Prim.Native.Nat.{ℕ, ◌+◌}
use native.Mathlib.Omega.{arith}
use Rattle.records.specs.paper.Plan.{cuts_at}
use Rattle.records.specs.paper.Fields.{fine, first_fault}
use Rattle.records.specs.code.Decoded.{plan_of}
use Rattle.records.specs.code.Check.{checked_of}
use Rattle.records.specs.code.Crossings.{first_crossing, crossing_faults}
use Rattle.records.proofs.CrossingLaws.{crossing_refusal, cut_of, crossing-fault, crossing-within}
use Rattle.records.proofs.plan.checks.crossing.crossings.Goals as goal

pub overflow_add-first : goal.overflow_add-first
overflow_add-first c = omega (arith, c.count_records-counts.ensures.1)

pub overflow_add-first-2 : goal.overflow_add-first-2
overflow_add-first-2 c = omega (arith, c.count_records-counts.ensures.1)

pub overflow_add-first-3 : goal.overflow_add-first-3
overflow_add-first-3 c = omega (arith, c.count_records-counts.ensures.1)

pub overflow_add-result : goal.overflow_add-result
overflow_add-result c =
    let n = c.count_records-counts in let P = plan_of c.args.plan in
    let e : c.in-At.cut ≡ cut_of P (first_crossing P) = ap (cut_of P) (sym c.in-At.is ∙ c.first_crossing-found.ensures) in
    omega (arith, n.ensures.1, n.ensures.0.cuts, crossing-within P)

pub returns-in-At : goal.returns-in-At
returns-in-At c =
    let n = c.count_records-counts in let P = plan_of c.args.plan in
    let first = n.result.headings + n.result.facts + n.result.nodes + n.result.edges in
    let at : first ≡ cuts_at P = omega (arith, n.ensures.0) in
    ap (crossing_refusal P first) (sym c.in-At.is ∙ c.first_crossing-found.ensures) ∙ crossing-fault P first
    ∙ ap (λ (i : ℕ). checked_of (first_fault i (crossing_faults P) (fine P))) at

pub returns-in-Nowhere : goal.returns-in-Nowhere
returns-in-Nowhere c =
    let n = c.count_records-counts in let P = plan_of c.args.plan in
    let first = n.result.headings + n.result.facts + n.result.nodes + n.result.edges in
    let at : first ≡ cuts_at P = omega (arith, n.ensures.0) in
    ap (crossing_refusal P first) (sym c.in-Nowhere.is ∙ c.first_crossing-found.ensures) ∙ crossing-fault P first
    ∙ ap (λ (i : ℕ). checked_of (first_fault i (crossing_faults P) (fine P))) at
