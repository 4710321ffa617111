-- `happened::write_rules`: each kind is written behind those before it, and all of them fit.
use mathlib.Core.Path.{◌≡◌, refl, sym, ap}
use Prim.Native.Nat.{ℕ, min}
use native.Mathlib.Omega.{arith}
use lib.ListN.{length}
use Rattle.records.specs.code.Decoded.{plan_of, cut_of}
use Rattle.records.specs.declared.plan.Plan.{Plan}
use Rattle.expressions.specs.paper.Rules.{cut_count}
use Rattle.expressions.proofs.ListLaws.{made-length}
use Rattle.report.specs.code.EventBytes.{sizes}
use Rattle.report.specs.code.EventsWritten.{event_count}
use Rattle.report.proofs.HappenedLaws.{each_written}
use Rattle.report.proofs.happened.write_rules.Goals as goal

cuts-counted : (p : Plan) (n : ℕ) → length p.cuts.items ≡ 16 → n ≡ min p.cuts.count 16 → n ≡ cut_count (plan_of p)
unfolding plan_of
cuts-counted p n long e = sym (made-length cut_of p.cuts.items p.cuts.count 16 n long e)

sizes-counted : (p : Plan) (n : ℕ) → length p.cuts.items ≡ 16 → n ≡ min p.cuts.count 16 → (sets : ℕ → ℕ) → sizes n sets ≡ sizes (cut_count (plan_of p)) sets
sizes-counted p n long e sets = ap (λ (k : ℕ). sizes k sets) (cuts-counted p n long e)

pub write_frozen-a-requires : goal.write_frozen-a-requires
unfolding event_count
write_frozen-a-requires c = omega arith

pub write_applied-b-requires : goal.write_applied-b-requires
unfolding event_count
write_applied-b-requires c = (omega arith, λ i h. omega (arith, c.requires.cuts i h))

pub write_blocked-c-requires : goal.write_blocked-c-requires
unfolding event_count
write_blocked-c-requires c = (omega arith, omega (arith, sizes-counted c.args.plan _ (omega (arith, c.well_formed)) c.min-n.ensures))

pub write_clashes-d-requires : goal.write_clashes-d-requires
unfolding event_count
write_clashes-d-requires c = (omega arith, omega (arith, sizes-counted c.args.plan _ (omega (arith, c.well_formed)) c.min-n.ensures))

pub write_attachments-e-requires : goal.write_attachments-e-requires
unfolding event_count
write_attachments-e-requires c = (omega (arith, sizes-counted c.args.plan _ (omega (arith, c.well_formed)) c.min-n.ensures), λ i h. omega (arith, c.requires.attachments i h))

pub write_bars-f-requires : goal.write_bars-f-requires
unfolding event_count
write_bars-f-requires c = omega (arith, sizes-counted c.args.plan _ (omega (arith, c.well_formed)) c.min-n.ensures)

pub write_statuses-g-requires : goal.write_statuses-g-requires
unfolding event_count
write_statuses-g-requires c = (omega (arith, sizes-counted c.args.plan _ (omega (arith, c.well_formed)) c.min-n.ensures), λ i h. omega (arith, c.requires.statuses i h))

pub write_defaults-requires : goal.write_defaults-requires
unfolding event_count
write_defaults-requires c = omega (arith, sizes-counted c.args.plan _ (omega (arith, c.well_formed)) c.min-n.ensures)

pub returns : goal.returns
unfolding plan_of
returns c =
    let r = c.requires in
    let n = cuts-counted c.args.plan _ (omega (arith, c.well_formed)) c.min-n.ensures in
    let evidence = c.evidence_by_fact-evidence.ensures in
    each_written _ _ _ _ _ _ r (c.write_frozen-a.ensures.written _ refl r.edges) (c.write_applied-b.ensures.written _ _ refl evidence r.cuts)
    (c.write_blocked-c.ensures.written _ _ refl evidence n r.blocked) (c.write_clashes-d.ensures.written _ n r.clashed)
    (c.write_attachments-e.ensures.written _ _ refl evidence r.attachments) (c.write_bars-f.ensures.written _ r.bars) (c.write_statuses-g.ensures.written _ refl r.statuses)
    (c.write_defaults.ensures.written _ refl refl r.facts)
