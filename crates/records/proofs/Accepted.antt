-- An accepted plan is sound.
use mathlib.Core.Path.{◌≡◌, refl}
use mathlib.Core.Bool.{Bool, true, false, ◌&&◌, ◌||◌, not, cond}
use mathlib.Core.List.{List, []}
use mathlib.Core.Logic.{inl}
use Prim.Native.Nat.{ℕ, ◌+◌, ◌-◌, ◌≤◌}
use native.Mathlib.Omega.{arith}
use lib.ListN.{length, get_or}
use lib.Dec.{eqb, ltb}
use borrow.Author.Tests.{ltb-false, eqb-false}
use Rattle.sets.specs.paper.Sets.{all_of, All}
use Rattle.records.specs.paper.Fields.{Raw, format_of, fine, fault}
use Rattle.records.specs.paper.Plan.{Plan, Cut, plan_formats, node_from, edge_from, cut_from, attachment_from, add_to_plan, plan_counts, facts_rise, decided_once, unresolved, judge_plan, empty_plan, plan_records, each_from, faults, node_sound, edge_sound, cut_sound, attachment_sound, node_number, naming_faults, crossings_decided, election_faults, election_records, nodes_at, cuts_at, plan_faults, checked_plan, heading_from, fact_from, bar_from, status_from}
use Rattle.records.specs.promises.Sound.{SoundEdge, SoundCut, SoundAttachment, SoundBar, SoundStatus, SoundHeading, SoundFact, Sound}
use Rattle.sets.proofs.Every.{all_any, exactly_one, all_both, all_parts, all_tested}
use Rattle.records.proofs.FieldLaws.{InFormat}
use Rattle.records.proofs.PlanParts.{nodes-sound, edge-sound, cut-sound, attachment-sound, bar-sound, status-sound, fact-sound, heading-sound}
use Rattle.records.proofs.ReadLaws.{fine_then, of_fine, past-faults, faultless, Judged, Kept, read_keeps, OfKind, kind-none, kind-joined, each-sound}

-- ---- what each record keeps

-- the records of each kind come from such records, and are not too many
record Kinds (P : Plan) : Type 0 where
  headings : OfKind plan_formats 1 heading_from P.headings
  facts : OfKind plan_formats 2 fact_from P.facts
  nodes : OfKind plan_formats 3 node_from P.nodes
  edges : OfKind plan_formats 4 edge_from P.edges
  cuts : OfKind plan_formats 5 cut_from P.cuts
  attachments : OfKind plan_formats 6 attachment_from P.attachments
  bars : OfKind plan_formats 7 bar_from P.bars
  statuses : OfKind plan_formats 8 status_from P.statuses

-- what 0 from the judge says
record Passed (r : Raw) (P : Plan) : Type 0 where
  limit : get_or (plan_counts P) (r.kind - 1) 0 ≤ (format_of plan_formats r.kind).limit
  fits : (format_of plan_formats r.kind).fits r.bits ≡ true
  decisions : unresolved P.cuts ≤ 16
  heading : length P.headings ≡ 0 → ⊥
  rise : facts_rise P.facts ≡ true
  once : all_of (λ c. decided_once c.decisions) P.cuts ≡ true

passed : (r : Raw) (P : Plan) → judge_plan r P ≡ 0 → Passed r P
unfolding judge_plan
passed r P e =
    pick (ltb top have) (ltb 16 left) ((format_of plan_formats r.kind).fits r.bits) (eqb (length P.headings) 0) (facts_rise P.facts) once
    refl refl refl refl refl refl e
  where
    once : Bool
    once = all_of (λ c. decided_once c.decisions) P.cuts

    top : ℕ
    top = (format_of plan_formats r.kind).limit

    have : ℕ
    have = get_or (plan_counts P) (r.kind - 1) 0

    left : ℕ
    left = unresolved P.cuts

    pick : (a b c d f g : Bool) → ltb top have ≡ a → ltb 16 left ≡ b → (format_of plan_formats r.kind).fits r.bits ≡ c → eqb (length P.headings) 0 ≡ d → facts_rise P.facts ≡ f → once ≡ g
        → ◌≡◌ {A = ℕ} (cond (a || b) 2 (cond (not c || d) 3 (cond (f && g) 0 5))) 0 → Passed r P
    pick true b c d f g ea eb ec ed ef eg e = absurd (omega arith)
    pick false true c d f g ea eb ec ed ef eg e = absurd (omega arith)
    pick false false false d f g ea eb ec ed ef eg e = absurd (omega arith)
    pick false false true true f g ea eb ec ed ef eg e = absurd (omega arith)
    pick false false true false false g ea eb ec ed ef eg e = absurd (omega arith)
    pick false false true false true false ea eb ec ed ef eg e = absurd (omega arith)
    pick false false true false true true ea eb ec ed ef eg e = record {
      limit = ltb-false top have ea;
      fits = ec;
      decisions = ltb-false 16 left eb;
      heading = eqb-false (length P.headings) 0 ed;
      rise = ef;
      once = eg;
    }

kinds-joined : (r : Raw) (P : Plan) → InFormat plan_formats r → judge_plan r (add_to_plan r P) ≡ 0 → Kinds P → Kinds (add_to_plan r P)
unfolding add_to_plan plan_counts
kinds-joined r P f z k = record {
  headings = kind-joined plan_formats 1 heading_from r P.headings counts (f, p.fits) p.limit refl k.headings;
  facts = kind-joined plan_formats 2 fact_from r P.facts counts (f, p.fits) p.limit refl k.facts;
  nodes = kind-joined plan_formats 3 node_from r P.nodes counts (f, p.fits) p.limit refl k.nodes;
  edges = kind-joined plan_formats 4 edge_from r P.edges counts (f, p.fits) p.limit refl k.edges;
  cuts = kind-joined plan_formats 5 cut_from r P.cuts counts (f, p.fits) p.limit refl k.cuts;
  attachments = kind-joined plan_formats 6 attachment_from r P.attachments counts (f, p.fits) p.limit refl k.attachments;
  bars = kind-joined plan_formats 7 bar_from r P.bars counts (f, p.fits) p.limit refl k.bars;
  statuses = kind-joined plan_formats 8 status_from r P.statuses counts (f, p.fits) p.limit refl k.statuses;
}
  where
    counts : List ℕ
    counts = plan_counts (add_to_plan r P)

    p : Passed r (add_to_plan r P)
    p = passed r (add_to_plan r P) z

kinds-none : Kinds empty_plan
kinds-none = record {
  headings = kind-none plan_formats 1 heading_from;
  facts = kind-none plan_formats 2 fact_from;
  nodes = kind-none plan_formats 3 node_from;
  edges = kind-none plan_formats 4 edge_from;
  cuts = kind-none plan_formats 5 cut_from;
  attachments = kind-none plan_formats 6 attachment_from;
  bars = kind-none plan_formats 7 bar_from;
  statuses = kind-none plan_formats 8 status_from;
}

-- ---- the plan

-- what no refusal 4 says
record Named (P : Plan) : Type 0 where
  nodes : All (λ n. n ≡ 0) (each_from (λ k n. fault 4 (node_sound P k n)) 0 P.nodes)
  edges : All (λ e. edge_sound P e ≡ true) P.edges
  cuts : All (λ c. cut_sound P c ≡ true) P.cuts
  attachments : All (λ a. attachment_sound P a ≡ true) P.attachments
  bars : All (λ b. node_number P b.condition ≡ true) P.bars
  statuses : All (λ t. node_number P t.condition ≡ true) P.statuses

naming : (P : Plan) → All (λ n. n ≡ 0) (naming_faults P) → Named P
unfolding naming_faults
naming P h =
    let Z : ℕ → Type 0 = λ n. n ≡ 0 in
    let a = all_parts Z (each_from (λ k n. fault 4 (node_sound P k n)) 0 P.nodes) _ h in
    let b = all_parts Z (faults 4 (edge_sound P) P.edges) _ a.1 in
    let c = all_parts Z (faults 4 (cut_sound P) P.cuts) _ b.1 in
    let d = all_parts Z (faults 4 (attachment_sound P) P.attachments) _ c.1 in
    let e = all_parts Z (faults 4 (λ b. node_number P b.condition) P.bars) _ d.1 in
    record {
      nodes = a.0;
      edges = faultless 3 (edge_sound P) P.edges b.0;
      cuts = faultless 3 (cut_sound P) P.cuts c.0;
      attachments = faultless 3 (attachment_sound P) P.attachments d.0;
      bars = faultless 3 (λ b. node_number P b.condition) P.bars e.0;
      statuses = faultless 3 (λ t. node_number P t.condition) P.statuses e.1;
    }

whole : (P : Plan) → Kinds P → Judged plan_formats add_to_plan judge_plan Kinds kinds-joined P → Named P
    → All (λ c. crossings_decided P c ≡ true) P.cuts → All (λ n. n ≡ 0) (election_faults [] (election_records P)) → Sound P
unfolding plan_formats
whole P k j n crossed elected = record {
  heading = exactly_one (length P.headings) k.headings.0 p.heading;
  headings = each-sound plan_formats 1 heading_from (λ h. Unit {0}) SoundHeading heading-sound P.headings k.headings (all_any P.headings);
  fact_limit = k.facts.0;
  facts = each-sound plan_formats 2 fact_from (λ f. Unit {0}) SoundFact fact-sound P.facts k.facts (all_any P.facts);
  rise = p.rise;
  node_limit = k.nodes.0;
  nodes = nodes-sound P 0 P.nodes k.nodes.1 n.nodes;
  edge_limit = k.edges.0;
  edges = each-sound plan_formats 4 edge_from (λ e. edge_sound P e ≡ true) (SoundEdge P) (edge-sound P) P.edges k.edges n.edges;
  cut_limit = k.cuts.0;
  cuts = each-sound plan_formats 5 cut_from Tested (SoundCut P) (cut-sound P) P.cuts k.cuts
      (all_both (λ c. cut_sound P c ≡ true) Later Tested (λ c x y. (x, y.0, y.1)) P.cuts n.cuts
      (all_both (λ c. decided_once c.decisions ≡ true) (λ c. crossings_decided P c ≡ true) Later (λ c x y. (x, y)) P.cuts
      (all_tested (λ c. decided_once c.decisions) P.cuts p.once) crossed));
  decision_limit = p.decisions;
  attachment_limit = k.attachments.0;
  attachments = each-sound plan_formats 6 attachment_from (λ a. attachment_sound P a ≡ true) (SoundAttachment P) (attachment-sound P) P.attachments k.attachments n.attachments;
  bar_limit = k.bars.0;
  bars = each-sound plan_formats 7 bar_from (λ b. node_number P b.condition ≡ true) (SoundBar P) (bar-sound P) P.bars k.bars n.bars;
  status_limit = k.statuses.0;
  statuses = each-sound plan_formats 8 status_from (λ t. node_number P t.condition ≡ true) (SoundStatus P) (status-sound P) P.statuses k.statuses n.statuses;
  elections = elected;
}
  where
    Later : Cut → Type 0
    Later c = (decided_once c.decisions ≡ true) × (crossings_decided P c ≡ true)

    Tested : Cut → Type 0
    Tested c = (cut_sound P c ≡ true) × (decided_once c.decisions ≡ true) × (crossings_decided P c ≡ true)

    p : Passed j.0 P
    p = passed j.0 P j.1

-- AN ACCEPTED PLAN IS SOUND
pub accepted : (s : List ℕ) (P : Plan) → checked_plan s ≡ fine P → Sound P
unfolding checked_plan plan_records plan_faults
accepted s P e =
    of_fine Sound (checked_plan s) P
    (fine_then (Kept plan_formats add_to_plan judge_plan Kinds kinds-joined) Sound (plan_records s) plan_faults
    (read_keeps plan_formats add_to_plan judge_plan Kinds kinds-joined (length s + 1) s 0 0 empty_plan 0 kinds-none (inl refl)) (λ Q h.
    past-faults Sound (nodes_at Q) (naming_faults Q) _ (λ z.
    past-faults Sound (cuts_at Q) (faults 6 (crossings_decided Q) Q.cuts) _ (λ c.
    past-faults Sound (cuts_at Q) (election_faults [] (election_records Q)) (fine Q) (λ e. whole Q h.0 h.1 (naming Q z) (faultless 5 (crossings_decided Q) Q.cuts c) e)))))
    e
