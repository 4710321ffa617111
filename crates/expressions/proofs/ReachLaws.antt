-- What the code lists as influence is the influence that document 01 gives each variable, and what it joins is what makes a circle; the frame of a case.
use Prim.Native.Nat.{ℕ, ◌<◌}
use mathlib.Core.Path.{◌≡◌, sym, ap, ap₂, ◌∙◌}
use mathlib.Core.List.{List, [], ◌∷◌, ◌++◌}
use native.Mathlib.Omega.{arith}
use lib.ListN.{length, take, length-take}
use lib.Seq.{get_or-take}
use Rattle.sets.specs.paper.Sets.{has, only, close_of, below}
use Rattle.sets.proofs.LoopLaws.{get_or-below}
use Rattle.records.proofs.Listing.{below_ext}
use Rattle.records.specs.paper.Case.{CaseHeading, case_heading}
use Rattle.records.specs.code.Decoded.{plan_of, case_of, case_heading_of}
use Rattle.records.specs.declared.plan.Plan.{Plan}
use Rattle.records.specs.declared.case.Case.{Case}
use Rattle.expressions.specs.paper.Rules.{fact_count, rule_sets}
use Rattle.expressions.specs.paper.Influence.{Frame, touch, touches, decision_count, decision_touch, decision_touches, open_decisions, joins}
use Rattle.expressions.specs.code.Coded.{frame_by}
use Rattle.expressions.specs.paper.Bindings.{Bound, binding_at, frame_of}
use Rattle.expressions.specs.paper.Variables.{is_variable, fact_influence, decision_influence, influence}
use Rattle.expressions.specs.code.Listed.{used_at}
use Rattle.expressions.specs.code.Reached.{Reached}
use Rattle.expressions.specs.code.Influences.{closed, closed_if, influence_by}
use Rattle.expressions.specs.declared.reach.Reach.{Reach}
use Rattle.expressions.proofs.OpenLaws.{opens-number}

module _ (F : Frame) (r : Reach) (reached : Reached F r) where
  abbrev groups : List ℕ
  groups = take r.groups.count r.groups.sets

  fact-closed : (f : ℕ) → f < fact_count F.plan → closed groups r.facts f ≡ close_of (rule_sets F.plan) (touch F f)
  unfolding closed touches
  fact-closed f h = ap₂ close_of reached.groups (reached.facts.at f ∙ get_or-below (fact_count F.plan) (touch F) 0 f h)

  decision-closed : (d : ℕ) → d < decision_count F.plan → closed groups r.decisions d ≡ decision_influence F d
  unfolding closed decision_touches decision_influence
  decision-closed d h = ap₂ close_of reached.groups (reached.decisions.at d ∙ get_or-below (decision_count F.plan) (decision_touch F.plan) 0 d h)

  -- where the set of variables is that of the bindings
  pub influence-list : (bs : List Bound) (variables : ℕ) → ((f : ℕ) → f < fact_count F.plan → has variables f ≡ is_variable (binding_at bs f))
      → influence_by r variables ≡ (influence F bs).facts ++ (influence F bs).decisions
  unfolding influence_by influence closed_if fact_influence
  influence-list bs variables same =
      ap₂ ◌++◌
      (ap (λ (n : ℕ). below n (closed_if groups variables r.facts)) reached.count
      ∙ below_ext (fact_count F.plan) (closed_if groups variables r.facts) (fact_influence F bs) (λ f h. ap₂ only (same f h) (fact-closed f h)))
      (ap (λ (n : ℕ). below n (closed groups r.decisions)) (opens-number r.undecided (open_decisions F.plan) reached.opens)
      ∙ below_ext (decision_count F.plan) (closed groups r.decisions) (decision_influence F) decision-closed)

  -- "joined if one edge, cut, attachment with anchor, bar, or unresolved decision's cut and edge holds both, or one fact touches both"
  pub joins-list : groups ++ (below r.count (used_at r.facts) ++ below r.undecided.count (used_at r.decisions)) ≡ joins F
  unfolding joins touches decision_touches
  joins-list =
      ap₂ ◌++◌ reached.groups
      (ap₂ ◌++◌
      (ap (λ (n : ℕ). below n (used_at r.facts)) reached.count
      ∙ below_ext (fact_count F.plan) (used_at r.facts) (touch F) (λ f h. reached.facts.at f ∙ get_or-below (fact_count F.plan) (touch F) 0 f h))
      (ap (λ (n : ℕ). below n (used_at r.decisions)) (opens-number r.undecided (open_decisions F.plan) reached.opens)
      ∙ below_ext (decision_count F.plan) (used_at r.decisions) (decision_touch F.plan) (λ d h.
      reached.decisions.at d ∙ get_or-below (decision_count F.plan) (decision_touch F.plan) 0 d h)))

-- the frame of a case that has its heading
pub heading_of : (case : Case) → length (case_of case).headings ≡ 1 → case_heading (case_of case) ≡ case_heading_of case.heading
unfolding case_of case_heading
heading_of case e =
    let h = case_heading_of case.heading in
    let l = length-take case.headings (h ∷ []) in
    get_or-take case.headings (h ∷ []) 0 _ (omega (arith, l, e))

pub frame_of_lem : (plan : Plan) (case : Case) → length (case_of case).headings ≡ 1
    → frame_by plan case.heading.roster case.constraints ≡ frame_of (plan_of plan) (case_of case)
unfolding frame_by case_of case_heading_of
frame_of_lem plan case e =
    ap (λ (h : CaseHeading). record { plan = plan_of plan; roster = h.roster; constraints = (case_of case).constraints }) (sym (heading_of case e))
