-- A plan in which nothing is wrong so far, and the first pass over it.
use mathlib.Core.Path.{◌≡◌, refl, ◌∙◌}
use mathlib.Core.Bool.{Bool, true, false}
use mathlib.Core.List.{List, [], ◌∷◌}
use Prim.Native.Nat.{ℕ, ◌≤◌}
use lib.ListN.{take}
use lib.Dec.{eqb, ltb}
use Rattle.sets.specs.paper.Sets.{all_of}
use Rattle.records.specs.paper.Plan.{Plan, Heading, Fact, Node, Edge, Cut, Attachment, Bar, Status, empty_plan, plan_records, facts_rise, decided_once, unresolved}
use Rattle.records.specs.code.Passes.{at_start, Passed}
use Rattle.records.specs.code.PlanPasses.{Clean, plan_reading, with_headings, with_facts, with_nodes, with_edges, with_cuts, with_attachments, with_bars, with_statuses}
use Rattle.records.specs.declared.fields.passing.Passing.{Passing}
use Rattle.records.proofs.KindLaws.{heading_there}
use Rattle.records.proofs.Passing.{Reached, first_kind_lem}

-- ---- nothing is wrong so far

clean-none : Clean false empty_plan
unfolding facts_rise unresolved all_of
clean-none = record { heads = refl; rise = refl; few = refl; once = refl }

clean-heading : (n : ℕ) (x : Heading) → n ≤ 1 → Clean (eqb n 1) (with_headings empty_plan (take n (x ∷ [])))
unfolding facts_rise unresolved all_of
clean-heading n x h = record { heads = heading_there n x h; rise = refl; few = refl; once = refl }

module _ {headed : Bool} {P : Plan} (c : Clean headed P) where
  pub clean-facts : (xs : List Fact) → facts_rise xs ≡ true → Clean headed (with_facts P xs)
  clean-facts xs e = record { heads = c.heads; rise = e; few = c.few; once = c.once }

  pub clean-nodes : (xs : List Node) → Clean headed (with_nodes P xs)
  clean-nodes xs = record { heads = c.heads; rise = c.rise; few = c.few; once = c.once }

  pub clean-edges : (xs : List Edge) → Clean headed (with_edges P xs)
  clean-edges xs = record { heads = c.heads; rise = c.rise; few = c.few; once = c.once }

  pub clean-cuts : (xs : List Cut) → ltb 16 (unresolved xs) ≡ false → all_of (λ x. decided_once x.decisions) xs ≡ true → Clean headed (with_cuts P xs)
  clean-cuts xs e f = record { heads = c.heads; rise = c.rise; few = e; once = f }

  pub clean-attachments : (xs : List Attachment) → Clean headed (with_attachments P xs)
  clean-attachments xs = record { heads = c.heads; rise = c.rise; few = c.few; once = c.once }

  pub clean-bars : (xs : List Bar) → Clean headed (with_bars P xs)
  clean-bars xs = record { heads = c.heads; rise = c.rise; few = c.few; once = c.once }

  pub clean-statuses : (xs : List Status) → Clean headed (with_statuses P xs)
  clean-statuses xs = record { heads = c.heads; rise = c.rise; few = c.few; once = c.once }

-- ---- the first pass

pub first-pass : (s : List ℕ) (p : Passing) (n : ℕ) (x : Heading) → Passed plan_reading with_headings 1 s at_start p (take n (x ∷ [])) → n ≤ 1 → p.headed ≡ eqb n 1
    → Reached plan_reading s (plan_records s) 2 p (with_headings empty_plan (take n (x ∷ [])))
unfolding plan_records
first-pass s p n x h l e = record { is = first_kind_lem plan_reading s empty_plan ∙ h empty_plan clean-none; clean = rw e (clean-heading n x l) }
