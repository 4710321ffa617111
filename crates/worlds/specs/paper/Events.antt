-- The events of one world. Document 01, "Line and event": "An event is 12 bytes: kind, a, b, c, 8-byte mask".
use Rattle.std.specs.Prelude.{Bool, ◌&&◌, not, cond, ℕ, eqb}
use mathlib.Core.List.{List, [], ◌∷◌, ◌++◌, flat_map}
use Rattle.sets.specs.paper.Sets.{has, meets, rising_less, any_below, numbers}
use Rattle.page.specs.Little.{little_bytes}
use Rattle.records.specs.paper.Plan.{Plan, Election}
use Rattle.records.specs.paper.Case.{Case}
use Rattle.expressions.specs.paper.Rules.{edge_count, cut_count, attachment_count, bar_count, status_count, edge, cut, attachment, status}
use Rattle.expressions.specs.paper.Nodes.{on}
use Rattle.expressions.specs.paper.Bindings.{evidence_of}
use Rattle.worlds.specs.paper.World.{World, loose_components, same_members, standing, blocked_by, bar_holds}

unfoldable pub event : ℕ → ℕ → ℕ → ℕ → ℕ → List ℕ
event kind a b c mask = kind ∷ a ∷ b ∷ c ∷ little_bytes 8 mask

-- what is given for each number below n that passes the test
unfoldable pub listed : ℕ → (ℕ → Bool) → (ℕ → List ℕ) → List (List ℕ)
listed n test make = flat_map (λ i. cond (test i) (make i ∷ []) []) (numbers n 0)

-- "no election: actor 0 (kinds 2, 3), no evidence"
abbrev pub election_actor : List Election → ℕ
election_actor [] = 0
election_actor (e ∷ es) = e.actor

abbrev pub election_evidence : Case → List Election → ℕ
election_evidence C [] = 0
election_evidence C (e ∷ es) = evidence_of C e.fact

-- the lowest of the merged cuts
unfoldable pub least_of_merged : Plan → World → ℕ → Bool
least_of_merged P w c = on w.kept c && not (any_below c (λ d. on w.kept d && same_members P c d))

-- the cut that is left after step 4, and the edge that blocks it
unfoldable pub blocks : Plan → World → ℕ → ℕ → Bool
blocks P w c e = standing w.kept w.overlapping c && blocked_by P w.active c e

-- the earlier and the later of two merged sets that meet, each by its lowest cut; "Sets are ordered as rising person lists"
unfoldable pub overlaps : Plan → World → ℕ → ℕ → Bool
overlaps P w c d =
    (least_of_merged P w c && least_of_merged P w d) && (meets (cut P c).members (cut P d).members && rising_less (cut P c).members (cut P d).members)

module _ (P : Plan) (C : Case) (roster : ℕ) (w : World) where
  -- "1 frozen: rule, left, right"
  unfoldable pub frozen_events : List (List ℕ)
  frozen_events = listed (edge_count P) (on w.active.frozen) (λ i. event 1 i (edge P i).left (edge P i).right 0)

  -- "2 applied: each merged cut, actor, 0, evidence"
  unfoldable pub applied_events : List (List ℕ)
  applied_events =
      listed (cut_count P) (on w.applied) (λ c. event 2 c (election_actor (cut P c).election) 0 (election_evidence C (cut P c).election))

  -- "3 blocked: each blocking cut, edge, actor, evidence"
  unfoldable pub blocked_events : List (List ℕ)
  blocked_events =
      flat_map (λ c. listed (edge_count P) (blocks P w c)
      (λ e. event 3 c e (election_actor (cut P c).election) (election_evidence C (cut P c).election))) (numbers (cut_count P) 0)

  -- "4 overlap: lowest cut of the earlier set, then of the later"
  unfoldable pub overlap_events : List (List ℕ)
  overlap_events = flat_map (λ c. listed (cut_count P) (overlaps P w c) (λ d. event 4 c d 0 0)) (numbers (cut_count P) 0)

  -- "5 attachment: rule, anchor, actor, evidence"
  unfoldable pub attachment_events : List (List ℕ)
  attachment_events =
      listed (attachment_count P) (has w.state.moved)
      (λ i. event 5 i (attachment P i).anchor (attachment P i).actor (election_evidence C (attachment P i).election))

  -- "6 bar: rule"
  unfoldable pub bar_events : List (List ℕ)
  bar_events = listed (bar_count P) (bar_holds P w.active w.state.attached) (λ i. event 6 i 0 0 0)

  -- "7 excluded: rule, person"
  unfoldable pub status_events : List (List ℕ)
  status_events = listed (status_count P) (on w.active.statuses) (λ i. event 7 i (status P i).person 0 0)

  -- "9 discretion: persons"
  unfoldable pub discretion_events : List (List ℕ)
  discretion_events = flat_map (λ m. cond (eqb m 0) [] (event 9 0 0 0 m ∷ [])) (loose_components P roster w.active)

  unfoldable pub events_of : List (List ℕ)
  events_of =
      frozen_events ++ (applied_events ++ (blocked_events ++ (overlap_events ++ (attachment_events ++ (bar_events ++ (status_events ++ discretion_events))))))
