-- The events of all worlds by sets of rules: the list that is written from the sets, and what the sets hold once the worlds were looked at.
use Rattle.std.specs.Prelude.{◌≡◌, true, ◌&&◌, not, ℕ, ◌<◌, eqb}
use mathlib.Core.List.{List, [], ◌∷◌, ◌++◌, map, flat_map}
use Rattle.sets.specs.paper.Sets.{has, lex_less, numbers, any_of, All}
use Rattle.records.specs.paper.Plan.{Plan}
use Rattle.records.specs.paper.Case.{Case}
use Rattle.expressions.specs.paper.Rules.{edge_count, cut_count, attachment_count, bar_count, status_count, fact_count, edge, cut, attachment, status}
use Rattle.expressions.specs.paper.Nodes.{on}
use Rattle.expressions.specs.paper.Bindings.{elections, default_of}
use Rattle.worlds.specs.paper.World.{World, loose_components, bar_holds}
use Rattle.worlds.specs.paper.Events.{event, listed, election_actor, election_evidence, blocks, overlaps}
use Rattle.report.specs.paper.EventList.{number_of, election_citation}

-- each before all that come after it
abbrev pub Rises : List (List ℕ) → Type 0
Rises [] = Unit {0}
Rises (e ∷ es) = All (λ f. lex_less e f ≡ true) es × Rises es

-- ---- the list: kinds in order, in each kind the rules in order; `nines` are the masks of kind 9

unfoldable pub frozen_over : Plan → ℕ → List (List ℕ)
frozen_over P frozen = listed (edge_count P) (has frozen) (λ i. event 1 i (edge P i).left (edge P i).right 0)

unfoldable pub applied_over : Plan → Case → ℕ → List (List ℕ)
applied_over P C applied =
    listed (cut_count P) (has applied) (λ c. event 2 c (election_actor (cut P c).election) 0 (election_evidence C (cut P c).election))

-- for each cut the edges that blocked it
unfoldable pub blocked_over : Plan → Case → (ℕ → ℕ) → List (List ℕ)
blocked_over P C blockings =
    flat_map (λ c. listed (edge_count P) (has (blockings c))
    (λ e. event 3 c e (election_actor (cut P c).election) (election_evidence C (cut P c).election))) (numbers (cut_count P) 0)

-- for each cut the later ones that it overlaps
unfoldable pub overlap_over : Plan → (ℕ → ℕ) → List (List ℕ)
overlap_over P clashes = flat_map (λ c. listed (cut_count P) (has (clashes c)) (λ d. event 4 c d 0 0)) (numbers (cut_count P) 0)

unfoldable pub attachment_over : Plan → Case → ℕ → List (List ℕ)
attachment_over P C moved =
    listed (attachment_count P) (has moved)
    (λ i. event 5 i (attachment P i).anchor (attachment P i).actor (election_evidence C (attachment P i).election))

unfoldable pub bar_over : Plan → ℕ → List (List ℕ)
bar_over P barring = listed (bar_count P) (has barring) (λ i. event 6 i 0 0 0)

unfoldable pub status_over : Plan → ℕ → List (List ℕ)
status_over P excluding = listed (status_count P) (has excluding) (λ i. event 7 i (status P i).person 0 0)

unfoldable pub default_over : Plan → ℕ → List (List ℕ)
default_over P defaults =
    listed (fact_count P) (has defaults)
    (λ f. event 8 f (election_actor (elections P f)) (number_of (default_of (elections P f))) (election_citation (elections P f)))

unfoldable pub discretion_over : List ℕ → List (List ℕ)
discretion_over nines = map (λ m. event 9 0 0 0 m) nines

unfoldable pub happened : Plan → Case → (frozen applied : ℕ) (blockings clashes : ℕ → ℕ) (moved barring excluding defaults : ℕ) (nines : List ℕ) → List (List ℕ)
happened P C frozen applied blockings clashes moved barring excluding defaults nines =
    frozen_over P frozen
    ++ (applied_over P C applied
    ++ (blocked_over P C blockings
    ++ (overlap_over P clashes
    ++ (attachment_over P C moved
    ++ (bar_over P barring ++ (status_over P excluding ++ (default_over P defaults ++ discretion_over nines)))))))

-- ---- what the sets hold: each rule that some world shows an event of

pub record Gathered (P : Plan) (roster : ℕ) (ws : List World) (frozen applied : ℕ) (blockings clashes : ℕ → ℕ) (moved barring excluding : ℕ) (nines : List ℕ) : Type 0 where
  pub edges : (e : ℕ) → e < edge_count P → has frozen e ≡ any_of (λ w. on w.active.frozen e) ws
  pub cuts : (c : ℕ) → c < cut_count P → has applied c ≡ any_of (λ w. on w.applied c) ws
  pub blocked : (c e : ℕ) → c < cut_count P → e < edge_count P → has (blockings c) e ≡ any_of (λ w. blocks P w c e) ws
  pub overlapping : (c d : ℕ) → c < cut_count P → d < cut_count P → has (clashes c) d ≡ any_of (λ w. overlaps P w c d) ws
  pub attachments : (i : ℕ) → i < attachment_count P → has moved i ≡ any_of (λ w. has w.state.moved i) ws
  pub bars : (i : ℕ) → i < bar_count P → has barring i ≡ any_of (λ w. bar_holds P w.active w.state.attached i) ws
  pub statuses : (i : ℕ) → i < status_count P → has excluding i ≡ any_of (λ w. on w.active.statuses i) ws
  pub components : (m : ℕ) → any_of (eqb m) nines ≡ (not (eqb m 0) && any_of (λ w. any_of (eqb m) (loose_components P roster w.active)) ws)
