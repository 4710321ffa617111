-- A table of pairs of cases whose lines differ though no fact that differs touches the circle, once one clause of the circle is left out.
use mathlib.Core.Path.{◌≡◌, refl}
use mathlib.Core.Bool.{Bool, true, false, ◌&&◌, not}
use mathlib.Core.List.{List, [], ◌∷◌, ◌++◌, map}
use Prim.Native.Nat.{ℕ, ◌*◌}
use lib.ListN.{get_or}
use lib.Dec.{eqb, ltb}
use Rattle.sets.specs.paper.Sets.{size, members, any_below}
use Rattle.records.specs.paper.Fields.{refused, fine, Verdict}
use Rattle.records.specs.paper.Plan.{empty_plan, Plan, checked_plan}
use Rattle.records.specs.paper.Case.{empty_case, CaseHeading, Case, read_case, case_heading}
use Rattle.expressions.specs.paper.Rules.{fact_count}
use Rattle.expressions.specs.paper.Nodes.{value}
use Rattle.expressions.specs.paper.Bindings.{frame_of, conflict, unknown, known, unbound, Bound, both, just, binding_of}
use Rattle.expressions.specs.paper.Variables.{choices}
use Rattle.report.specs.paper.Line.{line_length}
use Rattle.report.specs.paper.EventList.{event_length}
use Rattle.report.specs.paper.LineAt.{line_at}
use Rattle.report.specs.paper.Operations.{Outcome, told, answer}
use Rattle.promises.proofs.Starred.{mask, chain, always, base, roster₀}
use Rattle.promises.specs.Weaker.{edges, cuts, attachments, anchors, bars, decisions, tuples, strangers, rosters, edge_users, defeaters, cut_users, attachment_users, bar_users, status_users, shared_facts, none, edge_uses_but, touched_but, touch_but, with_anchor_but, joins_but, touches_but}
use Rattle.promises.proofs.Computing.{computing}

-- ---- the table: plans and cases of which person 0 has the first line

-- a boolean fact; a fact of a family that names two persons; the node of a fact
abbrev pub boolean : List ℕ
boolean = 2 ∷ 0 ∷ []

abbrev pub related : ℕ → ℕ → ℕ → List ℕ
related family p q = 2 ∷ 0b11 ∷ family ∷ 2 ∷ p ∷ q ∷ []

abbrev pub node : ℕ → List ℕ
node f = 3 ∷ 0b10 ∷ f ∷ []

-- rules under a node, of citation 3, bars and statuses of 4
abbrev cut_if : ℕ → ℕ → List ℕ
cut_if n members = 5 ∷ 0b111 ∷ mask members ++ (n ∷ 3 ∷ [])

abbrev move_if : ℕ → ℕ → ℕ → List ℕ
move_if n members anchor = 6 ∷ 0b11111 ∷ mask members ++ (anchor ∷ n ∷ 3 ∷ 1 ∷ [])

abbrev bar_if : ℕ → ℕ → List ℕ
bar_if n members = 7 ∷ 0b111 ∷ mask members ++ (n ∷ 4 ∷ [])

abbrev pub status_if : ℕ → ℕ → List ℕ
status_if n person = 8 ∷ 0b111 ∷ person ∷ n ∷ 4 ∷ []

-- the boolean fact 0 is seen to be so; a family is complete
abbrev pub seen : ℕ → List ℕ
seen value = 3 ∷ 0b101 ∷ 0 ∷ 1 ∷ value ∷ 3 ∷ []

abbrev pub complete : ℕ → List ℕ
complete family = 2 ∷ 0b111 ∷ family ∷ 1 ∷ 0 ∷ []

-- bytes of a line: its kind, its role, the lowest of its block, of its open facts and of its citations
abbrev kind_byte : ℕ
kind_byte = 1

abbrev role_byte : ℕ
role_byte = 2

abbrev block_byte : ℕ
block_byte = 3

abbrev facts_byte : ℕ
facts_byte = 11

abbrev citations_byte : ℕ
citations_byte = 21

-- two cases that differ in what they say, and a byte of person 0's line in both
pub record Shown : Type 0 where
  -- the clause that is left out
  pub out : ℕ
  pub plan : List ℕ
  pub case₁ : List ℕ
  pub case₂ : List ℕ
  pub byte : ℕ
  pub value₁ : ℕ
  pub value₂ : ℕ

-- node 0 is true, node 1 is the fact 0
abbrev asked : List ℕ
asked = chain ++ (boolean ++ (always ++ node 0))

abbrev two_say : ℕ → List ℕ → List ℕ → ℕ → ℕ → ℕ → ℕ → Shown
two_say out rules more persons byte before after = record {
  out = out;
  plan = asked ++ rules;
  case₁ = roster₀ persons ++ (seen 0 ++ more);
  case₂ = roster₀ persons ++ (seen 1 ++ more);
  byte = byte;
  value₁ = before;
  value₂ = after;
}

-- facts that name 0 and q, 1 and q, the second Unknown or Known: marks of 1 come to 0 by the influence of both
abbrev through : ℕ → ℕ → ℕ → Shown
through out q persons = record {
  out = out;
  plan = chain ++ (related 1 0 q ++ (related 2 1 q ++ (always ++ (node 0 ++ (node 1 ++ (cut_if 0 0b0110 ++ (cut_if 0 0b1010 ++ (bar_if 1 0 ++ bar_if 2 0))))))));
  case₁ = roster₀ persons;
  case₂ = roster₀ persons ++ complete 2;
  byte = kind_byte;
  value₁ = 3;
  value₂ = 0;
}

unfoldable pub table : List Shown
table =
    -- 0–1 always, 1–2 if the fact holds: block 0,1 or 0,1,2
    two_say edges (base 0 1 0 ++ base 1 2 1) [] 0b111 block_byte 0b011 0b111 ∷
    -- cut {0,1} always, 1 barred if the fact holds: the bar is cited in the block
    two_say cuts (cut_if 0 0b11 ++ bar_if 1 0b10) [] 0b11 citations_byte 0b01000 0b11000 ∷
    -- 0 attached to 1 always, 1 barred if the fact holds
    two_say attachments (move_if 0 0b01 1 ++ bar_if 1 0b10) [] 0b11 citations_byte 0b01000 0b11000 ∷
    two_say anchors (move_if 0 0b01 1 ++ bar_if 1 0b10) [] 0b11 citations_byte 0b01000 0b11000 ∷
    -- 0 attached to 2 always, 1 attached to 3 if the fact holds: then bar {0,1} is wholly within the attached
    two_say bars (move_if 0 0b0001 2 ++ (move_if 1 0b0010 3 ++ bar_if 0 0b0011)) [] 0b1111 role_byte 3 1 ∷
    -- cut {0} with an unresolved decision on edge 1–2; cuts {1,4}, and {1,3} if the fact holds: marks of 1 come to 0 by the decision's influence
    two_say decisions (base 1 2 0 ++ (5 ∷ 0b10111 ∷ mask 0b00001 ++ (0 ∷ 3 ∷ 1 ∷ 0 ∷ 3 ∷ cut_if 1 0b01010 ++ cut_if 0 0b10010))) [] 0b11111 kind_byte 0 3 ∷
    -- a fact that names 0 and 1, Unknown or Known: marks of 1 come to 0 by its influence
    record {
      out = tuples;
      plan = chain ++ (related 1 0 1 ++ (always ++ (node 0 ++ (cut_if 0 0b0110 ++ (cut_if 0 0b1010 ++ bar_if 1 0)))));
      case₁ = roster₀ 0b1111;
      case₂ = roster₀ 0b1111 ++ complete 1;
      byte = kind_byte;
      value₁ = 3;
      value₂ = 0;
    } ∷
    -- the go-between is off the roster
    through strangers 9 0b1111 ∷
    -- a constraint on the fact: inconsistent or decided
    two_say rosters [] (5 ∷ 0b1 ∷ 1 ∷ []) 0b1 kind_byte 6 0 ∷
    -- 0–1 if the fact holds; unless it holds
    two_say edge_users (base 0 1 1) [] 0b11 block_byte 0b01 0b11 ∷
    two_say defeaters (4 ∷ 0b11111 ∷ 0 ∷ 1 ∷ 0 ∷ 2 ∷ 1 ∷ 1 ∷ []) [] 0b11 block_byte 0b11 0b01 ∷
    -- of the rules of 0 the fact decides: cut {0}, attachment of 0 to 1, bar and status
    two_say cut_users (base 0 1 0 ++ cut_if 1 0b01) [] 0b11 block_byte 0b11 0b01 ∷
    two_say attachment_users (move_if 1 0b01 1) [] 0b11 block_byte 0b01 0b11 ∷
    two_say bar_users (bar_if 1 0b1) [] 0b1 role_byte 1 3 ∷
    two_say status_users (status_if 1 0) [] 0b1 role_byte 1 2 ∷
    -- the go-between is on the roster, joined to 0 and to 1 by a fact each and by no rule
    through shared_facts 4 0b11111 ∷ []

-- Known true, and a Conflict of true and true; cuts {0,1}, {0,2} mark 0, and the fact of a bar on 0 is open or not
unfoldable pub one_candidate : Shown
one_candidate = record {
  out = none;
  plan = asked ++ (cut_if 0 0b011 ++ (cut_if 0 0b101 ++ bar_if 1 0b001));
  case₁ = roster₀ 0b111 ++ seen 1;
  case₂ = roster₀ 0b111 ++ (3 ∷ 0b101 ∷ 0 ∷ 2 ∷ 1 ∷ 3 ∷ 1 ∷ 4 ∷ []);
  byte = facts_byte;
  value₁ = 0;
  value₂ = 1;
}

-- ---- what is computed of it

abbrev pub plan_of : Verdict Plan → Plan
plan_of (fine P) = P
plan_of (refused n k) = empty_plan

abbrev pub case_of : Verdict Case → Case
case_of (fine C) = C
case_of (refused n k) = empty_case

abbrev pub the_plan : Shown → Plan
the_plan x = plan_of (checked_plan x.plan)

abbrev pub first : Shown → Case
first x = case_of (read_case (the_plan x) x.case₁)

abbrev pub second : Shown → Case
second x = case_of (read_case (the_plan x) x.case₂)

-- buffers for five lines and thirty events
abbrev pub line_room : ℕ
line_room = line_length * 5

abbrev pub event_room : ℕ
event_room = event_length * 30

abbrev answer_of : Shown → List ℕ → Outcome
answer_of x case = answer x.plan case line_room event_room

abbrev byte_of : Shown → List ℕ → ℕ
byte_of x case = get_or (line_at (answer_of x case).lines 0) x.byte 0

-- some fact touches the circle and is not alike
abbrev shows : (Bound → Bound → Bool) → Shown → Bool
shows same x =
    any_below (fact_count (the_plan x))
    (λ f. touches_but x.out (frame_of (the_plan x) (first x)) f 0 && not (same (binding_of (the_plan x) (first x) f) (binding_of (the_plan x) (second x) f)))

pub record Found : Type 0 where
  pub plan : Verdict Plan
  pub first : Verdict Case
  pub second : Verdict Case
  pub headings : List CaseHeading
  pub constraints : List ℕ
  pub person : ℕ
  pub some : Bool
  pub refusal₁ : ℕ
  pub refusal₂ : ℕ
  pub byte₁ : ℕ
  pub byte₂ : ℕ
  pub equal : Bool
  pub shows : Bool

abbrev pub found : (Bound → Bound → Bool) → Shown → Found
found same x = record {
  plan = checked_plan x.plan;
  first = read_case (the_plan x) x.case₁;
  second = read_case (the_plan x) x.case₂;
  headings = (first x).headings;
  constraints = (first x).constraints;
  person = get_or (members (case_heading (first x)).roster) 0 64;
  some = ltb 0 (size (case_heading (first x)).roster);
  refusal₁ = (told (answer_of x x.case₁).answer).refusal;
  refusal₂ = (told (answer_of x x.case₂).answer).refusal;
  byte₁ = byte_of x x.case₁;
  byte₂ = byte_of x x.case₂;
  equal = eqb x.value₁ x.value₂;
  shows = shows same x;
}

abbrev pub expected : Shown → Found
expected x = record {
  plan = fine (the_plan x);
  first = fine (first x);
  second = fine (second x);
  headings = (second x).headings;
  constraints = (second x).constraints;
  person = 0;
  some = true;
  refusal₁ = 0;
  refusal₂ = 0;
  byte₁ = x.value₁;
  byte₂ = x.value₂;
  equal = false;
  shows = false;
}

-- ---- bound alike, as tests

abbrev pub number : Bound → ℕ
number unbound = 0
number unknown = 1
number (known false) = 2
number (known true) = 3
number (conflict (just false)) = 4
number (conflict (just true)) = 5
number (conflict both) = 6

abbrev pub same_bound : Bound → Bound → Bool
same_bound x y = eqb (number x) (number y)

-- the same values, of whatever makes them
abbrev pub same_values : Bound → Bound → Bool
same_values x y = same_bound (conflict (choices x)) (conflict (choices y))

-- ---- THE TABLE HOLDS

pub computed : (map (found same_bound) table ≡ map expected table) × (found same_values one_candidate ≡ expected one_candidate)
unfolding table one_candidate edge_uses_but touched_but touch_but with_anchor_but joins_but touches_but line_at computing
computed = (refl, refl)
