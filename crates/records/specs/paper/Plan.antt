-- The plan: its records and its check. Document 01, "Plan record" and "Check a plan".
use Rattle.std.specs.Prelude.{Bool, true, ◌&&◌, ◌||◌, not, cond, List, [], ◌∷◌, ◌++◌, map, ℕ, ◌+◌, ◌-◌, length, get_or, eqb, ltb}
use Rattle.std.specs.Bool.{beq}
use Rattle.sets.specs.paper.Sets.{has, lex_less, all_of, any_of}
use Rattle.records.specs.paper.Fields.{up_to, person, citation, number, actor, byte, bytes, mask, election, list, Format, needs, single, Raw, field, num, wide, format_of, Verdict, fine, on_fine, read_from, first_fault, fault}

-- ---- what a plan holds

pub record Heading : Type 0 where
  pub relation : ℕ
  -- the base-chain citation: none, or one
  pub chain : List ℕ

pub record Fact : Type 0 where
  -- none for a boolean fact
  pub family : List ℕ
  pub tuple : List ℕ

pub data Node : Type 0 where
  literal : ℕ → Node
  fact : ℕ → Node
  conj : List ℕ → Node
  disj : List ℕ → Node
  neg : ℕ → Node

pub record Edge : Type 0 where
  pub left : ℕ
  pub right : ℕ
  pub condition : ℕ
  pub citation : ℕ
  pub defeaters : List ℕ
  pub combination : Bool

pub record Election : Type 0 where
  pub fact : ℕ
  pub actor : ℕ
  pub policy : ℕ
  pub citation : ℕ

-- "edge and decision (1 blocked, 2 overrides, 3 unresolved)"
pub record Decision : Type 0 where
  pub edge : ℕ
  pub verdict : ℕ

pub record Cut : Type 0 where
  pub members : ℕ
  pub condition : ℕ
  pub citation : ℕ
  -- none, or one
  pub election : List Election
  pub decisions : List Decision
  pub precedes : List ℕ

pub record Attachment : Type 0 where
  pub members : ℕ
  pub anchor : ℕ
  pub condition : ℕ
  pub citation : ℕ
  pub actor : ℕ
  pub election : List Election

pub record Bar : Type 0 where
  pub members : ℕ
  pub condition : ℕ
  pub citation : ℕ

pub record Status : Type 0 where
  pub person : ℕ
  pub condition : ℕ
  pub citation : ℕ

-- "Records of a kind are numbered from 0"
pub record Plan : Type 0 where
  pub headings : List Heading
  pub facts : List Fact
  pub nodes : List Node
  pub edges : List Edge
  pub cuts : List Cut
  pub attachments : List Attachment
  pub bars : List Bar
  pub statuses : List Status

-- ---- the records of a plan

-- "Both bits or, for a boolean fact, neither"
abbrev pub fact_bits : ℕ → Bool
fact_bits bits = eqb bits 3 || eqb bits 0

unfoldable pub plan_formats : List Format
plan_formats =
    -- 1 heading (one): 0 roster relation=, 1 base-chain citation
    record { limit = 1; fits = needs 0b1; fields = byte number ∷ byte citation ∷ [] } ∷
    -- 2 fact (64): 0 family, 1 tuple list of persons (0–4); both bits or neither
    record { limit = 64; fits = fact_bits; fields = byte number ∷ list 4 (person ∷ []) ∷ [] } ∷
    -- 3 node (256), just one bit: 0 literal 0/1, 1 fact, 2 And list (0–16), 3 Or list (0–16), 4 Not
    record { limit = 256; fits = single; fields = byte (up_to 1) ∷ byte number ∷ list 16 (number ∷ []) ∷ list 16 (number ∷ []) ∷ byte number ∷ [] } ∷
    -- 4 edge (64): 0 left=, 1 right=, 2 condition node=, 3 citation=, 4 defeater nodes (0–16), 5 no field: Combination
    record { limit = 64; fits = needs 0b1111; fields = byte person ∷ byte person ∷ byte number ∷ byte citation ∷ list 16 (number ∷ []) ∷ bytes [] ∷ [] } ∷
    -- 5 cut (16): 0 members mask=, 1 condition=, 2 citation=, 3 election, 4 list (0–64) of edge and decision, 5 list (0–16) of cuts it precedes
    record { limit = 16; fits = needs 0b111; fields = mask ∷ byte number ∷ byte citation ∷ election ∷ list 64 (number ∷ record { low = 1; top = 3 } ∷ []) ∷ list 16 (number ∷ []) ∷ [] } ∷
    -- 6 attachment (32): 0 members mask=, 1 anchor=, 2 condition=, 3 citation=, 4 actor=, 5 election
    record { limit = 32; fits = needs 0b11111; fields = mask ∷ byte person ∷ byte number ∷ byte citation ∷ byte actor ∷ election ∷ [] } ∷
    -- 7 bar (32): 0 members mask=, 1 condition=, 2 citation=
    record { limit = 32; fits = needs 0b111; fields = mask ∷ byte number ∷ byte citation ∷ [] } ∷
    -- 8 status (32): 0 person=, 1 condition=, 2 citation=
    record { limit = 32; fits = needs 0b111; fields = byte person ∷ byte number ∷ byte citation ∷ [] } ∷ []

unfoldable pub node_from : Raw → Node
node_from r =
    cond (has r.bits 0) (literal (num r 0))
    (cond (has r.bits 1) (fact (num r 1)) (cond (has r.bits 2) (conj (field r 2)) (cond (has r.bits 3) (disj (field r 3)) (neg (num r 4)))))

unfoldable pub election_from : List ℕ → List Election
election_from [] = []
election_from (f ∷ bs) = record { fact = f; actor = get_or bs 0 0; policy = get_or bs 1 0; citation = get_or bs 2 0 } ∷ []

unfoldable pub decisions_from : List ℕ → List Decision
decisions_from [] = []
decisions_from (e ∷ []) = []
decisions_from (e ∷ d ∷ bs) = record { edge = e; verdict = d } ∷ decisions_from bs

abbrev pub edge_from : Raw → Edge
edge_from r = record { left = num r 0; right = num r 1; condition = num r 2; citation = num r 3; defeaters = field r 4; combination = has r.bits 5 }

abbrev pub cut_from : Raw → Cut
cut_from r = record { members = wide r 0; condition = num r 1; citation = num r 2; election = election_from (field r 3); decisions = decisions_from (field r 4); precedes = field r 5 }

abbrev pub attachment_from : Raw → Attachment
attachment_from r = record { members = wide r 0; anchor = num r 1; condition = num r 2; citation = num r 3; actor = num r 4; election = election_from (field r 5) }

abbrev pub heading_from : Raw → Heading
heading_from r = record { relation = num r 0; chain = field r 1 }

abbrev pub fact_from : Raw → Fact
fact_from r = record { family = field r 0; tuple = field r 1 }

abbrev pub bar_from : Raw → Bar
bar_from r = record { members = wide r 0; condition = num r 1; citation = num r 2 }

abbrev pub status_from : Raw → Status
status_from r = record { person = num r 0; condition = num r 1; citation = num r 2 }

-- a record joins those of its kind
abbrev pub joined : {A : Type 0} → ℕ → (Raw → A) → Raw → List A → List A
joined kind make r xs = cond (eqb r.kind kind) (xs ++ (make r ∷ [])) xs

unfoldable pub add_to_plan : Raw → Plan → Plan
add_to_plan r P = record {
  headings = joined 1 heading_from r P.headings;
  facts = joined 2 fact_from r P.facts;
  nodes = joined 3 node_from r P.nodes;
  edges = joined 4 edge_from r P.edges;
  cuts = joined 5 cut_from r P.cuts;
  attachments = joined 6 attachment_from r P.attachments;
  bars = joined 7 bar_from r P.bars;
  statuses = joined 8 status_from r P.statuses;
}

unfoldable pub plan_counts : Plan → List ℕ
plan_counts P =
    length P.headings ∷ length P.facts ∷ length P.nodes ∷ length P.edges ∷ length P.cuts
    ∷ length P.attachments ∷ length P.bars ∷ length P.statuses ∷ []

-- ---- refusals 2, 3 and 5 of a record, seen when it has joined the plan

unfoldable pub is_boolean : Fact → Bool
is_boolean f = eqb (length f.family) 0

-- "Booleans come first, then strictly rising (family, tuple), a prefix first"
unfoldable pub rises : Fact → Fact → Bool
rises f g = cond (is_boolean g) (is_boolean f) (lex_less (f.family ++ f.tuple) (g.family ++ g.tuple))

unfoldable pub facts_rise : List Fact → Bool
facts_rise [] = true
facts_rise (f ∷ []) = true
facts_rise (f ∷ g ∷ fs) = rises f g && facts_rise (g ∷ fs)

abbrev pub decided_in : List Decision → ℕ → Bool
decided_in ds e = any_of (λ d. eqb d.edge e) ds

-- "an edge decided twice in a cut"
unfoldable pub decided_once : List Decision → Bool
decided_once [] = true
decided_once (d ∷ ds) = not (decided_in ds d.edge) && decided_once ds

unfoldable pub unresolved_in : List Decision → ℕ
unresolved_in [] = 0
unresolved_in (d ∷ ds) = cond (eqb d.verdict 3) 1 0 + unresolved_in ds

unfoldable pub unresolved : List Cut → ℕ
unresolved [] = 0
unresolved (c ∷ cs) = unresolved_in c.decisions + unresolved cs

-- "2 past a limit" (of records, or "At most 16 unresolved decisions in a plan"); "3 required field missing, wrong set of bits, first record no
-- heading"; "5 fact order broken, or an edge decided twice in a cut"
unfoldable pub judge_plan : Raw → Plan → ℕ
judge_plan r P =
    cond (ltb (format_of plan_formats r.kind).limit (get_or (plan_counts P) (r.kind - 1) 0) || ltb 16 (unresolved P.cuts)) 2
    (cond (not ((format_of plan_formats r.kind).fits r.bits) || eqb (length P.headings) 0) 3
    (cond (facts_rise P.facts && all_of (λ c. decided_once c.decisions) P.cuts) 0 5))

abbrev pub empty_plan : Plan
empty_plan = record { headings = []; facts = []; nodes = []; edges = []; cuts = []; attachments = []; bars = []; statuses = [] }

unfoldable pub plan_records : List ℕ → Verdict Plan
plan_records s = read_from plan_formats add_to_plan judge_plan (length s + 1) s 0 0 empty_plan 0

-- ---- refusals 4, 6 and 7, after all records

unfoldable pub each_from : {A B : Type 0} → (ℕ → A → B) → ℕ → List A → List B
each_from f k [] = []
each_from f k (x ∷ xs) = f k x ∷ each_from f (k + 1) xs

-- a fault of this number for each record that fails the test
abbrev pub faults : {A : Type 0} → ℕ → (A → Bool) → List A → List ℕ
faults n ok xs = map (λ x. fault n (ok x)) xs

unfoldable pub get_fact : Plan → ℕ → Fact
get_fact P f = get_or P.facts f (record { family = []; tuple = [] })

abbrev pub boolean_fact : Plan → ℕ → Bool
boolean_fact P f = ltb f (length P.facts) && is_boolean (get_fact P f)

-- one end of the edge in the cut, the other outside
abbrev pub one_end : Cut → Edge → Bool
one_end c e = not (beq (has c.members e.left) (has c.members e.right))

-- "4 a number naming no record, or no lower node, or no boolean fact in an election"
module _ (P : Plan) where
  abbrev pub node_number : ℕ → Bool
  node_number i = ltb i (length P.nodes)

  unfoldable pub node_sound : ℕ → Node → Bool
  node_sound k (literal b) = true
  node_sound k (fact f) = ltb f (length P.facts)
  node_sound k (conj is) = all_of (λ i. ltb i k) is
  node_sound k (disj is) = all_of (λ i. ltb i k) is
  node_sound k (neg i) = ltb i k

  unfoldable pub edge_sound : Edge → Bool
  edge_sound e = node_number e.condition && all_of node_number e.defeaters

  unfoldable pub election_sound : List Election → Bool
  election_sound es = all_of (λ e. boolean_fact P e.fact) es

  unfoldable pub cut_sound : Cut → Bool
  cut_sound c =
      node_number c.condition && (election_sound c.election
      && (all_of (λ d. ltb d.edge (length P.edges)) c.decisions && all_of (λ d. ltb d (length P.cuts)) c.precedes))

  unfoldable pub attachment_sound : Attachment → Bool
  attachment_sound a = node_number a.condition && election_sound a.election

  -- of the records from the first node on
  unfoldable pub naming_faults : List ℕ
  naming_faults =
      each_from (λ k n. fault 4 (node_sound k n)) 0 P.nodes ++ (faults 4 edge_sound P.edges ++ (faults 4 cut_sound P.cuts
      ++ (faults 4 attachment_sound P.attachments ++ (faults 4 (λ b. node_number b.condition) P.bars ++ faults 4 (λ t. node_number t.condition) P.statuses))))

  -- "6 a cut and a Combination edge crossing without a decision"
  unfoldable pub crosses : Cut → Edge → Bool
  crosses c e = e.combination && one_end c e

  unfoldable pub crossings_decided : Cut → Bool
  crossings_decided c = all_of (λ ok. ok) (each_from (λ e edge. not (crosses c edge) || decided_in c.decisions e) 0 P.edges)

-- "7 elections for one fact, unequal in any byte"
unfoldable pub same_election : Election → Election → Bool
same_election a b = not (eqb a.fact b.fact) || (eqb a.actor b.actor && (eqb a.policy b.policy && eqb a.citation b.citation))

-- each record's election beside all earlier ones: "7 … the later one"
unfoldable pub election_faults : List Election → List (List Election) → List ℕ
election_faults earlier [] = []
election_faults earlier (es ∷ ess) = fault 7 (all_of (λ e. all_of (same_election e) earlier) es) ∷ election_faults (es ++ earlier) ess

-- the elections of cuts and attachments in order
abbrev pub election_records : Plan → List (List Election)
election_records P = map (λ c. c.election) P.cuts ++ map (λ a. a.election) P.attachments

-- the record number of the first node, and of the first cut
abbrev pub nodes_at : Plan → ℕ
nodes_at P = length P.headings + length P.facts

abbrev pub cuts_at : Plan → ℕ
cuts_at P = nodes_at P + length P.nodes + length P.edges

unfoldable pub plan_faults : Plan → Verdict Plan
plan_faults P =
    first_fault (nodes_at P) (naming_faults P)
    (first_fault (cuts_at P) (faults 6 (crossings_decided P) P.cuts) (first_fault (cuts_at P) (election_faults [] (election_records P)) (fine P)))

-- CHECK A PLAN: the plan that comes out, or the refusal
unfoldable pub checked_plan : List ℕ → Verdict Plan
checked_plan s = on_fine (plan_records s) plan_faults
