-- A plan as bytes. Document 01, "Plan record". An empty list of defeaters, decisions or preceded cuts is absent, which document 02 asks of tickets 2, 10 and 13.
use Rattle.std.specs.Prelude.{Bool, true, false, cond, ℕ, ◌+◌, ◌*◌, ◌/◌, ◌%◌, length}
use mathlib.Core.List.{List, [], ◌∷◌, ◌++◌, map, flat_map}
use Rattle.sets.specs.paper.Sets.{odd}
use Rattle.page.specs.Little.{little_bytes}
use Rattle.records.specs.paper.Fields.{Shape, bytes, list, most, Format, format_of, Raw}
use Rattle.records.specs.paper.Plan.{Plan, Heading, Fact, Node, literal, fact, conj, disj, neg, Edge, Election, Decision, Cut, Attachment, Bar, Status, plan_formats}

-- ---- the bytes of a record

-- "A list is a count byte and its entries"
unfoldable pub field_bytes : Shape → List ℕ → List ℕ
field_bytes (bytes rs) v = v
field_bytes (list n rs) v = length v / length rs ∷ v
field_bytes most v = v

-- "then only the fields whose bit stands, in bit order"
unfoldable pub fields_bytes : ℕ → List Shape → List (List ℕ) → List ℕ
fields_bytes bits [] vs = []
fields_bytes bits (f ∷ fs) [] = []
fields_bytes bits (f ∷ fs) (v ∷ vs) = cond (odd (bits % 2)) (field_bytes f v) [] ++ fields_bytes (bits / 2) fs vs

-- "A record is a kind byte, a bit map byte (bit 0 lowest), then …"
unfoldable pub record_bytes : List Format → Raw → List ℕ
record_bytes fs r = r.kind ∷ r.bits ∷ fields_bytes r.bits (format_of fs r.kind).fields r.fields

-- ---- a record from its fields, each with its bit

pub record Part : Type 0 where
  pub stands : Bool
  pub value : List ℕ

-- "bit 0 lowest"
unfoldable pub bits_of : List Part → ℕ
bits_of [] = 0
bits_of (p ∷ ps) = cond p.stands 1 0 + 2 * bits_of ps

abbrev pub raw_of : ℕ → List Part → Raw
raw_of kind ps = record { kind = kind; bits = bits_of ps; fields = map (λ p. p.value) ps }

-- a field that always stands; one of one byte
abbrev pub always : List ℕ → Part
always v = record { stands = true; value = v }

abbrev pub one : ℕ → Part
one n = always (n ∷ [])

abbrev pub some : {A : Type 0} → List A → Bool
some [] = false
some (x ∷ xs) = true

-- one that is absent where it has no bytes
abbrev pub given : List ℕ → Part
given v = record { stands = some v; value = v }

abbrev pub absent : Part
absent = record { stands = false; value = [] }

-- "no field": a bit alone
abbrev pub flag : Bool → Part
flag b = record { stands = b; value = [] }

-- "A mask is 8 bytes"
abbrev pub mask_of : ℕ → Part
mask_of m = always (little_bytes 8 m)

-- "An election is boolean fact, actor, policy …, citation"
unfoldable pub election_bytes : List Election → List ℕ
election_bytes [] = []
election_bytes (e ∷ es) = e.fact ∷ e.actor ∷ e.policy ∷ e.citation ∷ []

-- "edge and decision"
unfoldable pub decision_bytes : List Decision → List ℕ
decision_bytes [] = []
decision_bytes (d ∷ ds) = d.edge ∷ d.verdict ∷ decision_bytes ds

-- ---- the records of a plan

-- 1 heading: 0 roster relation=, 1 base-chain citation
abbrev pub heading_raw : Heading → Raw
heading_raw h = raw_of 1 (one h.relation ∷ given h.chain ∷ [])

-- 2 fact: 0 family, 1 tuple; both bits or, for a boolean fact, neither
abbrev pub fact_raw : Fact → Raw
fact_raw f = raw_of 2 (given f.family ∷ record { stands = some f.family; value = f.tuple } ∷ [])

-- 3 node, just one bit: 0 literal, 1 fact, 2 And list, 3 Or list, 4 Not
unfoldable pub node_parts : Node → List Part
node_parts (literal b) = one b ∷ absent ∷ absent ∷ absent ∷ absent ∷ []
node_parts (fact f) = absent ∷ one f ∷ absent ∷ absent ∷ absent ∷ []
node_parts (conj is) = absent ∷ absent ∷ always is ∷ absent ∷ absent ∷ []
node_parts (disj is) = absent ∷ absent ∷ absent ∷ always is ∷ absent ∷ []
node_parts (neg i) = absent ∷ absent ∷ absent ∷ absent ∷ one i ∷ []

abbrev pub node_raw : Node → Raw
node_raw n = raw_of 3 (node_parts n)

-- 4 edge: 0 left=, 1 right=, 2 condition node=, 3 citation=, 4 defeater nodes, 5 no field: Combination
abbrev pub edge_raw : Edge → Raw
edge_raw e = raw_of 4 (one e.left ∷ one e.right ∷ one e.condition ∷ one e.citation ∷ given e.defeaters ∷ flag e.combination ∷ [])

-- 5 cut: 0 members mask=, 1 condition=, 2 citation=, 3 election, 4 list of edge and decision, 5 list of cuts it precedes
abbrev pub cut_raw : Cut → Raw
cut_raw c =
    raw_of 5 (mask_of c.members ∷ one c.condition ∷ one c.citation ∷ given (election_bytes c.election) ∷ given (decision_bytes c.decisions) ∷ given c.precedes ∷ [])

-- 6 attachment: 0 members mask=, 1 anchor=, 2 condition=, 3 citation=, 4 actor=, 5 election
abbrev pub attachment_raw : Attachment → Raw
attachment_raw a =
    raw_of 6 (mask_of a.members ∷ one a.anchor ∷ one a.condition ∷ one a.citation ∷ one a.actor ∷ given (election_bytes a.election) ∷ [])

-- 7 bar: 0 members mask=, 1 condition=, 2 citation=
abbrev pub bar_raw : Bar → Raw
bar_raw b = raw_of 7 (mask_of b.members ∷ one b.condition ∷ one b.citation ∷ [])

-- 8 status: 0 person=, 1 condition=, 2 citation=
abbrev pub status_raw : Status → Raw
status_raw t = raw_of 8 (one t.person ∷ one t.condition ∷ one t.citation ∷ [])

-- "Kinds never fall"
unfoldable pub raws_of : Plan → List Raw
raws_of P =
    map heading_raw P.headings ++ (map fact_raw P.facts ++ (map node_raw P.nodes ++ (map edge_raw P.edges
    ++ (map cut_raw P.cuts ++ (map attachment_raw P.attachments ++ (map bar_raw P.bars ++ map status_raw P.statuses))))))

-- A PLAN AS BYTES
unfoldable pub plan_bytes : Plan → List ℕ
plan_bytes P = flat_map (record_bytes plan_formats) (raws_of P)
