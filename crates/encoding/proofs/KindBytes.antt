-- What the code puts for a record of each kind is the record's bytes.
use mathlib.Core.Path.{◌≡◌, refl, sym, ap, ap₂, ◌∙◌}
use mathlib.Core.Bool.{Bool, true, false, cond, not, true≢false, false≢true}
use mathlib.Core.List.{List, [], ◌∷◌, ◌++◌, append-nil}
use Prim.Native.Nat.{ℕ, zero, suc, ◌+◌, ◌/◌, ◌≤◌, min}
use native.Mathlib.Nat.{div-one}
use native.Mathlib.Omega.{arith}
use lib.ListN.{length, get_or, take}
use lib.Dec.{eqb}
use borrow.Author.Tests.{ne_eqb}
use Rattle.records.specs.paper.Fields.{Raw}
use Rattle.records.specs.paper.Plan.{plan_formats}
use Rattle.records.specs.paper.Plan as paper
use Rattle.records.specs.declared.plan.Fact.{Fact}
use Rattle.records.specs.code.Decoded.{if_given, fact_of, node_by}
use Rattle.records.proofs.UsedLaws.{used_length, used_take}
use Rattle.page.specs.Little.{little_bytes}
use Rattle.encoding.specs.paper.Encoded.{bits_of, some, given, one, flag, mask_of, election_bytes, decision_bytes, field_bytes, record_bytes, heading_raw, fact_raw, node_parts, node_raw, edge_raw, cut_raw, attachment_raw, bar_raw, status_raw}
use Rattle.encoding.specs.code.Written.{list_bytes, bit, pair_bytes}
use Rattle.encoding.proofs.RecordBytes.{record_bytes_lem, counted, no_field, whole-field}
use Rattle.encoding.proofs.DecisionBytes.{some_pairs, paired}

-- ---- headings

pub chained-bytes : (relation chain : ℕ) (b : Bool) → b ≡ true → 1 ∷ 3 ∷ relation ∷ chain ∷ [] ≡ record_bytes plan_formats (heading_raw (record { relation = relation; chain = if_given b chain }))
unfolding plan_formats field_bytes bits_of
chained-bytes relation chain true e = sym (record_bytes_lem 1 (one relation ∷ given (chain ∷ []) ∷ []))
chained-bytes relation chain false e = absurd (false≢true e)

pub heading-bytes : (relation chain : ℕ) (b : Bool) → b ≡ false → 1 ∷ 1 ∷ relation ∷ [] ≡ record_bytes plan_formats (heading_raw (record { relation = relation; chain = if_given b chain }))
unfolding plan_formats field_bytes bits_of
heading-bytes relation chain true e = absurd (true≢false e)
heading-bytes relation chain false e = sym (record_bytes_lem 1 (one relation ∷ given [] ∷ []))

-- ---- facts

abbrev family_raw_lem : Bool → ℕ → List ℕ → Raw
family_raw_lem b family tuple = fact_raw (record { family = if_given (not b) family; tuple = tuple })

boolean_raw : (b : Bool) (family : ℕ) (tuple : List ℕ) → b ≡ true → 2 ∷ 0 ∷ [] ≡ record_bytes plan_formats (family_raw_lem b family tuple)
unfolding plan_formats field_bytes bits_of
boolean_raw true family tuple e = sym (record_bytes_lem 2 (given [] ∷ record { stands = false; value = tuple } ∷ []))
boolean_raw false family tuple e = absurd (false≢true e)

family_raw : (b : Bool) (family : ℕ) (tuple : List ℕ) → b ≡ false → 2 ∷ 3 ∷ family ∷ length tuple ∷ tuple ≡ record_bytes plan_formats (family_raw_lem b family tuple)
unfolding plan_formats field_bytes bits_of
family_raw true family tuple e = absurd (true≢false e)
family_raw false family tuple e =
    ap₂ (λ (n : ℕ) (t : List ℕ). 2 ∷ 3 ∷ family ∷ n ∷ t) (sym (div-one (length tuple))) (sym (append-nil tuple))
    ∙ sym (record_bytes_lem 2 (given (family ∷ []) ∷ record { stands = true; value = tuple } ∷ []))

pub boolean_bytes : (f : Fact) → f.boolean ≡ true → 2 ∷ 0 ∷ [] ≡ record_bytes plan_formats (fact_raw (fact_of f))
unfolding fact_of
boolean_bytes f e = boolean_raw f.boolean f.family (take f.count f.tuple) e

pub fact-bytes : (f : Fact) (n : ℕ) → length f.tuple ≡ 4 → n ≡ min f.count 4 → f.boolean ≡ false → (2 ∷ 3 ∷ f.family ∷ n ∷ []) ++ take n f.tuple ≡ record_bytes plan_formats (fact_raw (fact_of f))
unfolding fact_of
fact-bytes f n l m e =
    ap₂ (λ (k : ℕ) (t : List ℕ). 2 ∷ 3 ∷ f.family ∷ k ∷ t) (sym (used_length f.tuple f.count 4 n l m)) (used_take f.tuple f.count 4 n l m)
    ∙ family_raw f.boolean f.family (take f.count f.tuple) e

-- ---- nodes

listed : (is : List ℕ) → (length is / 1 ∷ is) ++ [] ≡ length is ∷ is
listed is = append-nil (length is / 1 ∷ is) ∙ ap (λ (k : ℕ). k ∷ is) (div-one (length is))

pub and_bytes : (s n : ℕ) (is : List ℕ) → s ≡ 2 → 3 ∷ 4 ∷ length is ∷ is ≡ record_bytes plan_formats (node_raw (node_by s n is))
unfolding plan_formats field_bytes bits_of node_parts node_by
and_bytes s n is e =
    ap (λ (t : List ℕ). 3 ∷ 4 ∷ t) (sym (listed is)) ∙ sym (record_bytes_lem 3 (node_parts (paper.conj is))) ∙ ap (λ (k : ℕ). record_bytes plan_formats (node_raw (node_by k n is))) (sym e)

pub or_bytes : (s n : ℕ) (is : List ℕ) → s ≡ 3 → 3 ∷ 8 ∷ length is ∷ is ≡ record_bytes plan_formats (node_raw (node_by s n is))
unfolding plan_formats field_bytes bits_of node_parts node_by
or_bytes s n is e =
    ap (λ (t : List ℕ). 3 ∷ 8 ∷ t) (sym (listed is)) ∙ sym (record_bytes_lem 3 (node_parts (paper.disj is))) ∙ ap (λ (k : ℕ). record_bytes plan_formats (node_raw (node_by k n is))) (sym e)

pub literal_bytes : (s n : ℕ) (is : List ℕ) → s ≡ 0 → 3 ∷ 1 ∷ n ∷ [] ≡ record_bytes plan_formats (node_raw (node_by s n is))
unfolding plan_formats field_bytes bits_of node_parts node_by
literal_bytes s n is e = sym (record_bytes_lem 3 (node_parts (paper.literal n))) ∙ ap (λ (k : ℕ). record_bytes plan_formats (node_raw (node_by k n is))) (sym e)

pub fact_node_bytes : (s n : ℕ) (is : List ℕ) → s ≡ 1 → 3 ∷ 2 ∷ n ∷ [] ≡ record_bytes plan_formats (node_raw (node_by s n is))
unfolding plan_formats field_bytes bits_of node_parts node_by
fact_node_bytes s n is e = sym (record_bytes_lem 3 (node_parts (paper.fact n))) ∙ ap (λ (k : ℕ). record_bytes plan_formats (node_raw (node_by k n is))) (sym e)

pub not_bytes : (s n : ℕ) (is : List ℕ) → 4 ≤ s → 3 ∷ 16 ∷ n ∷ [] ≡ record_bytes plan_formats (node_raw (node_by s n is))
unfolding plan_formats field_bytes bits_of node_parts node_by
not_bytes zero n is h = absurd (omega arith)
not_bytes (suc zero) n is h = absurd (omega arith)
not_bytes (suc (suc zero)) n is h = absurd (omega arith)
not_bytes (suc (suc (suc zero))) n is h = absurd (omega arith)
not_bytes (suc (suc (suc (suc k)))) n is h = sym (record_bytes_lem 3 (node_parts (paper.neg n)))

-- ---- edges

weighed-two : (a b : Bool) → 15 + cond a 16 0 + cond b 32 0 ≡ bit true (bit true (bit true (bit true (bit a (bit b 0)))))
weighed-two true true = refl
weighed-two true false = refl
weighed-two false true = refl
weighed-two false false = refl

pub edge-bytes : (e : paper.Edge) (n : ℕ) → n ≡ 15 + cond (some e.defeaters) 16 0 + cond e.combination 32 0
    → 4 ∷ n ∷ e.left ∷ e.right ∷ e.condition ∷ e.citation ∷ list_bytes e.defeaters ≡ record_bytes plan_formats (edge_raw e)
unfolding plan_formats field_bytes bits_of
edge-bytes e n h =
    let front : ℕ → List ℕ → List ℕ = λ n t. 4 ∷ n ∷ e.left ∷ e.right ∷ e.condition ∷ e.citation ∷ t in
    ap₂ front (h ∙ weighed-two (some e.defeaters) e.combination) (sym (append-nil (list_bytes e.defeaters)) ∙ ap₂ (λ (x y : List ℕ). x ++ y) (sym (counted e.defeaters)) (sym (ap (λ (t : List ℕ). t ++ []) (no_field e.combination))))
    ∙ sym (record_bytes_lem 4 (one e.left ∷ one e.right ∷ one e.condition ∷ one e.citation ∷ given e.defeaters ∷ flag e.combination ∷ []))

-- ---- cuts

weighed : (a b c : Bool) → 7 + cond a 8 0 + cond b 16 0 + cond c 32 0 ≡ bit true (bit true (bit true (bit a (bit b (bit c 0)))))
weighed true true true = refl
weighed true true false = refl
weighed true false true = refl
weighed true false false = refl
weighed false true true = refl
weighed false true false = refl
weighed false false true = refl
weighed false false false = refl

pub cut-bytes : (c : paper.Cut) (n : ℕ) → n ≡ 7 + cond (some (election_bytes c.election)) 8 0 + cond (some c.decisions) 16 0 + cond (some c.precedes) 32 0
    → 5 ∷ n ∷ (little_bytes 8 c.members ++ (c.condition ∷ c.citation ∷ (election_bytes c.election ++ (pair_bytes c.decisions ++ list_bytes c.precedes)))) ≡ record_bytes plan_formats (cut_raw c)
unfolding plan_formats field_bytes bits_of little_bytes
cut-bytes c n h =
    let front : ℕ → List ℕ → List ℕ = λ n t. (5 ∷ n ∷ (little_bytes 8 c.members ++ (c.condition ∷ c.citation ∷ []))) ++ t in
    ap₂ front (h ∙ weighed (some (election_bytes c.election)) (some c.decisions) (some c.precedes)
    ∙ ap (λ (b : Bool). bit true (bit true (bit true (bit (some (election_bytes c.election)) (bit b (bit (some c.precedes) 0)))))) (sym (some_pairs c.decisions)))
    (ap₂ (λ (x y : List ℕ). x ++ y) (sym (whole-field (election_bytes c.election))) (ap₂ (λ (x y : List ℕ). x ++ y) (sym (paired c.decisions))
    (sym (append-nil (list_bytes c.precedes)) ∙ ap (λ (x : List ℕ). x ++ []) (sym (counted c.precedes)))))
    ∙ sym (record_bytes_lem 5 (mask_of c.members ∷ one c.condition ∷ one c.citation ∷ given (election_bytes c.election) ∷ given (decision_bytes c.decisions) ∷ given c.precedes ∷ []))

-- ---- attachments

weighed-one : (b : Bool) → 31 + cond b 32 0 ≡ bit true (bit true (bit true (bit true (bit true (bit b 0)))))
weighed-one true = refl
weighed-one false = refl

pub attachment-bytes : (a : paper.Attachment) (n : ℕ) → n ≡ 31 + cond (some (election_bytes a.election)) 32 0
    → 6 ∷ n ∷ (little_bytes 8 a.members ++ (a.anchor ∷ a.condition ∷ a.citation ∷ a.actor ∷ election_bytes a.election)) ≡ record_bytes plan_formats (attachment_raw a)
unfolding plan_formats field_bytes bits_of little_bytes
attachment-bytes a n h =
    ap₂ (λ (n : ℕ) (t : List ℕ). (6 ∷ n ∷ (little_bytes 8 a.members ++ (a.anchor ∷ a.condition ∷ a.citation ∷ a.actor ∷ []))) ++ t)
    (h ∙ weighed-one (some (election_bytes a.election))) (sym (append-nil (election_bytes a.election)) ∙ ap (λ (t : List ℕ). t ++ []) (sym (whole-field (election_bytes a.election))))
    ∙ sym (record_bytes_lem 6 (mask_of a.members ∷ one a.anchor ∷ one a.condition ∷ one a.citation ∷ one a.actor ∷ given (election_bytes a.election) ∷ []))

-- ---- bars and statuses

pub status-bytes : (t : paper.Status) → 8 ∷ 7 ∷ t.person ∷ t.condition ∷ t.citation ∷ [] ≡ record_bytes plan_formats (status_raw t)
unfolding plan_formats field_bytes bits_of
status-bytes t = sym (record_bytes_lem 8 (one t.person ∷ one t.condition ∷ one t.citation ∷ []))

pub bar-bytes : (b : paper.Bar) → 7 ∷ 7 ∷ (little_bytes 8 b.members ++ (b.condition ∷ b.citation ∷ [])) ≡ record_bytes plan_formats (bar_raw b)
unfolding plan_formats field_bytes bits_of little_bytes
bar-bytes b = sym (record_bytes_lem 7 (mask_of b.members ∷ one b.condition ∷ one b.citation ∷ []))
