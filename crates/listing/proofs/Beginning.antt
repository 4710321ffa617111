-- A file that is longer than the room for it is read as its beginning is: the same plan or case, the same refusal and record.
use mathlib.Core.Path.{◌≡◌, refl, ap, ap₂, ◌∙◌}
use mathlib.Core.Bool.{Bool, true, false, ◌&&◌, ◌||◌, not, cond}
use mathlib.Core.List.{List, ◌∷◌}
use Prim.Native.Nat.{ℕ, ◌+◌, ◌-◌, ◌≤◌, zero-le}
use native.Mathlib.Omega.{arith}
use lib.ListN.{length, get_or, take}
use lib.Dec.{eqb, ltb}
use borrow.Author.Tests.{ltb-false}
use Rattle.sets.specs.paper.Sets.{all_of}
use Rattle.records.specs.paper.Fields.{Raw, format_of, Verdict, fine, refused, on_fine, first_fault}
use Rattle.records.specs.paper.Plan.{Plan, plan_formats, plan_counts, add_to_plan, judge_plan, empty_plan, plan_records, plan_faults, checked_plan, unresolved, facts_rise, decided_once, heading_from, fact_from, node_from, edge_from, cut_from, attachment_from, bar_from, status_from}
use Rattle.records.specs.paper.Case.{Case, case_formats, case_counts, add_to_case, judge_case, empty_case, case_records, read_case, case_heading, booleans_at, case_naming_faults, case_heading_from, family_from, boolean_from, relation_from, constraint_from}
use Rattle.records.proofs.ReadLaws.{fine_then, of_fine, to_fine}
use Rattle.report.specs.paper.Operations.{Opened, or_stop, unless_fault, heading_fault, bound, opened, answer, answer_opened}
use Rattle.listing.specs.Rooms.{records_most, plan_room, case_room}
use Rattle.listing.specs.Listing.{listing, outcome_text}
use Rattle.listing.proofs.Counted.{bump, joined_length, tally_bump}
use Rattle.listing.proofs.Prefix.{Sized, prefix, short}

cons : {x y : ℕ} {xs ys : List ℕ} → x ≡ y → xs ≡ ys → ◌≡◌ {A = List ℕ} (x ∷ xs) (y ∷ ys)
cons e f = ap₂ (λ (x : ℕ) (xs : List ℕ). x ∷ xs) e f

-- no 2 is judged of a count within its limit
within : (a b : ℕ) (x : Bool) (rest : ℕ) → cond (ltb a b || x) 2 rest ≡ 0 → b ≤ a
within a b x rest = pick (ltb a b) refl
  where
    pick : (c : Bool) → ltb a b ≡ c → cond (c || x) 2 rest ≡ 0 → b ≤ a
    pick true f e = absurd (omega arith)
    pick false f e = ltb-false a b f

-- ---- plans

plan_grows : (r : Raw) (P : Plan) → 1 ≤ r.kind → plan_counts (add_to_plan r P) ≡ bump (plan_counts P) (r.kind - 1)
unfolding plan_counts add_to_plan
plan_grows r P h =
    cons (joined_length 1 heading_from r P.headings) (cons (joined_length 2 fact_from r P.facts) (cons (joined_length 3 node_from r P.nodes)
    (cons (joined_length 4 edge_from r P.edges) (cons (joined_length 5 cut_from r P.cuts) (cons (joined_length 6 attachment_from r P.attachments)
    (cons (joined_length 7 bar_from r P.bars) (cons (joined_length 8 status_from r P.statuses) refl)))))))
    ∙ tally_bump r.kind (plan_counts P) h

plan_limits : (r : Raw) (P : Plan) → judge_plan r P ≡ 0 → get_or (plan_counts P) (r.kind - 1) 0 ≤ (format_of plan_formats r.kind).limit
unfolding judge_plan
plan_limits r P = within (format_of plan_formats r.kind).limit (get_or (plan_counts P) (r.kind - 1) 0) (ltb 16 (unresolved P.cuts))
    (cond (not ((format_of plan_formats r.kind).fits r.bits) || eqb (length P.headings) 0) 3
    (cond (facts_rise P.facts && all_of (λ c. decided_once c.decisions) P.cuts) 0 5))

plan_start : Sized plan_formats add_to_plan judge_plan plan_counts plan_grows plan_limits empty_plan 0
unfolding plan_formats plan_counts
plan_start = record { long = refl; within = (zero-le, (zero-le, (zero-le, (zero-le, (zero-le, (zero-le, (zero-le, (zero-le, tt)))))))); used = zero-le }

pub plan_beginning : (s : List ℕ) (n : ℕ) → plan_room ≤ n → checked_plan (take n s) ≡ checked_plan s
unfolding checked_plan plan_records plan_room
plan_beginning s n h = ap (λ (v : Verdict Plan). on_fine v plan_faults) (prefix plan_formats add_to_plan judge_plan plan_counts plan_grows plan_limits s n empty_plan h plan_start)

-- a longer plan is refused
pub plan-short : (s : List ℕ) (P : Plan) → checked_plan s ≡ fine P → length s ≤ records_most plan_formats
unfolding checked_plan plan_records
plan-short s P e =
    of_fine (λ _. length s ≤ records_most plan_formats) (checked_plan s) P
    (fine_then (λ _. length s ≤ records_most plan_formats) (λ _. length s ≤ records_most plan_formats) (plan_records s) plan_faults
    (short plan_formats add_to_plan judge_plan plan_counts plan_grows plan_limits (length s + 1) s 0 0 empty_plan 0 plan_start) (λ P l. to_fine _ (plan_faults P) (λ _ _. l))) e

-- ---- cases

case_grows : (r : Raw) (C : Case) → 1 ≤ r.kind → case_counts (add_to_case r C) ≡ bump (case_counts C) (r.kind - 1)
unfolding case_counts add_to_case
case_grows r C h =
    cons (joined_length 1 case_heading_from r C.headings) (cons (joined_length 2 family_from r C.families) (cons (joined_length 3 boolean_from r C.booleans)
    (cons (joined_length 4 relation_from r C.relations) (cons (joined_length 5 constraint_from r C.constraints) refl))))
    ∙ tally_bump r.kind (case_counts C) h

case_limits : (r : Raw) (C : Case) → judge_case r C ≡ 0 → get_or (case_counts C) (r.kind - 1) 0 ≤ (format_of case_formats r.kind).limit
unfolding judge_case
case_limits r C = pick (ltb limit count) refl
  where
    limit : ℕ
    limit = (format_of case_formats r.kind).limit

    count : ℕ
    count = get_or (case_counts C) (r.kind - 1) 0

    pick : (c : Bool) → ltb limit count ≡ c → ◌≡◌ {A = ℕ} (cond c 2 (cond ((format_of case_formats r.kind).fits r.bits && not (eqb (length C.headings) 0)) 0 3)) 0 → count ≤ limit
    pick true f e = absurd (omega arith)
    pick false f e = ltb-false limit count f

case_start : Sized case_formats add_to_case judge_case case_counts case_grows case_limits empty_case 0
unfolding case_formats case_counts
case_start = record { long = refl; within = (zero-le, (zero-le, (zero-le, (zero-le, (zero-le, tt))))); used = zero-le }

pub case_beginning : (P : Plan) (s : List ℕ) (n : ℕ) → case_room ≤ n → read_case P (take n s) ≡ read_case P s
unfolding read_case case_records case_room
case_beginning P s n h =
    ap (λ (v : Verdict Case). on_fine v (λ C. first_fault (booleans_at C) (case_naming_faults P C) (fine C)))
    (prefix case_formats add_to_case judge_case case_counts case_grows case_limits s n empty_case h case_start)

-- and so is a longer case
pub case-short : (P : Plan) (s : List ℕ) (C : Case) → read_case P s ≡ fine C → length s ≤ records_most case_formats
unfolding read_case case_records
case-short P s C e =
    of_fine (λ _. length s ≤ records_most case_formats) (read_case P s) C
    (fine_then (λ _. length s ≤ records_most case_formats) (λ _. length s ≤ records_most case_formats) (case_records s) (λ C. first_fault (booleans_at C) (case_naming_faults P C) (fine C))
    (short case_formats add_to_case judge_case case_counts case_grows case_limits (length s + 1) s 0 0 empty_case 0 case_start) (λ C l. to_fine (λ _. length s ≤ records_most case_formats) (first_fault (booleans_at C) (case_naming_faults P C) (fine C)) (λ _ _. l))) e

-- ---- what is answered, and what is listed

pub answer_beginning : (plan case : List ℕ) (m n l e : ℕ) → plan_room ≤ m → case_room ≤ n → answer (take m plan) (take n case) l e ≡ answer plan case l e
unfolding answer opened
answer_beginning plan case m n l e h k =
    ap (answer_opened l e)
    (ap (λ (v : Verdict Plan). or_stop v (λ P. or_stop (read_case P (take n case)) (go P))) (plan_beginning plan m h) ∙ over (checked_plan plan))
  where
    go : Plan → Case → Opened
    go P C = unless_fault (heading_fault P (case_heading C) l) (bound P C)

    over : (v : Verdict Plan) → or_stop v (λ P. or_stop (read_case P (take n case)) (go P)) ≡ or_stop v (λ P. or_stop (read_case P case) (go P))
    over (fine P) = ap (λ (v : Verdict Case). or_stop v (go P)) (case_beginning P case n k)
    over (refused a b) = refl

-- THE LISTING OF A FILE THAT IS LONGER THAN THE BUFFER IS THAT OF ITS BEGINNING
pub listing_beginning : (plan case : List ℕ) (m n l e : ℕ) → plan_room ≤ m → case_room ≤ n → listing (take m plan) (take n case) l e ≡ listing plan case l e
unfolding listing
listing_beginning plan case m n l e h k = ap outcome_text (answer_beginning plan case m n l e h k)

-- in numbers
pub rooms : (plan_room ≡ 15846) × (case_room ≡ 3829)
unfolding plan_room case_room plan_formats case_formats
rooms = (refl, refl)

pub most_bytes : (records_most plan_formats ≡ 15684) × (records_most case_formats ≡ 3792)
unfolding plan_formats case_formats
most_bytes = (refl, refl)
