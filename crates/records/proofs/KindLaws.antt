-- Each kind of record in the plan: what one more of them changes and what is wrong with it.
use mathlib.Core.Path.{◌≡◌, refl, sym, ap, ap₂, ◌∙◌}
use mathlib.Core.Bool.{Bool, true, false, ◌&&◌, ◌||◌, not, cond, or-false}
use mathlib.Core.List.{List, [], ◌∷◌, ◌++◌, map}
use Prim.Native.Nat.{ℕ, zero, suc, ◌+◌, ◌/◌, ◌%◌, ◌^◌, ◌≤◌, ◌<◌}
use native.Mathlib.Nat.{mod-lt, zero-lt-suc}
use native.Mathlib.Numerals.{add-one}
use native.Mathlib.Omega.{arith}
use lib.ListN.{length, set, take}
use lib.Seq.{take-suc-set}
use lib.Bits.{bit_and}
use lib.Dec.{eqb, ltb, leb}
use borrow.Author.Tests.{eq-eqb, ne_eqb, eqb-true, leb-false}
use Rattle.sets.specs.paper.Sets.{odd, has, subset, all_of}
use Rattle.records.specs.paper.Fields.{Raw, needs, single}
use Rattle.records.specs.paper.Plan as paper
use Rattle.records.specs.paper.Plan.{Plan, plan_formats, add_to_plan, plan_counts, judge_plan, fact_bits, heading_from, fact_from, bar_from, status_from}
use Rattle.records.specs.code.Decoded as decoded
use Rattle.records.specs.code.Decoded.{if_given}
use Rattle.records.specs.code.Readers.{bytes_from}
use Rattle.records.specs.declared.plan.Election.{Election}
use Rattle.records.specs.declared.plan.Decisions.{Decisions}
use Rattle.records.specs.declared.plan.Numbers.{Numbers}
use Rattle.records.specs.code.Passes.{Reading, judgement, full_judgement}
use Rattle.records.specs.code.PlanPasses.{Clean, plan_reading, with_headings, with_facts, with_nodes, with_cuts, with_edges, with_attachments, with_bars, with_statuses}
use Rattle.sets.proofs.SetLaws.{has-zero, Within, antisym, of_meet, in_meet, subset-true, within-subset}
use Rattle.records.proofs.Listing.{map_more}
use Rattle.records.proofs.Chain.{raw, odd_test}
use Rattle.records.proofs.Passing.{Kind}
use Rattle.records.proofs.FactLaws.{and-true, last_fact, rise-more}
use Rattle.records.proofs.DecisionLaws.{unresolved-more, all_more}

-- ---- tests of the bits

-- `bits / w % 2 == 1`
pub bit_test : (b w : ℕ) → eqb (b / w % 2) 1 ≡ odd (b / w % 2)
bit_test b w = odd_test (b / w % 2) (mod-lt (b / w) (zero-lt-suc 1))

pub has-bit : (b p w : ℕ) → 2 ^ p ≡ w → eqb (b / w % 2) 1 ≡ has b p
unfolding has
has-bit b p w e = bit_test b w ∙ ap (λ (x : ℕ). odd (b / x % 2)) (sym e)

odd-not-one : (d : ℕ) → d < 2 → (d ≡ 1 → ⊥) → odd d ≡ false
odd-not-one zero h n = refl
odd-not-one (suc d) h n = absurd (n (omega arith))

pub bit-on : (b k : ℕ) → b / 2 ^ k % 2 ≡ 1 → has b k ≡ true
unfolding has
bit-on b k e = ap odd e

pub bit_off : (b k : ℕ) → (b / 2 ^ k % 2 ≡ 1 → ⊥) → has b k ≡ false
unfolding has
bit_off b k n = odd-not-one (b / 2 ^ k % 2) (mod-lt (b / 2 ^ k) (zero-lt-suc 1)) n

pub bit0_on : (b : ℕ) → b % 2 ≡ 1 → has b 0 ≡ true
bit0_on b e = has-zero b ∙ ap odd e

pub bit0_off : (b : ℕ) → (b % 2 ≡ 1 → ⊥) → has b 0 ≡ false
bit0_off b n = has-zero b ∙ odd-not-one (b % 2) (mod-lt b (zero-lt-suc 1)) n

-- `bits & m == m`
pub needs_test : (b m : ℕ) → eqb (bit_and b m) m ≡ needs m b
unfolding Rattle.sets.specs.paper.Sets.meet
needs_test b m = pick (subset m b) refl
  where
    both : Within m b → bit_and b m ≡ m
    both h = antisym (bit_and b m) m (record { at = λ p e. (of_meet b m p e).1 }) (record { at = λ p e. in_meet b m p (h.at p e) e })

    back : bit_and b m ≡ m → Within m b
    back q = record { at = λ p e. (of_meet b m p (ap (λ (x : ℕ). has x p) q ∙ e)).0 }

    pick : (t : Bool) → subset m b ≡ t → eqb (bit_and b m) m ≡ subset m b
    pick true e = eq-eqb (bit_and b m) m (both (subset-true m b e)) ∙ sym e
    pick false e = ne_eqb (bit_and b m) m (λ q. mathlib.Core.Bool.true≢false (sym (within-subset m b (back q)) ∙ e)) ∙ sym e

pub plan-kinds : length plan_formats ≡ 8
unfolding plan_formats
plan-kinds = refl

-- ---- one more of a kind

pub length_more : {A : Type 0} (xs : List A) (x : A) → length (xs ++ (x ∷ [])) ≡ suc (length xs)
length_more [] x = refl
length_more (y ∷ xs) x = ap suc (length_more xs x)

-- an array with a count: one more record is set
pub take_more : {A : Type 0} (xs : List A) (n : ℕ) (x : A) → n < length xs → take (n + 1) (set xs n x) ≡ take n xs ++ (x ∷ [])
take_more xs n x h = ap (λ (k : ℕ). take k (set xs n x)) (add-one n) ∙ take-suc-set xs n x h

pub made_more : {A B : Type 0} (f : A → B) (xs : List A) (n : ℕ) (x : A) → n < length xs → map f (take (n + 1) (set xs n x)) ≡ map f (take n xs) ++ (f x ∷ [])
made_more f xs n x h = ap (map f) (take_more xs n x h) ∙ map_more f (take n xs) x

pub past : (limit n : ℕ) → ltb limit (suc n) ≡ leb limit n
past limit n = lib.Dec.leb-suc-suc limit n

plain : (t f h : Bool) (z : ℕ) → cond t 2 (cond (not f || not h) 3 z) ≡ cond t 2 (cond (f && h) z 3)
plain true f h z = refl
plain false true true z = refl
plain false true false z = refl
plain false false h z = refl

-- a kind whose records are judged each by its bits alone
pub record Plain {F : Type 0} (R : Reading F) {A : Type 0} (K limit : ℕ) (fits : ℕ → Bool) (put : F → List A → F) (make : Raw → A) : Type 0 where
  pub low : 1 ≤ K
  pub top : K ≤ length R.formats
  pub adds : (a : F) (xs : List A) (b : ℕ) (vs : List (List ℕ)) → R.add (raw K b vs) (put a xs) ≡ put a (xs ++ (make (raw K b vs) ∷ []))
  pub judges : (headed : Bool) (a : F) (xs : List A) (b : ℕ) (vs : List (List ℕ)) → R.Clean headed a
      → R.judge (raw K b vs) (put a xs) ≡ cond (ltb limit (length xs)) 2 (cond (fits b && headed) 0 3)

pub one_more : {A : Type 0} (limit : ℕ) (fits : Bool) (xs : List A) (x : A) → cond (ltb limit (length (xs ++ (x ∷ [])))) 2 (cond fits 0 3) ≡ judgement (length xs) limit fits
one_more limit fits xs x = rw (length_more xs x, past limit (length xs), or-false (leb limit (length xs)))

abbrev pub plain_kind : {F : Type 0} {R : Reading F} {A : Type 0} {K limit : ℕ} {fits : ℕ → Bool} {put : F → List A → F} {make : Raw → A} → Plain R K limit fits put make → Kind R A
plain_kind {K = K} {limit = limit} {fits = fits} {put = put} {make = make} p = record {
  K = K;
  low = p.low;
  top = p.top;
  put = put;
  make = make;
  judge = λ headed xs b x. judgement (length xs) limit (fits b && headed);
  Fine = λ xs. Unit {0};
  adds = p.adds;
  judges = λ headed a xs b vs c u. p.judges headed a (xs ++ (make (raw K b vs) ∷ [])) b vs c ∙ one_more limit (fits b && headed) xs (make (raw K b vs));
}

-- ---- the kinds of a plan

abbrev pub once : paper.Cut → Bool
once x = paper.decided_once x.decisions

-- what a plan that was clean before is judged by
clean_judges : {headed : Bool} {P : Plan} → Clean headed P → (t f : Bool)
    → ◌≡◌ {A = ℕ} (cond (t || ltb 16 (paper.unresolved P.cuts)) 2 (cond (not f || eqb (length P.headings) 0) 3 (cond (paper.facts_rise P.facts && all_of once P.cuts) 0 5))) (cond t 2 (cond (f && headed) 0 3))
clean_judges {headed = headed} c t f = rw (c.few, c.heads, c.rise, c.once, or-false t) (plain t f headed 0)

pub node_plain : Plain plan_reading 3 256 single with_nodes paper.node_from
unfolding add_to_plan judge_plan plan_formats plan_counts
node_plain = record {
  low = omega arith;
  top = omega (arith, plan-kinds);
  adds = λ P xs b vs. refl;
  judges = λ headed P xs b vs c. clean_judges c (ltb 256 (length xs)) (single b);
}

abbrev pub node_kind : Kind plan_reading paper.Node
node_kind = plain_kind node_plain

pub edge-plain : Plain plan_reading 4 64 (needs 15) with_edges paper.edge_from
unfolding add_to_plan judge_plan plan_formats plan_counts
edge-plain = record {
  low = omega arith;
  top = omega (arith, plan-kinds);
  adds = λ P xs b vs. refl;
  judges = λ headed P xs b vs c. clean_judges c (ltb 64 (length xs)) (needs 15 b);
}

abbrev pub edge_kind : Kind plan_reading paper.Edge
edge_kind = plain_kind edge-plain

pub attachment-plain : Plain plan_reading 6 32 (needs 31) with_attachments paper.attachment_from
unfolding add_to_plan judge_plan plan_formats plan_counts
attachment-plain = record {
  low = omega arith;
  top = omega (arith, plan-kinds);
  adds = λ P xs b vs. refl;
  judges = λ headed P xs b vs c. clean_judges c (ltb 32 (length xs)) (needs 31 b);
}

abbrev pub attachment_kind : Kind plan_reading paper.Attachment
attachment_kind = plain_kind attachment-plain

pub bar-plain : Plain plan_reading 7 32 (needs 7) with_bars bar_from
unfolding add_to_plan judge_plan plan_formats plan_counts
bar-plain = record {
  low = omega arith;
  top = omega (arith, plan-kinds);
  adds = λ P xs b vs. refl;
  judges = λ headed P xs b vs c. clean_judges c (ltb 32 (length xs)) (needs 7 b);
}

abbrev pub bar_kind : Kind plan_reading paper.Bar
bar_kind = plain_kind bar-plain

pub status-plain : Plain plan_reading 8 32 (needs 7) with_statuses status_from
unfolding add_to_plan judge_plan plan_formats plan_counts
status-plain = record {
  low = omega arith;
  top = omega (arith, plan-kinds);
  adds = λ P xs b vs. refl;
  judges = λ headed P xs b vs c. clean_judges c (ltb 32 (length xs)) (needs 7 b);
}

abbrev pub status_kind : Kind plan_reading paper.Status
status_kind = plain_kind status-plain

pub heading_adds : (P : Plan) (xs : List paper.Heading) (b : ℕ) (vs : List (List ℕ)) → add_to_plan (raw 1 b vs) (with_headings P xs) ≡ with_headings P (xs ++ (heading_from (raw 1 b vs) ∷ []))
unfolding add_to_plan
heading_adds P xs b vs = refl

pub heading_judges : (headed : Bool) (P : Plan) (xs : List paper.Heading) (b : ℕ) (vs : List (List ℕ)) → Clean headed P → Unit {0}
    → judge_plan (raw 1 b vs) (with_headings P (xs ++ (heading_from (raw 1 b vs) ∷ []))) ≡ judgement (length xs) 1 (needs 1 b && true)
unfolding judge_plan plan_formats plan_counts
heading_judges headed P xs b vs c u =
    rw (length_more xs (heading_from (raw 1 b vs)), past 1 (length xs), lib.Dec.eqb-suc-zero (length xs), c.few, c.rise, c.once) (plain (leb 1 (length xs) || false) (needs 1 b) true 0)

abbrev pub heading_kind : Kind plan_reading paper.Heading
heading_kind = record {
  K = 1;
  low = omega arith;
  top = omega (arith, plan-kinds);
  put = with_headings;
  make = heading_from;
  judge = λ headed xs b x. judgement (length xs) 1 (needs 1 b && true);
  Fine = λ xs. Unit {0};
  adds = heading_adds;
  judges = heading_judges;
}

pub fact_adds : (P : Plan) (xs : List paper.Fact) (b : ℕ) (vs : List (List ℕ)) → add_to_plan (raw 2 b vs) (with_facts P xs) ≡ with_facts P (xs ++ (fact_from (raw 2 b vs) ∷ []))
unfolding add_to_plan
fact_adds P xs b vs = refl

pub fact_judges : (headed : Bool) (P : Plan) (xs : List paper.Fact) (b : ℕ) (vs : List (List ℕ)) → Clean headed P → paper.facts_rise xs ≡ true
    → judge_plan (raw 2 b vs) (with_facts P (xs ++ (fact_from (raw 2 b vs) ∷ []))) ≡ full_judgement (length xs) 64 false (fact_bits b && headed) (paper.rises (last_fact xs) (fact_from (raw 2 b vs)))
unfolding judge_plan plan_formats plan_counts
fact_judges headed P xs b vs c g =
    let x = fact_from (raw 2 b vs) in
    rw (length_more xs x, past 64 (length xs), c.few, c.heads, rise-more xs x, g, c.once)
    (plain (leb 64 (length xs) || false) (fact_bits b) headed (cond (paper.rises (last_fact xs) x && true) 0 5) ∙ ap (λ (t : Bool). full_judgement (length xs) 64 false (fact_bits b && headed) t) (and-true (paper.rises (last_fact xs) x)))

abbrev pub fact_kind : Kind plan_reading paper.Fact
fact_kind = record {
  K = 2;
  low = omega arith;
  top = omega (arith, plan-kinds);
  put = with_facts;
  make = fact_from;
  judge = λ headed xs b x. full_judgement (length xs) 64 false (fact_bits b && headed) (paper.rises (last_fact xs) x);
  Fine = λ xs. paper.facts_rise xs ≡ true;
  adds = fact_adds;
  judges = fact_judges;
}

pub cut_adds : (P : Plan) (xs : List paper.Cut) (b : ℕ) (vs : List (List ℕ)) → add_to_plan (raw 5 b vs) (with_cuts P xs) ≡ with_cuts P (xs ++ (paper.cut_from (raw 5 b vs) ∷ []))
unfolding add_to_plan
cut_adds P xs b vs = refl

abbrev pub cut_judge : Bool → List paper.Cut → ℕ → paper.Cut → ℕ
cut_judge headed xs b x = full_judgement (length xs) 16 (ltb 16 (paper.unresolved xs + paper.unresolved_in x.decisions)) (needs 7 b && headed) (once x)

pub cut_judges : (headed : Bool) (P : Plan) (xs : List paper.Cut) (b : ℕ) (vs : List (List ℕ)) → Clean headed P → all_of once xs ≡ true
    → judge_plan (raw 5 b vs) (with_cuts P (xs ++ (paper.cut_from (raw 5 b vs) ∷ []))) ≡ cut_judge headed xs b (paper.cut_from (raw 5 b vs))
unfolding judge_plan plan_formats plan_counts
cut_judges headed P xs b vs c g =
    let x = paper.cut_from (raw 5 b vs) in
    rw (length_more xs x, past 16 (length xs), unresolved-more xs x, c.heads, c.rise, all_more once xs x, g)
    (plain (leb 16 (length xs) || ltb 16 (paper.unresolved xs + paper.unresolved_in x.decisions)) (needs 7 b) headed (cond (once x) 0 5))

abbrev pub cut_kind : Kind plan_reading paper.Cut
cut_kind = record {
  K = 5;
  low = omega arith;
  top = omega (arith, plan-kinds);
  put = with_cuts;
  make = paper.cut_from;
  judge = cut_judge;
  Fine = λ xs. all_of once xs ≡ true;
  adds = cut_adds;
  judges = cut_judges;
}

-- ---- what `judged_fully` says, and `judged`

pub judge-same_fully : (limit n m : ℕ) (o o' f g h d d' : Bool) {r : ℕ} → r ≡ full_judgement n limit o (f && h) d → m ≡ n → o ≡ o' → f ≡ g → d ≡ d' → r ≡ full_judgement m limit o' (g && h) d'
judge-same_fully limit n m o o' f g h d d' e a b q z = e ∙ ap₂ (λ (x : ℕ) (y : Bool). full_judgement x limit y (f && h) d) (sym a) b ∙ ap₂ (λ (x y : Bool). full_judgement m limit o' (x && h) y) q z

pub judge-same : (limit n m : ℕ) (f g h : Bool) {r : ℕ} → r ≡ judgement n limit (f && h) → m ≡ n → f ≡ g → r ≡ judgement m limit (g && h)
judge-same limit n m f g h e a q = judge-same_fully limit n m false false f g h true true e a refl q refl

-- ---- what no refusal says

module _ (limit n : ℕ) (over fits sound : Bool) {r : ℕ} (e : r ≡ full_judgement n limit over fits sound) (z : r ≡ 0) where
  fine-parts : (over ≡ false) × (fits ≡ true) × (sound ≡ true)
  fine-parts = pick (leb limit n) over fits sound (sym e ∙ z)
    where
      pick : (t o f d : Bool) → ◌≡◌ {A = ℕ} (cond (t || o) 2 (cond f (cond d 0 5) 3)) 0 → (o ≡ false) × (f ≡ true) × (d ≡ true)
      pick true o f d q = absurd (omega (arith, q))
      pick false true f d q = absurd (omega (arith, q))
      pick false false true true q = (refl, refl, refl)
      pick false false true false q = absurd (omega (arith, q))
      pick false false false d q = absurd (omega (arith, q))

  pub not-over : over ≡ false
  not-over = fine-parts.0

  pub it_fits : fits ≡ true
  it_fits = fine-parts.1

  pub is_sound : sound ≡ true
  is_sound = fine-parts.2

-- a boolean fact has no tuple
pub no-tuple : (b k : ℕ) → fact_bits b ≡ true → not (eqb (b % 2) 1) ≡ true → (eqb (b / 2 % 2) 1 ≡ false → k ≡ 0) → k ≡ 0
no-tuple b k f g h = pick (eqb b 3) refl (eqb b 0) refl f
  where
    pick : (x : Bool) → eqb b 3 ≡ x → (y : Bool) → eqb b 0 ≡ y → (x || y) ≡ true → k ≡ 0
    pick true e y q z = absurd (mathlib.Core.Bool.true≢false (sym g ∙ ap (λ (v : ℕ). not (eqb (v % 2) 1)) (eqb-true b 3 e)))
    pick false e true q z = h (ap (λ (v : ℕ). eqb (v / 2 % 2) 1) (eqb-true b 0 q))
    pick false e false q z = absurd (mathlib.Core.Bool.false≢true z)

pub not-not : (t : Bool) → not (not t) ≡ t
not-not true = refl
not-not false = refl

-- ---- the heading's list of none or one

pub heading-count : {A : Type 0} (n : ℕ) (x : A) → n ≤ 1 → length (take n (x ∷ [])) ≡ n
heading-count zero x h = refl
heading-count (suc zero) x h = refl
heading-count (suc (suc n)) x h = absurd (omega arith)

pub heading-none : {A : Type 0} (n : ℕ) (x : A) → n < 1 → take n (x ∷ []) ≡ []
heading-none zero x h = refl
heading-none (suc n) x h = absurd (omega arith)

pub heading_there : {A : Type 0} (n : ℕ) (x : A) → n ≤ 1 → eqb (length (take n (x ∷ []))) 0 ≡ not (eqb n 1)
heading_there zero x h = refl
heading_there (suc zero) x h = refl
heading_there (suc (suc n)) x h = absurd (omega arith)

-- the fact that the code keeps
pub fact_is : (s : List ℕ) (b f at k : ℕ) (ts : List ℕ) → take k ts ≡ bytes_from s at k
    → decoded.fact_of (record { boolean = not (eqb (b % 2) 1); family = f; count = k; tuple = ts }) ≡ record { family = if_given (eqb (b % 2) 1) f; tuple = bytes_from s at k }
unfolding decoded.fact_of
fact_is s b f at k ts e = ap₂ (λ (t : Bool) (xs : List ℕ). record { family = if_given t f; tuple = xs }) (not-not (eqb (b % 2) 1)) e

-- the cut that the code keeps
pub cut_is : (m c t : ℕ) (e : Election) (d : Decisions) (n : Numbers) {ds : List paper.Decision} {ns : List ℕ} → decoded.decisions_of d ≡ ds → decoded.numbers_of n ≡ ns
    → decoded.cut_of (record { members = m; condition = c; citation = t; election = e; decisions = d; precedes = n })
    ≡ record { members = m; condition = c; citation = t; election = decoded.election_of e; decisions = ds; precedes = ns }
unfolding decoded.cut_of
cut_is m c t e d n a b = ap₂ (λ (x : List paper.Decision) (y : List ℕ). record { members = m; condition = c; citation = t; election = decoded.election_of e; decisions = x; precedes = y }) a b

-- a limit that is not passed
pub room-left : (limit n : ℕ) (over : Bool) → (leb limit n || over) ≡ false → n < limit
room-left limit n over e = pick (leb limit n) refl e
  where
    pick : (t : Bool) → leb limit n ≡ t → (t || over) ≡ false → n < limit
    pick true h q = absurd (mathlib.Core.Bool.true≢false q)
    pick false h q = leb-false limit n h
