-- Events written kind after kind, in front of those of kind 9.
use mathlib.Core.Path.{◌≡◌, refl, sym, ap, ap₂, ◌∙◌, subst}
use mathlib.Core.List.{List, [], ◌∷◌, ◌++◌, append_assoc, append-nil, flat_map}
use Prim.Native.Nat.{ℕ, zero, suc, ◌+◌, ◌-◌, ◌*◌, ◌≤◌}
use native.Mathlib.Nat.{zero-add}
use native.Mathlib.Omega.{arith}
use lib.ListN.{length, take, drop, take-append-drop, length-append, length-map}
use lib.Seq.{drop_at, length-take-le, drop-drop}
use Rattle.std.specs.List.{copy_within}
use Rattle.sets.specs.paper.Sets.{has, size, members, numbers}
use Rattle.sets.proofs.MemberLaws.{members-length}
use Rattle.records.specs.code.Decoded.{plan_of, case_of}
use Rattle.records.specs.declared.plan.Plan.{Plan}
use Rattle.records.specs.declared.case.Case.{Case}
use Rattle.expressions.specs.paper.Rules.{cut_count}
use Rattle.records.proofs.UsedLaws.{flat_append}
use Rattle.worlds.specs.code.Tables.{row}
use Rattle.worlds.specs.paper.Events.{listed}
use Rattle.worlds.proofs.FindLaws.{few-low}
use Rattle.report.specs.paper.EventList.{event_length}
use Rattle.report.specs.code.Happened.{frozen_over, applied_over, blocked_over, overlap_over, attachment_over, bar_over, status_over, default_over, discretion_over, happened}
use Rattle.report.specs.code.EventBytes.{Below, Writes, sizes}
use Rattle.report.specs.code.EventsWritten.{by_rules, event_count, RuleEvents, EventsWritten, AllWritten}
use Rattle.report.proofs.EventLaws.{event-length, listed-members, numbers-last, Long, long-map, long-both, writes_both, writes_long}

-- ---- how many events, each of `event_length` bytes

pub record Many (es : List (List ℕ)) (n : ℕ) : Type 0 where
  pub count : length es ≡ n
  pub each : Long es

many-both : {es fs : List (List ℕ)} {m n : ℕ} → Many es m → Many fs n → Many (es ++ fs) (m + n)
many-both {es} {fs} a b = record { count = length-append es fs ∙ ap₂ ◌+◌ a.count b.count; each = long-both a.each b.each }

many-listed : (f : ℕ → List ℕ) → ((i : ℕ) → length (f i) ≡ event_length) → (n m : ℕ) → n ≤ 64 → Below m n → Many (listed n (has m) f) (size m)
many-listed f h n m few b =
    subst (λ (es : List (List ℕ)). Many es (size m)) (listed-members f n m (few-low n m few b) b)
    (record { count = length-map (members m) f ∙ members-length m; each = long-map f h (members m) })

many_flat : (h : ℕ → List (List ℕ)) (sets : ℕ → ℕ) → ((c : ℕ) → Many (h c) (size (sets c))) → (n : ℕ) → Many (flat_map h (numbers n 0)) (sizes n sets)
unfolding flat_map numbers sizes
many_flat h sets m zero = record { count = refl; each = record { bytes = refl } }
many_flat h sets m (suc n) =
    subst (λ (es : List (List ℕ)). Many es (sizes n sets + size (sets n)))
    (sym (ap (flat_map h) (numbers-last n 0 ∙ ap (λ (x : ℕ). numbers n 0 ++ (x ∷ [])) (zero-add n)) ∙ flat_append h (numbers n 0) (n ∷ [])
    ∙ ap (λ (l : List (List ℕ)). flat_map h (numbers n 0) ++ l) (append-nil (h n))))
    (many-both (many_flat h sets m n) (m n))

-- ---- kind after kind

-- n events are written from the start on, and all behind them is as it was
pub record Upto (es : List (List ℕ)) (n : ℕ) (before after : List ℕ) (next : ℕ) : Type 0 where
  pub written : Writes 0 es before after next
  pub many : Many es n
  pub long : length after ≡ length before
  pub place : next ≡ event_length * n

upto_first : {es : List (List ℕ)} {n next : ℕ} {before after : List ℕ} → Many es n → event_length * n ≤ length before
    → Writes 0 es before after next → Upto es n before after next
upto_first m h w = record { written = w; many = m; long = writes_long m.each (omega (arith, m.count)) w; place = omega (arith, m.count, w.place) }

upto_more : {es fs : List (List ℕ)} {n k p q : ℕ} {before mid after : List ℕ} → Upto es n before mid p → Many fs k → event_length * (n + k) ≤ length before → Writes p fs mid after q
    → Upto (es ++ fs) (n + k) before after q
upto_more {es} {fs} {n} {k} {p} {q} {before} {mid} {after} u m h w = record {
  written = writes_both 0 p q es fs before mid after u.many.each (omega (arith, u.many.count)) u.written w;
  many = many-both u.many m;
  long = writes_long m.each (omega (arith, m.count, u.place, u.long)) w ∙ u.long;
  place = omega (arith, u.place, m.count, w.place);
}

module _ (plan : Plan) (c : Case) (sums noted : List (List ℕ)) (defaults : ℕ) (before : List ℕ) where
  module _ (r : RuleEvents plan c sums noted defaults (length before)) where
    many-frozen : Many (frozen_over (plan_of plan) (row sums 4 4)) (size (row sums 4 4))
    unfolding frozen_over
    many-frozen = many-listed _ (λ i. event-length 1 _ _ _ _) _ _ r.sound.edge_limit r.edges

    many-applied : Many (applied_over (plan_of plan) (case_of c) (row sums 4 5)) (size (row sums 4 5))
    unfolding applied_over
    many-applied = many-listed _ (λ i. event-length 2 _ _ _ _) _ _ (let l = r.sound.cut_limit in omega arith) r.cuts

    many-blocked : Many (blocked_over (plan_of plan) (case_of c) (row noted 1)) (sizes (cut_count (plan_of plan)) (row noted 1))
    unfolding blocked_over
    many-blocked = many_flat _ (row noted 1) (λ i. many-listed _ (λ j. event-length 3 _ _ _ _) _ _ r.sound.edge_limit (r.blocked i)) _

    many-clashed : Many (overlap_over (plan_of plan) (row noted 2)) (sizes (cut_count (plan_of plan)) (row noted 2))
    unfolding overlap_over
    many-clashed = many_flat _ (row noted 2) (λ i. many-listed _ (λ j. event-length 4 _ _ _ _) _ _ (let l = r.sound.cut_limit in omega arith) (r.clashed i)) _

    many-attached : Many (attachment_over (plan_of plan) (case_of c) (row sums 4 6)) (size (row sums 4 6))
    unfolding attachment_over
    many-attached = many-listed _ (λ i. event-length 5 _ _ _ _) _ _ (let l = r.sound.attachment_limit in omega arith) r.attachments

    many-barred : Many (bar_over (plan_of plan) (row sums 4 7)) (size (row sums 4 7))
    unfolding bar_over
    many-barred = many-listed _ (λ i. event-length 6 _ _ _ _) _ _ (let l = r.sound.bar_limit in omega arith) r.bars

    many-excluded : Many (status_over (plan_of plan) (row sums 4 8)) (size (row sums 4 8))
    unfolding status_over
    many-excluded = many-listed _ (λ i. event-length 7 _ _ _ _) _ _ (let l = r.sound.status_limit in omega arith) r.statuses

    many-defaulted : Many (default_over (plan_of plan) defaults) (size defaults)
    unfolding default_over
    many-defaulted = many-listed _ (λ i. event-length 8 _ _ _ _) _ _ r.sound.fact_limit r.facts

    -- HOW MANY THERE ARE BY RULE
    pub rules-many : Many (by_rules (plan_of plan) (case_of c) sums noted defaults) (event_count sums noted defaults (cut_count (plan_of plan)))
    unfolding by_rules happened discretion_over event_count flat_map
    rules-many =
        let none : Many [] 0 = record { count = refl; each = record { bytes = refl } } in
        let m =
        many-both many-frozen
        (many-both many-applied
        (many-both many-blocked
        (many-both many-clashed (many-both many-attached (many-both many-barred (many-both many-excluded (many-both many-defaulted none))))))) in
        record { count = let n = m.count in omega arith; each = m.each }

    -- the kinds as they are joined while they are written
    abbrev one_by_one : List (List ℕ)
    one_by_one =
        frozen_over (plan_of plan) (row sums 4 4) ++ applied_over (plan_of plan) (case_of c) (row sums 4 5) ++ blocked_over (plan_of plan) (case_of c) (row noted 1)
        ++ overlap_over (plan_of plan) (row noted 2) ++ attachment_over (plan_of plan) (case_of c) (row sums 4 6) ++ bar_over (plan_of plan) (row sums 4 7)
        ++ status_over (plan_of plan) (row sums 4 8) ++ default_over (plan_of plan) defaults

    -- WHAT IS WRITTEN OF ALL KINDS
    pub all_written : {after : List ℕ} {next : ℕ}
        → Upto one_by_one (size (row sums 4 4) + size (row sums 4 5) + sizes (cut_count (plan_of plan)) (row noted 1) + sizes (cut_count (plan_of plan)) (row noted 2)
        + size (row sums 4 6) + size (row sums 4 7) + size (row sums 4 8) + size defaults) before after next
        → EventsWritten (plan_of plan) (case_of c) sums noted defaults before after
    unfolding by_rules happened discretion_over event_count
    all_written {after} {next} u =
        let e : one_by_one ≡ by_rules (plan_of plan) (case_of c) sums noted defaults = simp (append_assoc, append-nil) in
        let l = ap length e in record {
          bytes = u.written.bytes ∙ ap₂ (λ (k : ℕ) (es : List (List ℕ)). flat_map (λ e. e) es ++ drop k before) (omega arith) e;
          count = let k = u.many.count in omega arith;
        }

    -- ALL KINDS ARE WRITTEN, one behind another
    pub each_written : {m₁ m₂ m₃ m₄ m₅ m₆ m₇ m₈ : List ℕ} {p₁ p₂ p₃ p₄ p₅ p₆ p₇ p₈ : ℕ}
        → Writes 0 (frozen_over (plan_of plan) (row sums 4 4)) before m₁ p₁
        → Writes p₁ (applied_over (plan_of plan) (case_of c) (row sums 4 5)) m₁ m₂ p₂
        → Writes p₂ (blocked_over (plan_of plan) (case_of c) (row noted 1)) m₂ m₃ p₃
        → Writes p₃ (overlap_over (plan_of plan) (row noted 2)) m₃ m₄ p₄
        → Writes p₄ (attachment_over (plan_of plan) (case_of c) (row sums 4 6)) m₄ m₅ p₅
        → Writes p₅ (bar_over (plan_of plan) (row sums 4 7)) m₅ m₆ p₆
        → Writes p₆ (status_over (plan_of plan) (row sums 4 8)) m₆ m₇ p₇
        → Writes p₇ (default_over (plan_of plan) defaults) m₇ m₈ p₈
        → EventsWritten (plan_of plan) (case_of c) sums noted defaults before m₈
    unfolding event_count
    each_written w₁ w₂ w₃ w₄ w₅ w₆ w₇ w₈ =
        let f = r.fit in
        let u₁ = upto_first many-frozen (omega arith) w₁ in
        let u₂ = upto_more u₁ many-applied (omega arith) w₂ in
        let u₃ = upto_more u₂ many-blocked (omega arith) w₃ in
        let u₄ = upto_more u₃ many-clashed (omega arith) w₄ in
        let u₅ = upto_more u₄ many-attached (omega arith) w₅ in
        let u₆ = upto_more u₅ many-barred (omega arith) w₆ in
        let u₇ = upto_more u₆ many-excluded (omega arith) w₇ in
        all_written (upto_more u₇ many-defaulted (omega arith) w₈)

-- ---- the others made room for

pub room_same : (plan : Plan) (c : Case) (sums noted : List (List ℕ)) (defaults : ℕ) {m n : ℕ} → n ≡ m → RuleEvents plan c sums noted defaults m → RuleEvents plan c sums noted defaults n
room_same plan c sums noted defaults e = subst (RuleEvents plan c sums noted defaults) (sym e)

-- where there are none, nothing moves
pub none_written : (plan : Plan) (c : Case) (sums noted : List (List ℕ)) (defaults count listed : ℕ) (before : List ℕ) → RuleEvents plan c sums noted defaults (length before) → count ≡ 0
    → AllWritten (plan_of plan) (case_of c) sums noted defaults count listed before before
unfolding flat_map
none_written plan c sums noted defaults count listed before r z = record {
  bytes = λ e.
      let es = by_rules (plan_of plan) (case_of c) sums noted defaults in
      let k : length es ≡ 0 = (rules-many plan c sums noted defaults before r).count ∙ sym e ∙ z in
      sym (take-append-drop (event_length * listed) before)
      ∙ ap₂ (λ (xs : List (List ℕ)) (j : ℕ). flat_map (λ e. e) xs ++ (take (event_length * listed) before ++ drop j before)) (sym (length_none es k))
      (let y : event_length * listed ≡ event_length * (count + listed) = omega arith in y);
}
  where
    length_none : {A : Type 0} (xs : List A) → length xs ≡ 0 → xs ≡ []
    length_none [] k = refl
    length_none (x ∷ xs) k = absurd (omega arith)

-- the others stand behind the events, and what lay behind all stays
pub behind_all : (plan : Plan) (c : Case) (sums noted : List (List ℕ)) (defaults count listed : ℕ) (before mid after : List ℕ)
    → take (listed * event_length) (drop (count * event_length) mid) ≡ take (listed * event_length) before
    → drop (listed * event_length + count * event_length) mid ≡ drop (listed * event_length + count * event_length) before
    → EventsWritten (plan_of plan) (case_of c) sums noted defaults mid after → AllWritten (plan_of plan) (case_of c) sums noted defaults count listed before after
behind_all plan c sums noted defaults count listed before mid after moved behind w = record {
  bytes = λ e.
      let es = by_rules (plan_of plan) (case_of c) sums noted defaults in
      let k : event_length * length es ≡ count * event_length = omega (arith, w.count) in
      w.bytes ∙ ap (λ (l : List ℕ). flat_map (λ e. e) es ++ l)
      (ap (λ (j : ℕ). drop j mid) k ∙ sym (take-append-drop (listed * event_length) (drop (count * event_length) mid))
      ∙ ap₂ (λ (x y : List ℕ). x ++ y)
      (moved ∙ ap (λ (j : ℕ). take j before) (let z : listed * event_length ≡ event_length * listed = omega arith in z))
      (drop-drop (listed * event_length) (count * event_length) mid
      ∙ ap (λ (j : ℕ). drop j mid) (let z : count * event_length + listed * event_length ≡ listed * event_length + count * event_length = omega arith in z) ∙ behind
      ∙ ap (λ (j : ℕ). drop j before) (let z : listed * event_length + count * event_length ≡ event_length * (count + listed) = omega arith in z)));
}

-- where the buffer was copied up
pub behind_copied : (plan : Plan) (c : Case) (sums noted : List (List ℕ)) (defaults count listed : ℕ) (before mid after : List ℕ)
    → event_length * (count + listed) ≤ length before → mid ≡ copy_within before 0 (listed * event_length) (count * event_length)
    → EventsWritten (plan_of plan) (case_of c) sums noted defaults mid after → AllWritten (plan_of plan) (case_of c) sums noted defaults count listed before after
behind_copied plan c sums noted defaults count listed before mid after room s w = record {
  bytes = λ e.
      let es = by_rules (plan_of plan) (case_of c) sums noted defaults in
      let by = count * event_length in
      let n = listed * event_length in
      let k : event_length * length es ≡ by = omega (arith, w.count) in
      w.bytes ∙ ap (λ (l : List ℕ). flat_map (λ e. e) es ++ l)
      (ap₂ drop k
      (s ∙ ap (λ (i : ℕ). take by before ++ take i before ++ drop (by + i) before) (let z : n - 0 ≡ n = omega arith in z)
      ∙ append_assoc (take by before) (take n before) (drop (by + n) before))
      ∙ drop_at (take by before) (take n before ++ drop (by + n) before) by (length-take-le by before (omega arith))
      ∙ ap₂ (λ (i j : ℕ). take i before ++ drop j before) (let z : n ≡ event_length * listed = omega arith in z)
      (let z : by + n ≡ event_length * (count + listed) = omega arith in z));
}
