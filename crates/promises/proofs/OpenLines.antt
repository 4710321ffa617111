-- The open fields in the lines of an answered case: kinds 1 to 4 name the variable facts and the decisions whose influence holds the person, and no
-- other line names any.
use mathlib.Core.Path.{◌≡◌, refl, sym, ap, ◌∙◌, subst}
use mathlib.Core.Bool.{Bool, true, false, not, cond, ◌&&◌}
use mathlib.Core.List.{List, [], ◌∷◌, map}
use mathlib.Core.Logic.{◌⊎◌, inl, inr, ⊎_elim, ◌↔◌}
use Prim.Native.Nat.{ℕ, ◌≤◌, ◌<◌, ◌^◌}
use native.Mathlib.Nat.{le_trans}
use native.Mathlib.Omega.{arith}
use lib.ListN.{length, get_or}
use lib.Dec.{eqb, ltb}
use lib.Pow.{pow_pos}
use borrow.Author.Tests.{eqb-false, ltb-true, lt-ltb}
use Rattle.sets.specs.paper.Sets.{has, size, members, below, close_of, all_of, union_of, All}
use Rattle.sets.proofs.SetLaws.{and_parts, lt_or_le}
use Rattle.sets.proofs.MaskLaws.{built_has}
use Rattle.sets.proofs.LoopLaws.{length-below, get_or-below}
use Rattle.sets.proofs.BelowLaws.{of_only}
use Rattle.records.specs.paper.Fields.{fine}
use Rattle.records.specs.paper.Plan.{Plan, checked_plan}
use Rattle.records.specs.paper.Case.{Case, read_case, case_heading}
use Rattle.records.specs.promises.Sound.{Sound}
use Rattle.records.proofs.Accepted.{accepted}
use Rattle.expressions.specs.paper.Rules.{fact_count, rule_sets}
use Rattle.expressions.specs.paper.Influence.{Frame, touch, decision_count}
use Rattle.expressions.specs.paper.Bindings.{Bound, unbound, binding_at, binding_of, bindings, frame_of}
use Rattle.expressions.specs.paper.Variables.{Influence, is_variable, fact_influence, decision_influence, influence, worlds}
use Rattle.expressions.proofs.OpenLaws.{open_few}
use Rattle.worlds.specs.paper.Active.{active}
use Rattle.worlds.specs.paper.World.{world_of}
use Rattle.worlds.specs.paper.View.{View}
use Rattle.report.specs.paper.Line.{Line, line_bytes, bare_line, first_kind, holding, line_by, line_over}
use Rattle.report.specs.paper.LineAt.{line_at, decoded}
use Rattle.report.specs.paper.Operations.{told, answer}
use Rattle.report.proofs.Answered.{views_of, line_of, line_for}
use Rattle.report.proofs.WriteLaws.{holding_lt}
use Rattle.promises.specs.Partitioned.{person_at, kind_at}
use Rattle.promises.specs.OpenNamed.{facts_at, decisions_at, Undecided, OpenFact, OpenDecision, OpenNamed}
use Rattle.promises.proofs.LineBytes.{facts_back, decisions_back}
use Rattle.promises.proofs.LineRanges.{SeenRange, views_range, first-most}
use Rattle.promises.proofs.Privacy.{line-bytes}
use Rattle.promises.proofs.Places.{line_names}
use Rattle.promises.proofs.Blocks.{answered_partition}

-- ---- the numbers whose sets hold the person

has-holding : (n : ℕ) (sets : ℕ → ℕ) (p i : ℕ) → (has (holding (below n sets) p) i ≡ true) ↔ ((i < n) × (has (sets i) p ≡ true))
unfolding holding
has-holding n sets p i = (there, back)
  where
    ss : List ℕ
    ss = below n sets

    bit : has (holding ss p) i ≡ (ltb i (length ss) && has (get_or ss i 0) p)
    bit = built_has (λ j. has (get_or ss j 0) p) (length ss) i

    there : has (holding ss p) i ≡ true → (i < n) × (has (sets i) p ≡ true)
    there h =
        let t = and_parts (ltb i (length ss)) (has (get_or ss i 0) p) (sym bit ∙ h) in
        let l = subst (λ (k : ℕ). i < k) (length-below n sets) (ltb-true i (length ss) t.0) in
        (l, sym (ap (λ (s : ℕ). has s p) (get_or-below n sets 0 i l)) ∙ t.1)

    back : (i < n) × (has (sets i) p ≡ true) → has (holding ss p) i ≡ true
    back h =
        bit ∙ ap (λ (b : Bool). b && has (get_or ss i 0) p) (lt-ltb i (length ss) (subst (λ (k : ℕ). i < k) (sym (length-below n sets)) h.0))
        ∙ ap (λ (s : ℕ). has s p) (get_or-below n sets 0 i h.0) ∙ h.1

-- ---- the open fields of a line, by its kind

undecided : (k : ℕ) → Undecided k ⊎ (Undecided k → ⊥)
undecided k =
    ⊎_elim (λ l. inr (λ u. let h = u.0 in omega arith))
    (λ l. ⊎_elim (λ m. inl (l, omega arith)) (λ m. inr (λ u. let h = u.1 in omega arith)) (lt_or_le k 5)) (lt_or_le k 1)

record Opens (I : Influence) (p : ℕ) (l : Line) : Type 0 where
  facts : Undecided l.kind → l.open_facts ≡ holding I.facts p
  decisions : Undecided l.kind → l.open_decisions ≡ holding I.decisions p
  none : (Undecided l.kind → ⊥) → (l.open_facts ≡ 0) × (l.open_decisions ≡ 0)

module _ (I : Influence) (p : ℕ) where
  by_opens : (stands roles : Bool) (v : View) (k c : ℕ) → k ≤ 4 → Opens I p (line_by I p stands roles v k c)
  by_opens true true v k c l =
      record { facts = λ u. let h = u.0 in absurd (omega arith); decisions = λ u. let h = u.0 in absurd (omega arith); none = λ n. (refl, refl) }
  by_opens true false v k c l = record { facts = λ u. refl; decisions = λ u. refl; none = λ n. absurd (n (omega arith, omega arith)) }
  by_opens false roles v k c l = record { facts = λ u. refl; decisions = λ u. refl; none = λ n. absurd (n (pick (eqb k 0) refl)) }
    where
      pick : (b : Bool) → eqb k 0 ≡ b → Undecided (cond b 1 k)
      pick true e = (omega arith, omega arith)
      pick false e = let h = eqb-false k 0 e in (⊎_elim (λ m. absurd (h (omega arith))) (λ m. m) (lt_or_le k 1), l)

  -- a line without worlds, or of an incomplete roster
  bare_opens : (kind : ℕ) → 5 ≤ kind → Opens I p (bare_line kind p)
  bare_opens kind l =
      record { facts = λ u. let h = u.1 in absurd (omega arith); decisions = λ u. let h = u.1 in absurd (omega arith); none = λ n. (refl, refl) }

  over-opens : (vs : List View) → All SeenRange vs → Opens I p (line_over I p vs)
  unfolding line_over
  over-opens [] h = bare_opens 6 (omega arith)
  over-opens (v ∷ vs) h =
      by_opens (not (eqb v.block 0) && all_of (λ u. eqb u.block v.block) vs) (all_of (λ u. eqb u.role v.role) vs) v (first_kind (v ∷ vs))
      (union_of (λ u. u.citations) (v ∷ vs)) (first-most (v ∷ vs) h)

module _ (P : Plan) (C : Case) where
  abbrev F : Frame
  F = frame_of P C

  abbrev bs : List Bound
  bs = bindings P C

  line-opens : (p : ℕ) → Opens (influence F bs) p (line_for P C p)
  unfolding line_for line_of
  line-opens p = pick (eqb (length (case_heading C).complete) 0)
    where
      pick : (b : Bool) → Opens (influence F bs) p (cond b (bare_line 5 p) (line_of F bs p))
      pick true = bare_opens (influence F bs) p 5 (omega arith)
      pick false =
          over-opens (influence F bs) p (views_of F bs (worlds F bs) p)
          (views_range P (map (λ v. world_of P F.roster (influence F bs) (active P v)) (worlds F bs)) p)

  -- they fit their bytes
  fits : Sound P → (p : ℕ) → ((line_for P C p).open_facts < 2 ^ 64) × ((line_for P C p).open_decisions < 2 ^ 16)
  unfolding influence
  fits S p =
      let o = line-opens p in
      ⊎_elim (λ u. (subst (λ (m : ℕ). m < 2 ^ 64) (sym (o.facts u)) facts, subst (λ (m : ℕ). m < 2 ^ 16) (sym (o.decisions u)) decisions))
      (λ n. (subst (λ (m : ℕ). m < 2 ^ 64) (sym (o.none n).0) (pow_pos 64), subst (λ (m : ℕ). m < 2 ^ 16) (sym (o.none n).1) (pow_pos 16)))
      (undecided (line_for P C p).kind)
    where
      facts : holding (influence F bs).facts p < 2 ^ 64
      facts = holding_lt _ p 64 (subst (λ (n : ℕ). n ≤ 64) (sym (length-below (fact_count P) (fact_influence F bs))) S.fact_limit)

      decisions : holding (influence F bs).decisions p < 2 ^ 16
      decisions =
          holding_lt _ p 16 (subst (λ (n : ℕ). n ≤ 16) (sym (length-below (decision_count P) (decision_influence F))) (le_trans (open_few P) S.decision_limit))

  -- ---- a bit that stands names what is open

  fact-named : (p f : ℕ) → (has (holding (influence F bs).facts p) f ≡ true) ↔ OpenFact P C p f
  unfolding influence fact_influence bindings
  fact-named p f = (λ h. there ((has-holding (fact_count P) (fact_influence F bs) p f).0 h), λ o. (has-holding (fact_count P) (fact_influence F bs) p f).1 (o.fact, o.influence))
    where
      own : f < fact_count P → binding_at bs f ≡ binding_of P C f
      own l = get_or-below (fact_count P) (binding_of P C) unbound f l

      varies : has (fact_influence F bs f) p ≡ true → is_variable (binding_at bs f) ≡ true
      varies h = (of_only (is_variable (binding_at bs f)) (close_of (rule_sets P) (touch F f)) p h).0

      there : (f < fact_count P) × (has (fact_influence F bs f) p ≡ true) → OpenFact P C p f
      there h = record { fact = h.0; variable = sym (ap is_variable (own h.0)) ∙ varies h.1; influence = h.1 }

  decision-named : (p d : ℕ) → (has (holding (influence F bs).decisions p) d ≡ true) ↔ OpenDecision P C p d
  unfolding influence
  decision-named p d = (
    λ h. let t = (has-holding (decision_count P) (decision_influence F) p d).0 h in record { decision = t.0; influence = t.1 },
    λ o. (has-holding (decision_count P) (decision_influence F) p d).1 (o.decision, o.influence),
  )

-- ---- THE LINES OF AN ANSWERED CASE

module _ (plan case : List ℕ) (l e : ℕ) (P : Plan) (C : Case) (checked : checked_plan plan ≡ fine P) (read : read_case P case ≡ fine C)
    (answered : (told (answer plan case l e).answer).refusal ≡ 0) where
  abbrev s : List ℕ
  s = (answer plan case l e).lines

  abbrev n : ℕ
  n = (told (answer plan case l e).answer).lines

  -- line k is person p's
  record Reads (k p : ℕ) : Type 0 where
    person : p ≡ person_at s k
    kind : kind_at s k ≡ (line_for P C p).kind
    facts : facts_at s k ≡ (line_for P C p).open_facts
    decisions : decisions_at s k ≡ (line_for P C p).open_decisions

  reads : (k : ℕ) → k < n → Reads k (get_or (members (case_heading C).roster) k 64)
  unfolding kind_at facts_at decisions_at decoded line_bytes
  reads k h = record {
    person = sym (line_names plan case l e P C checked read answered k low);
    kind = ap (λ (b : List ℕ). (decoded b).kind) bytes ∙ kind_back;
    facts = ap (λ (b : List ℕ). (decoded b).open_facts) bytes ∙ facts_back line (fits P C (accepted plan P checked) p).0;
    decisions = ap (λ (b : List ℕ). (decoded b).open_decisions) bytes ∙ decisions_back line (fits P C (accepted plan P checked) p).1;
  }
    where
      p : ℕ
      p = get_or (members (case_heading C).roster) k 64

      line : Line
      line = line_for P C p

      low : k < size (case_heading C).roster
      low = subst (λ (m : ℕ). k < m) (answered_partition plan case l e answered P C checked read).count h

      bytes : line_at s k ≡ line_bytes line
      bytes = line-bytes plan case l e P C checked read answered k low

      kind_back : (decoded (line_bytes line)).kind ≡ line.kind
      kind_back = refl

  -- what holds of a set of numbers by the person holds of the line's
  by_line : (Open : ℕ → ℕ → Type 0) (k p i m wanted : ℕ) → p ≡ person_at s k → m ≡ wanted → (has wanted i ≡ true) ↔ Open p i
      → (has m i ≡ true) ↔ Open (person_at s k) i
  by_line Open k p i m wanted named same h = (
    λ b. subst (λ (q : ℕ). Open q i) named (h.0 (sym (ap (λ (x : ℕ). has x i) same) ∙ b)),
    λ o. ap (λ (x : ℕ). has x i) same ∙ h.1 (subst (λ (q : ℕ). Open q i) (sym named) o),
  )

  pub open_named : OpenNamed P C (answer plan case l e).lines (told (answer plan case l e).answer).lines
  open_named = record {
    facts = λ k h u f.
        let r = reads k h in
        let o = line-opens P C (at k) in
        by_line (OpenFact P C) k (at k) f (facts_at s k) _ r.person (r.facts ∙ o.facts (subst Undecided r.kind u)) (fact-named P C (at k) f);
    decisions = λ k h u d.
        let r = reads k h in
        let o = line-opens P C (at k) in
        by_line (OpenDecision P C) k (at k) d (decisions_at s k) _ r.person (r.decisions ∙ o.decisions (subst Undecided r.kind u)) (decision-named P C (at k) d);
    none = λ k h u.
        let r = reads k h in
        let o = (line-opens P C (at k)).none (λ v. u (subst Undecided (sym r.kind) v)) in
        (r.facts ∙ o.0, r.decisions ∙ o.1);
  }
    where
      at : ℕ → ℕ
      at k = get_or (members (case_heading C).roster) k 64
