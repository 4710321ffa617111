-- A case that is ready: the tables stand for it, the worlds looked at are document 01's, and what is kept of them is what the end of an operation asks for.
use mathlib.Core.Path.{◌≡◌, refl, sym, ap, ap₂, ◌∙◌, subst}
use mathlib.Core.Bool.{Bool, true, false, ◌&&◌, ◌||◌, not, cond, false≢true}
use mathlib.Core.List.{List, [], ◌∷◌, ◌++◌, map}
use Prim.Native.Nat.{ℕ, zero, suc, ◌+◌, ◌*◌, ◌^◌, ◌<◌, ◌≤◌}
use native.Mathlib.Nat.{le_trans}
use native.Mathlib.Omega.{arith}
use lib.ListN.{length, get_or, take, drop, replicate, length-map, length-append}
use lib.Seq.{take_at, drop_at}
use lib.Dec.{leb, ltb, eqb}
use borrow.Author.Tests.{ltb-true, lt-ltb, eqb-false}
use Rattle.sets.specs.paper.Sets.{has, any_of, subset, size, All}
use Rattle.records.specs.paper.Plan as paper
use Rattle.records.specs.paper.Case as paper-case
use Rattle.records.specs.code.Decoded.{plan_of, case_of, case_heading_of, facts_of}
use Rattle.records.specs.declared.plan.Plan.{Plan}
use Rattle.records.specs.declared.case.Case.{Case}
use Rattle.sets.proofs.SetLaws.{and_parts, has-none}
use Rattle.sets.proofs.LoopLaws.{all_at, length-below}
use Rattle.sets.proofs.BelowLaws.{flag-set}
use Rattle.expressions.specs.paper.Rules.{fact_count, edge_count, cut_count, attachment_count, bar_count, status_count, edge, rule_persons}
use Rattle.expressions.specs.paper.Nodes.{on}
use Rattle.expressions.specs.paper.Influence.{Frame, open_decisions, decision_count}
use Rattle.expressions.specs.declared.bindings.Bound as code-bound
use Rattle.expressions.specs.paper.Bindings.{Bound, bindings, binding_of, frame_of, took_default, took_default_by}
use Rattle.expressions.specs.paper.Variables as variables
use Rattle.expressions.specs.paper.Variables.{Values, slots_by, slots, worlds, booleans_among, boolean_count, is_variable, fact_influence, decision_influence, influence}
use Rattle.expressions.specs.code.Coded.{frame_by}
use Rattle.expressions.specs.code.Slots.{slot_of, slots_of}
use Rattle.expressions.specs.code.Reached.{Reached}
use Rattle.expressions.specs.code.Influences.{sets_of, influence_by}
use Rattle.expressions.specs.declared.influence.Influence.{Influence}
use Rattle.expressions.specs.declared.reach.Reach.{Reach}
use Rattle.expressions.specs.declared.slots.Slots.{Slots}
use Rattle.expressions.proofs.ListLaws.{filled_at}
use Rattle.expressions.proofs.SlotLaws.{variable_from, order_of}
use Rattle.expressions.proofs.CountLaws.{boolean_few}
use Rattle.expressions.proofs.OpenLaws.{opens-number}
use Rattle.expressions.proofs.FactLaws.{default_by}
use Rattle.expressions.proofs.ReachLaws.{frame_of_lem, heading_of, influence-list}
use Rattle.worlds.specs.paper.Active.{active, flags}
use Rattle.worlds.specs.paper.World.{World, world_of, after_marks, kept_cuts, applied_cuts, standing, blocked_by, bar_holds}
use Rattle.worlds.specs.paper.Events.{blocks, least_of_merged, overlaps}
use Rattle.worlds.specs.code.Tables.{row, Stands}
use Rattle.worlds.specs.code.Made.{CommonFor, Ready, Made}
use Rattle.worlds.specs.declared.tables.Common.{Common}
use Rattle.worlds.proofs.AttachLaws.{moved_is}
use Rattle.report.specs.code.EventBytes.{Below}
use Rattle.report.specs.code.Kept.{Kept}
use Rattle.report.specs.code.Walked.{world_at, wanted}
use Rattle.report.specs.code.Free.{FreeList}
use Rattle.report.specs.paper.Operations.{relation_of, mismatched, heading_fault, influences, all_worlds, answer_ready, show_from}
use Rattle.report.specs.paper.Line.{line_length}
use Rattle.report.specs.code.Parted.{span_of}
use Rattle.report.specs.code.Classes.{Spans}
use Rattle.report.specs.code.Run.{Started, Runs}
use Rattle.report.specs.code.Finish.{Ends, Placed, ended, Finishes}
use Rattle.expressions.specs.code.Told.{Defaulted}
use Rattle.report.specs.code.Ready.{Concerns, IsReady, ready_outcome, AnswersReady}
use Rattle.report.specs.declared.Answer.{Answer}
use Rattle.report.specs.declared.finish.Opens.{Opens}
use Rattle.report.specs.declared.nine.Listing.{Listing}
use Rattle.report.specs.declared.run.Wanted.{Wanted}
use Rattle.report.specs.declared.walk.Walked.{Walked}
use Rattle.report.proofs.FreeLaws.{order_small, few_free}
use Rattle.report.proofs.FinishLaws.{worlds-placed}
use Rattle.report.proofs.WalkLaws.{wanted_all, wanted-one}

-- ---- nothing but zeros

pub rows-clean : (m n i j : ℕ) → row (replicate m (replicate n 0)) i j ≡ 0
rows-clean zero n i j = refl
rows-clean (suc m) n zero j = filled_at n j 0
rows-clean (suc m) n (suc i) j = rows-clean m n i j

-- ---- refusal 9 keeps somebody on the roster

pub somebody : (P : paper.Plan) (h : paper-case.CaseHeading) (room : ℕ) → heading_fault P h room ≡ 0 → h.roster ≡ 0 → ⊥
unfolding heading_fault mismatched
somebody P h room e z =
    eqb-false h.roster 0
    (last (not (eqb h.relation (relation_of P))) (eqb h.scope 0) (eqb h.segment 0) (eqb h.roster 0) (not (subset (rule_persons P) h.roster))
    (pick h.segment_complete (mismatched P h) (ltb room (line_length * size h.roster)) e)) z
  where
    pick : (a b c : Bool) → ◌≡◌ {A = ℕ} (cond a (cond b 9 (cond c 12 0)) 8) 0 → b ≡ false
    pick true true c e = absurd (omega arith)
    pick true false c e = refl
    pick false b c e = absurd (omega arith)

    last : (a b c d s : Bool) → (a || (b || (c || (d || s)))) ≡ false → d ≡ false
    last true b c d s e = absurd (false≢true (sym e))
    last false true c d s e = absurd (false≢true (sym e))
    last false false true d s e = absurd (false≢true (sym e))
    last false false false true s e = absurd (false≢true (sym e))
    last false false false false s e = refl

-- ---- the rules that a world shows have numbers below their counts

module _ {A B Q : Type 0} (f : A → B) (test : B → Bool) (h : (x : A) → test (f x) ≡ true → Q) where
  some-made : (xs : List A) → any_of test (map f xs) ≡ true → Q
  unfolding any_of
  some-made [] e = absurd (false≢true e)
  some-made (x ∷ xs) e = pick (test (f x)) refl (some-made xs) e
    where
      pick : (b : Bool) → test (f x) ≡ b → (any_of test (map f xs) ≡ true → Q) → (b || any_of test (map f xs)) ≡ true → Q
      pick true t rest e = h x t
      pick false t rest e = rest e

module _ (P : paper.Plan) (roster : ℕ) (I : variables.Influence) where
  abbrev world_by : Values → World
  world_by v = world_of P roster I (active P v)

  frozen-below : (v : Values) (e : ℕ) → on (world_by v).active.frozen e ≡ true → e < edge_count P
  unfolding world_of after_marks active flags
  frozen-below v e h = (flag-set (edge_count P) _ e h).0

  kept-below : (v : Values) (c : ℕ) → on (world_by v).kept c ≡ true → c < cut_count P
  unfolding world_of after_marks kept_cuts
  kept-below v c h = (flag-set (cut_count P) _ c h).0

  applied-below : (v : Values) (c : ℕ) → on (world_by v).applied c ≡ true → c < cut_count P
  unfolding world_of after_marks applied_cuts
  applied-below v c h = (flag-set (cut_count P) _ c h).0

  bars-below : (v : Values) (i : ℕ) → on (world_by v).active.bars i ≡ true → i < bar_count P
  unfolding world_of after_marks active flags
  bars-below v i h = (flag-set (bar_count P) _ i h).0

  statuses-below : (v : Values) (i : ℕ) → on (world_by v).active.statuses i ≡ true → i < status_count P
  unfolding world_of after_marks active flags
  statuses-below v i h = (flag-set (status_count P) _ i h).0

  blocking_below : (v : Values) (c e : ℕ) → blocked_by P (world_by v).active c e ≡ true → e < edge_count P
  unfolding blocked_by
  blocking_below v c e h = frozen-below v e (and_parts (on (world_by v).active.frozen e) (edge P e).combination (and_parts _ _ h).0).0

  blocked-below : (v : Values) (c e : ℕ) → blocks P (world_by v) c e ≡ true → e < edge_count P
  unfolding blocks
  blocked-below v c e h = blocking_below v c e (and_parts (standing (world_by v).kept (world_by v).overlapping c) (blocked_by P (world_by v).active c e) h).1

  clashed-below : (v : Values) (c d : ℕ) → overlaps P (world_by v) c d ≡ true → d < cut_count P
  unfolding overlaps least_of_merged
  clashed-below v c d h =
      kept-below v d (and_parts (on (world_by v).kept d) _ (and_parts (least_of_merged P (world_by v) c) (least_of_merged P (world_by v) d) (and_parts _ _ h).0).1).0

attached-below : (P : paper.Plan) (v : Values) (i : ℕ) → on (active P v).attachments i ≡ true → i < attachment_count P
unfolding active flags
attached-below P v i h = (flag-set (attachment_count P) _ i h).0

moved-below : (P : paper.Plan) (I : variables.Influence) (k : Common) (t : List (List ℕ)) → Stands P I k t
    → (v : Values) (i : ℕ) → has (world_of P k.roster I (active P v)).state.moved i ≡ true → i < attachment_count P
moved-below P I k t S v i h = attached-below P v i (and_parts (on (active P v).attachments i) _ (sym (moved_is P I k t (active P v) S (attached-below P v) i) ∙ h)).0

-- ---- the wanted worlds, and the one that is shown

made-drop : {A B : Type 0} (f : A → B) (n : ℕ) (xs : List A) → map f (drop n xs) ≡ drop n (map f xs)
made-drop f zero xs = refl
made-drop f (suc n) [] = refl
made-drop f (suc n) (x ∷ xs) = made-drop f n xs

made-first : {A B : Type 0} (f : A → B) (xs : List A) → map f (take 1 xs) ≡ take 1 (map f xs)
made-first f [] = refl
made-first f (x ∷ xs) = refl

show-first : (line_room event_room : ℕ) (P : paper.Plan) (C : paper-case.Case) (bs : List Bound) (n : ℕ) (ws : List World)
    → show_from line_room event_room P C bs n (take 1 ws) ≡ show_from line_room event_room P C bs n ws
unfolding show_from
show-first line_room event_room P C bs n [] = refl
show-first line_room event_room P C bs n (w ∷ ws) = refl

one_taken : {A : Type 0} (xs : List A) → length (take 1 xs) ≤ 1
one_taken [] = omega arith
one_taken (x ∷ xs) = omega arith

-- ---- what is kept of worlds, and where it ends

module _ (P : paper.Plan) (I : variables.Influence) (k : Common) (t : List (List ℕ)) (S : Stands P I k t) (vs : List Values) {sums noted : List (List ℕ)} {l : Listing} {events : List ℕ}
    (kept : Kept P k.roster (map (λ v. world_of P k.roster I (active P v)) vs) sums noted l events) where
  some : {Q : Type 0} (test : World → Bool) → ((v : Values) → test (world_of P k.roster I (active P v)) ≡ true → Q)
      → any_of test (map (λ v. world_of P k.roster I (active P v)) vs) ≡ true → Q
  some test h e = some-made (λ v. world_of P k.roster I (active P v)) test h vs e

  pub frozen-ends : Below (row sums 4 4) (edge_count P)
  frozen-ends e h = some (λ w. on w.active.frozen e) (λ v. frozen-below P k.roster I v e) (sym (kept.frozen e) ∙ h)

  pub applied-ends : Below (row sums 4 5) (cut_count P)
  applied-ends c h = some (λ w. on w.applied c) (λ v. applied-below P k.roster I v c) (sym (kept.applied c) ∙ h)

  pub moved_ends : Below (row sums 4 6) (attachment_count P)
  moved_ends i h = some (λ w. has w.state.moved i) (λ v. moved-below P I k t S v i) (sym (kept.moved i) ∙ h)

  pub barring-ends : Below (row sums 4 7) (bar_count P)
  barring-ends i h =
      some (λ w. bar_holds P w.active w.state.attached i) (λ v e. bars-below P k.roster I v i (and_parts (on (world_by P k.roster I v).active.bars i) _ e).0) (sym (kept.barring i) ∙ h)

  pub excluding-ends : Below (row sums 4 8) (status_count P)
  excluding-ends i h = some (λ w. on w.active.statuses i) (λ v. statuses-below P k.roster I v i) (sym (kept.excluding i) ∙ h)

  pub blocked-ends : (c : ℕ) → Below (row noted 1 c) (edge_count P)
  blocked-ends c e h = some (λ w. blocks P w c e) (λ v. blocked-below P k.roster I v c e) (sym (kept.blocked c e) ∙ h)

  pub clashed-ends : (c : ℕ) → Below (row noted 2 c) (cut_count P)
  clashed-ends c d h = some (λ w. overlaps P w c d) (λ v. clashed-below P k.roster I v c d) (sym (kept.clashed c d) ∙ h)

-- ---- a case that is ready

module _ {plan : Plan} {c : Case} {reach : Reach} {given : code-bound.Bound} {uses lines events : List ℕ} (h : IsReady plan c reach given uses lines events) where
  abbrev codes : List ℕ
  codes = given.codes

  abbrev P : paper.Plan
  P = plan_of plan

  abbrev C : paper-case.Case
  C = case_of c

  abbrev bs : List Bound
  bs = bindings P C

  abbrev F : Frame
  F = frame_of P C

  framed : frame_by plan c.heading.roster c.constraints ≡ F
  framed = frame_of_lem plan c h.sane.heading

  roster_is : (paper-case.case_heading C).roster ≡ c.heading.roster
  unfolding case_heading_of
  roster_is = ap (λ (x : paper-case.CaseHeading). x.roster) (heading_of c h.sane.heading)

  over : Reached F reach
  over = subst (λ (G : Frame). Reached G reach) framed h.reached

  pub tables_ready : Ready plan reach.undecided reach.groups
  tables_ready = record { sound = h.sound; opens = over.opens; sixteen = over.sixteen; sets = over.groups }

  pub facts-few : reach.count ≤ 64
  facts-few = over.few

  pub decisions-few : reach.undecided.count ≤ 16
  decisions-few = over.sixteen

  decisions_are : reach.undecided.count ≡ decision_count P
  decisions_are = opens-number reach.undecided (open_decisions P) over.opens

  module _ {booleans : ℕ} (b : booleans ≡ booleans_among (facts_of plan.facts)) where
    booleans_are : booleans ≡ boolean_count P
    unfolding boolean_count plan_of
    booleans_are = b

    pub booleans-fit : booleans ≤ reach.count
    booleans-fit = let a = booleans_are in let n = over.count in let f = boolean_few P in omega (arith, a, n, f)

    module _ (order : Slots) (o : slots_of order ≡ slots_by booleans reach.undecided.count reach.count) where
      abbrev numbers : List ℕ
      numbers = take order.count order.items

      pub order_is : map slot_of numbers ≡ slots P
      unfolding slots_of
      order_is =
          o ∙ ap (λ (n : ℕ). slots_by n reach.undecided.count reach.count) booleans_are
          ∙ ap (λ (n : ℕ). slots_by (boolean_count P) n reach.count) decisions_are
          ∙ ap (λ (n : ℕ). slots_by (boolean_count P) (decision_count P) n) over.count ∙ sym (order_of P)

      pub order-fits : All (λ v. v < 80) (take order.count order.items)
      unfolding slots_of
      order-fits = order_small booleans reach.undecided.count reach.count over.sixteen numbers o

  -- ---- the influence

  module _ (variables : ℕ) (varied : (f : ℕ) → f < 64 → has variables f ≡ leb 3 (get_or codes f 0)) (i : Influence) (sets : sets_of i ≡ influence_by reach variables) where
    pub sets_are : sets_of i ≡ (influences P C bs).facts ++ (influences P C bs).decisions
    unfolding influences
    sets_are =
        sets ∙ influence-list F reach over bs variables (λ f l.
        varied f (le_trans l h.sound.fact_limit) ∙ sym (variable_from (get_or codes f 0)) ∙ ap is_variable (h.bound f))

    pub stands : {k : Common} {t : List (List ℕ)} → Made plan i c.heading.roster t → CommonFor plan c.heading.roster k → Stands P (influences P C bs) k t
    stands {k} {t} m f = m.stands (influences P C bs) k (sym sets_are) f h.named

  facts-long : length (influences P C bs).facts ≡ reach.count
  unfolding influences influence
  facts-long = length-below (fact_count P) (fact_influence F bs) ∙ sym over.count

  decisions-long : length (influences P C bs).decisions ≡ reach.undecided.count
  unfolding influences influence
  decisions-long = length-below (decision_count P) (decision_influence F) ∙ sym decisions_are

  -- the spans of the free variables
  pub spans_told : (i : Influence) → sets_of i ≡ (influences P C bs).facts ++ (influences P C bs).decisions → {free spans : List ℕ} {n : ℕ} → Spans i.sets i.count reach.count free n spans
      → (k : ℕ) → k < n → get_or spans k 0 ≡ span_of (influences P C bs) (get_or free k 0)
  unfolding sets_of
  spans_told i sets s = s.at (influences P C bs) (sym sets) facts-long

  -- ---- the worlds

  abbrev made : Values → World
  made v = world_at F (influences P C bs) v

  abbrev seen : Wanted → List Values
  seen w = wanted w.all w.number 0 (worlds F bs)

  pub worlds_are : all_worlds P C bs ≡ map (world_at (frame_of P C) (influences P C bs)) (worlds (frame_of P C) bs)
  unfolding all_worlds
  worlds_are = refl

  known-named : (i : ℕ) → i < length (take c.constraints.count c.constraints.items) → get_or (take c.constraints.count c.constraints.items) i 0 < length P.nodes
  unfolding case_of
  known-named i l = all_at (λ n. n < length P.nodes) (take c.constraints.count c.constraints.items) 0 i h.sane.constraints.1 l

  pub bindings-long : length bs ≤ fact_count P
  unfolding bindings
  bindings-long = let e = length-below (fact_count P) (binding_of P C) in omega arith

  -- WHAT IS KEPT is that of the wanted worlds, and all of them are counted
  module _ {w : Wanted} {k : Common} {t : List (List ℕ)} (S : Stands P (influences P C bs) k t) (people : k.roster ≡ c.heading.roster)
      {free spans : List ℕ} {n : ℕ} {order : List ℕ} (ordered : map slot_of order ≡ slots P) (listed : FreeList codes order n free)
      (spanned : (i : ℕ) → i < n → get_or spans i 0 ≡ span_of (influences P C bs) (get_or free i 0))
      {noted₀ noted₁ sums₀ sums₁ : List (List ℕ)} {events₁ : List ℕ} {r : Walked} (runs : Runs t k plan c.constraints codes free spans n w noted₀ noted₁ sums₀ sums₁ events events₁ r)
      (started : Started c.heading.roster sums₀) (clean : (i j : ℕ) → row noted₀ i j ≡ 0) where
    abbrev Gone : Frame → ℕ → Type 0
    Gone G roster = Kept P roster (map (world_at G (influences P C bs)) (wanted w.all w.number 0 (worlds G bs))) sums₁ noted₁ r.listing events₁ × (r.worlds ≡ length (worlds G bs))

    of_case : frame_by plan k.roster c.constraints ≡ F
    of_case = ap (λ (x : ℕ). frame_by plan x c.constraints) people ∙ framed

    influences_are : influences P C bs ≡ influence (frame_by plan k.roster c.constraints) bs
    unfolding influences
    influences_are = ap (λ (G : Frame). influence G bs) (sym of_case)

    gone : Gone (frame_by plan k.roster c.constraints) k.roster
    gone =
        runs.at (influences P C bs) bs order S known-named bindings-long h.bound ordered listed (le_trans (few_free bs codes h.bound P order ordered h.few) (omega arith))
        spanned influences_are (λ e. h.peopled (sym people ∙ e)) (subst (λ (x : ℕ). Started x sums₀) (sym people) started) clean h.none

    over-case : Gone F k.roster
    over-case = subst (λ (G : Frame). Gone G k.roster) of_case gone

    pub seen-kept : Kept P c.heading.roster (map (world_at (frame_of P C) (influences P C bs)) (wanted w.all w.number 0 (worlds (frame_of P C) bs))) sums₁ noted₁ r.listing events₁
    seen-kept = subst (λ (x : ℕ). Kept P x (map (world_at F (influences P C bs)) (seen w)) sums₁ noted₁ r.listing events₁) people over-case.0

    pub all_counted : r.worlds ≡ length (all_worlds P C bs)
    all_counted = over-case.1 ∙ sym (ap length worlds_are ∙ length-map (worlds F bs) made)

    module _ {i : Influence} (sets : sets_of i ≡ (influences P C bs).facts ++ (influences P C bs).decisions) {o : Opens} (concerns : Concerns i reach.count given.defaults w.all o) where
      default_at : w.all ≡ true → Defaulted P C reach.bound o.defaults
      default_at e = subst (Defaulted P C reach.bound) (sym (concerns.yes e).3) h.defaulted

      -- the sets are within their array, those of the facts first
      fits : (b : Bool) → w.all ≡ b → (o.facts ≤ o.influence.count) × (o.facts ≤ 64) × (o.influence.count ≤ o.facts + 16) × (o.influence.count ≤ 80)
      fits true e =
          let y = concerns.yes e in
          let n = length-append (influences P C bs).facts (influences P C bs).decisions in
          let z : o.influence.count ≡ reach.count + reach.undecided.count = y.1 ∙ ap length sets ∙ n ∙ ap₂ ◌+◌ facts-long decisions-long in
          let f = over.few in
          let d = over.sixteen in
          let m : o.facts ≡ reach.count = y.2 in
          (omega arith, omega arith, omega arith, omega arith)
      fits false e =
          let y = concerns.no e in
          let a : o.facts ≡ 0 = y.0 in
          let b : o.influence.count ≡ 0 = y.1 in
          (omega arith, omega arith, omega arith, omega arith)

      defaulted : (b : Bool) → w.all ≡ b → Below o.defaults (fact_count P)
      defaulted true e f k = ltb-true f (fact_count P) (and_parts (ltb f (fact_count P)) _ (sym ((default_at e).at f) ∙ k)).0
      defaulted false e f k = absurd (false≢true (sym (ap (λ (x : ℕ). has x f) (concerns.no e).2 ∙ has-none f) ∙ k))

      pub ends : Ends plan c o r noted₁ sums₁ lines events₁
      ends = record {
        sound = h.sound;
        sane = h.sane;
        room = h.room;
        listed = runs.fits;
        facts = fits w.all refl;
        edges = frozen-ends P (influences P C bs) k t S (seen w) kept;
        cuts = applied-ends P (influences P C bs) k t S (seen w) kept;
        attachments = moved_ends P (influences P C bs) k t S (seen w) kept;
        bars = barring-ends P (influences P C bs) k t S (seen w) kept;
        statuses = excluding-ends P (influences P C bs) k t S (seen w) kept;
        blocked = blocked-ends P (influences P C bs) k t S (seen w) kept;
        clashed = clashed-ends P (influences P C bs) k t S (seen w) kept;
        defaults = defaulted w.all refl;
      }
        where
          kept : Kept P k.roster (map (λ v. world_of P k.roster (influences P C bs) (active P v)) (seen w)) sums₁ noted₁ r.listing events₁
          kept =
              subst (λ (x : ℕ). Kept P k.roster (map (λ v. world_of P x (influences P C bs) (active P v)) (seen w)) sums₁ noted₁ r.listing events₁)
              (roster_is ∙ sym people) over-case.0

      module _ {lines₁ events₂ : List ℕ} {a : Answer} (finishes : Finishes plan c o w r noted₁ sums₁ lines lines₁ events₁ events₂ a) where
        placed : All (Placed P c.heading.roster) (map made (seen w))
        placed =
            subst (λ (x : ℕ). All (Placed P x) (map made (seen w))) roster_is
            (worlds-placed F (influences P C bs) (subst (λ (x : ℕ). x < 2 ^ 64) (people ∙ sym roster_is) S.roster)
            (subst (λ (x : ℕ). subset (rule_persons P) x ≡ true) (sym roster_is) h.named) (seen w))

        all_seen : w.all ≡ true → seen w ≡ worlds F bs
        all_seen e = ap (λ (b : Bool). wanted b w.number 0 (worlds F bs)) e ∙ wanted_all w.number 0 (worlds F bs)

        one_seen : w.all ≡ false → seen w ≡ take 1 (drop w.number (worlds F bs))
        one_seen e = ap (λ (b : Bool). wanted b w.number 0 (worlds F bs)) e ∙ wanted-one w.number (worlds F bs)

        few-seen : w.all ≡ false → length (map made (seen w)) ≤ 1
        few-seen e = subst (λ (x : ℕ). x ≤ 1) (sym (length-map (seen w) made ∙ ap length (one_seen e))) (one_taken (drop w.number (worlds F bs)))

        defaults_are : w.all ≡ true → (f : ℕ) → f < fact_count P → has o.defaults f ≡ took_default P C f
        defaults_are e f l =
            (default_at e).at f ∙ ap₂ (λ (b : Bool) (x : ℕ). b && took_default_by P C x f) (lt-ltb f (fact_count P) l) over.bound ∙ default_by P C f

        opens_are : w.all ≡ true → (take o.facts (sets_of o.influence) ≡ (influences P C bs).facts) × (drop o.facts (sets_of o.influence) ≡ (influences P C bs).decisions)
            × ((f : ℕ) → f < fact_count P → has o.defaults f ≡ took_default P C f)
        opens_are e =
            let y = concerns.yes e in
            let long = facts-long ∙ sym y.2 in (
              ap (take o.facts) (y.0 ∙ sets) ∙ take_at (influences P C bs).facts (influences P C bs).decisions o.facts long,
              ap (drop o.facts) (y.0 ∙ sets) ∙ drop_at (influences P C bs).facts (influences P C bs).decisions o.facts long,
              defaults_are e,
            )

        -- what is made of the worlds that were seen
        ended_so : (b : Bool) → w.all ≡ b → (line_room event_room : ℕ)
            → cond b (answer_ready line_room event_room P C bs (map made (seen w))) (show_from line_room event_room P C bs r.worlds (map made (seen w)))
            ≡ cond b (answer_ready line_room event_room P C bs (all_worlds P C bs)) (show_from line_room event_room P C bs (length (all_worlds P C bs)) (drop w.number (all_worlds P C bs)))
        ended_so true e line_room event_room = ap (answer_ready line_room event_room P C bs) (ap (map made) (all_seen e) ∙ sym worlds_are)
        ended_so false e line_room event_room =
            ap₂ (show_from line_room event_room P C bs) all_counted
            (ap (map made) (one_seen e) ∙ made-first made (drop w.number (worlds F bs))
            ∙ ap (take 1) (made-drop made w.number (worlds F bs) ∙ ap (drop w.number) (sym worlds_are)))
            ∙ show-first line_room event_room P C bs (length (all_worlds P C bs)) (drop w.number (all_worlds P C bs))

        pub answers : AnswersReady plan c w lines lines₁ events events₂ a
        unfolding ended ready_outcome
        answers = record {
          outcome =
              finishes.at bs (map made (seen w)) h.peopled placed seen-kept h.zeros
              (λ e. all_counted ∙ ap length (worlds_are ∙ ap (map made) (sym (all_seen e)))) few-seen opens_are concerns.no
              ∙ ended_so w.all refl (length lines) (length events₁)
              ∙ ap (λ (n : ℕ). cond w.all (answer_ready (length lines) n P C bs (all_worlds P C bs)) (show_from (length lines) n P C bs (length (all_worlds P C bs)) (drop w.number (all_worlds P C bs)))) runs.long;
        }
