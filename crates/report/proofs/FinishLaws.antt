-- What the end of an operation answers is what document 01 says of the worlds that were looked at.
use mathlib.Core.Path.{◌≡◌, refl, sym, ap, ap₂, ◌∙◌, subst}
use mathlib.Core.Bool.{Bool, true, false, ◌&&◌, ◌||◌, not, cond}
use mathlib.Core.List.{List, [], ◌∷◌, ◌++◌, map, flat_map, append_assoc, append-nil}
use mathlib.Core.Logic.{◌⊎◌, inl, inr, ⊎_elim}
use Prim.Native.Nat.{ℕ, ◌+◌, ◌*◌, ◌-◌, ◌^◌, ◌≤◌, ◌<◌}
use native.Mathlib.Omega.{arith}
use lib.ListN.{length, take, drop, replicate, length-map, length-append, length-replicate}
use lib.Seq.{take_at, drop-append-add}
use lib.Dec.{eqb}
use borrow.Author.Tests.{eq-eqb, ne_eqb, lt-ltb}
use Rattle.sets.specs.paper.Sets.{has, size, members, union, subset, all_of, any_of, union_of, union_below, lex_less, All}
use Rattle.records.specs.paper.Plan as paper
use Rattle.records.specs.paper.Case as case
use Rattle.records.specs.paper.Case.{case_heading}
use Rattle.records.specs.code.Decoded.{plan_of, case_of, case_heading_of}
use Rattle.records.specs.declared.plan.Plan.{Plan}
use Rattle.records.specs.declared.case.Case.{Case}
use Rattle.sets.proofs.SetLaws.{ext, has-union, has-none, member}
use Rattle.sets.proofs.Local.{clash}
use Rattle.sets.proofs.Every.{all_tested, all_map}
use Rattle.sets.proofs.MemberLaws.{members-same, members-length}
use Rattle.page.proofs.ZeroLaws.{zeros-drop}
use Rattle.expressions.specs.paper.Rules.{fact_count, cut_count, rule_persons}
use Rattle.expressions.specs.paper.Influence.{Frame}
use Rattle.expressions.specs.paper.Variables.{Influence, Values}
use Rattle.expressions.specs.paper.Bindings.{Bound, took_default}
use Rattle.expressions.specs.code.Influences.{sets_of}
use Rattle.records.proofs.UsedLaws.{flat_append}
use Rattle.expressions.proofs.ReachLaws.{heading_of}
use Rattle.worlds.specs.paper.World.{World, marked}
use Rattle.worlds.specs.paper.Active.{active}
use Rattle.worlds.specs.paper.View.{View, view, role_of}
use Rattle.page.specs.Little.{little_bytes}
use Rattle.worlds.specs.paper.Events.{event, events_of}
use Rattle.worlds.specs.code.Tables.{row}
use Rattle.report.specs.paper.Line.{Line, line_bytes, bare_line, line_over, line_in, first_kind, holding, line_length}
use Rattle.report.specs.paper.EventList.{insert, rising, default_events, event_length}
use Rattle.report.specs.code.Happened.{Rises, Gathered, default_over, discretion_over, happened}
use Rattle.report.specs.code.EventsWritten.{by_rules, event_count, RuleEvents, AllWritten}
use Rattle.report.specs.code.Nine.{Nines}
use Rattle.report.specs.code.Kept.{Kept}
use Rattle.report.specs.code.Written.{SumsOf, LinesBy}
use Rattle.report.specs.code.Walked.{world_at}
use Rattle.report.specs.paper.Operations.{Outcome, filled, refusal, written, influences, lines_over, lines_of, events_over, answer_ready, show_from}
use Rattle.report.specs.code.Bare.{worldless, Worldless}
use Rattle.report.specs.code.Finish.{Ends, Placed, ended, Finishes}
use Rattle.report.specs.declared.nine.Listing.{Listing}
use Rattle.report.specs.declared.Answer.{Answer}
use Rattle.report.specs.declared.Answer.TheVariants.{Answered, Refused}
use Rattle.report.specs.declared.finish.Opens.{Opens}
use Rattle.report.specs.declared.run.Wanted.{Wanted}
use Rattle.report.specs.declared.walk.Walked.{Walked}
use Rattle.report.proofs.AmongLaws.{Among, in_left, in_right, of_both}
use Rattle.report.proofs.RisingSet.{Same, rising-rises, of_rising, in_rising, rises-rising}
use Rattle.report.proofs.RisingKinds.{happened-rising}
use Rattle.report.proofs.HappenedAll.{happened-same, defaults_asked, defaults-none}
use Rattle.report.proofs.HappenedLaws.{Many, rules-many}
use Rattle.report.proofs.NineLaws.{rising_sized, flat_length}
use Rattle.report.proofs.FilledLaws.{lines-filled, written-told}
use Rattle.report.proofs.WorldBlocks.{PartedIn, world_parted}

-- ---- masks of kind 9 in the order of their events

abbrev nine : ℕ → List ℕ
nine m = event 9 0 0 0 m

insert_mask : ℕ → List ℕ → List ℕ
insert_mask m [] = m ∷ []
insert_mask m (x ∷ xs) = cond (lex_less (nine m) (nine x)) (m ∷ x ∷ xs) (cond (lex_less (nine x) (nine m)) (x ∷ insert_mask m xs) (x ∷ xs))

map-insert : (m : ℕ) (xs : List ℕ) → map nine (insert_mask m xs) ≡ insert (nine m) (map nine xs)
unfolding insert insert_mask
map-insert m [] = refl
map-insert m (x ∷ xs) = go (lex_less (nine m) (nine x)) (lex_less (nine x) (nine m)) (map-insert m xs)
  where
    go : (a b : Bool) → map nine (insert_mask m xs) ≡ insert (nine m) (map nine xs)
        → map nine (cond a (m ∷ x ∷ xs) (cond b (x ∷ insert_mask m xs) (x ∷ xs)))
        ≡ cond a (nine m ∷ nine x ∷ map nine xs) (cond b (nine x ∷ insert (nine m) (map nine xs)) (nine x ∷ map nine xs))
    go true b h = refl
    go false true h = ap (λ (l : List (List ℕ)). nine x ∷ l) h
    go false false h = refl

sorted : List ℕ → List ℕ
sorted [] = []
sorted (m ∷ ms) = insert_mask m (sorted ms)

map_sorted : (ms : List ℕ) → map nine (sorted ms) ≡ rising (map nine ms)
unfolding rising sorted
map_sorted [] = refl
map_sorted (m ∷ ms) = map-insert m (sorted ms) ∙ ap (insert (nine m)) (map_sorted ms)

less-bytes : (m n : ℕ) → lex_less (nine m) (nine n) ≡ true → lex_less (little_bytes 8 m) (little_bytes 8 n) ≡ true
unfolding event lex_less
less-bytes m n h = h

rises-bytes : (ns : List ℕ) → Rises (map nine ns) → Rises (map (little_bytes 8) ns)
rises-bytes [] r = tt
rises-bytes (m ∷ ns) r = (all ns r.0, rises-bytes ns r.1)
  where
    all : (ns : List ℕ) → All (λ f. lex_less (nine m) f ≡ true) (map nine ns) → All (λ f. lex_less (little_bytes 8 m) f ≡ true) (map (little_bytes 8) ns)
    all [] h = tt
    all (n ∷ ns) h = (less-bytes m n h.0, all ns h.1)

-- ---- the events of all worlds: those by rule, then the components as they were kept

module _ (P : paper.Plan) (C : case.Case) (frozen applied : ℕ) (blockings clashings : ℕ → ℕ) (moved barring excluding defaults : ℕ) where
  abbrev shown : List ℕ → List (List ℕ)
  shown nines = happened P C frozen applied blockings clashings moved barring excluding defaults nines

  parted : (nines : List ℕ) → shown nines ≡ shown [] ++ map nine nines
  unfolding happened discretion_over
  parted nines = simp append_assoc

  listed-rises : (masks : List ℕ) → Rises (shown [] ++ rising (map nine masks))
  listed-rises masks =
      subst Rises (parted (sorted masks) ∙ ap (λ (es : List (List ℕ)). shown [] ++ es) (map_sorted masks))
      (happened-rising P C frozen applied blockings clashings moved barring excluding defaults (sorted masks)
      (rises-bytes (sorted masks) (subst Rises (sym (map_sorted masks)) (rising-rises (map nine masks)))))

  listed_same : (masks : List ℕ) → Same (shown [] ++ rising (map nine masks)) (shown masks)
  listed_same masks = record {
    there = λ e k.
        subst (Among e) (sym (parted masks))
        (⊎_elim (λ j. in_left e (shown []) (map nine masks) j) (λ j. in_right e (shown []) (map nine masks) (of_rising (map nine masks) e j))
        (of_both e (shown []) (rising (map nine masks)) k));
    back = λ e k.
        ⊎_elim (λ j. in_left e (shown []) (rising (map nine masks)) j)
        (λ j. in_right e (shown []) (rising (map nine masks)) (in_rising (map nine masks) e j))
        (of_both e (shown []) (map nine masks) (subst (Among e) (parted masks) k));
  }

same_thru : {es fs gs : List (List ℕ)} → Same es fs → Same fs gs → Same es gs
same_thru s t = record { there = λ e k. t.there e (s.there e k); back = λ e k. s.back e (t.back e k) }

module _ (P : paper.Plan) (C : case.Case) (roster : ℕ) (ws : List World) (sums noted : List (List ℕ)) (defaults : ℕ) where
  abbrev gathered_by : List ℕ → Type 0
  gathered_by masks =
      Gathered P roster ws (row sums 4 4) (row sums 4 5) (row noted 1) (row noted 2) (row sums 4 6) (row sums 4 7) (row sums 4 8) masks

  all_listed : (masks : List ℕ) → gathered_by masks → (ds : List (List ℕ)) → Same (default_over P defaults) ds
      → by_rules P C sums noted defaults ++ rising (map nine masks) ≡ rising (flat_map (events_of P C roster) ws ++ ds)
  unfolding by_rules
  all_listed masks G ds d =
      rises-rising (listed-rises P C (row sums 4 4) (row sums 4 5) (row noted 1) (row noted 2) (row sums 4 6) (row sums 4 7) (row sums 4 8) defaults masks)
      (same_thru (listed_same P C (row sums 4 4) (row sums 4 5) (row noted 1) (row noted 2) (row sums 4 6) (row sums 4 7) (row sums 4 8) defaults masks)
      (happened-same P C roster ws (row sums 4 4) (row sums 4 5) (row noted 1) (row noted 2) (row sums 4 6) (row sums 4 7) (row sums 4 8) defaults masks G ds d))

gathered : (P : paper.Plan) (C : case.Case) (roster : ℕ) (ws : List World) (sums noted : List (List ℕ)) (defaults : ℕ) {l : Listing} {events : List ℕ} (K : Kept P roster ws sums noted l events)
    → gathered_by P C roster ws sums noted defaults K.masks
gathered P C roster ws sums noted defaults K = record {
  edges = λ e h. K.frozen e;
  cuts = λ c h. K.applied c;
  blocked = λ c e h i. K.blocked c e;
  overlapping = λ c d h i. K.clashed c d;
  attachments = λ i h. K.moved i;
  bars = λ i h. K.barring i;
  statuses = λ i h. K.excluding i;
  components = K.components;
}

-- ---- the lines

true_all : (xs : List ℕ) → all_of (λ (q : ℕ). true) xs ≡ true
unfolding all_of
true_all [] = refl
true_all (x ∷ xs) = true_all xs

members_all : (m : ℕ) → All (λ p. has m p ≡ true) (members m)
members_all m = all_tested (has m) (members m) (members-same m (has m) (λ q. true) (λ q e. e) ∙ true_all (members m))

flat_agree : {A B : Type 0} (f g : A → List B) (Q : A → Type 0) → ((x : A) → Q x → f x ≡ g x) → (xs : List A) → All Q xs → flat_map f xs ≡ flat_map g xs
unfolding flat_map
flat_agree f g Q h [] a = refl
flat_agree f g Q h (x ∷ xs) a = ap₂ ◌++◌ (h x a.0) (flat_agree f g Q h xs a.1)

-- a view by whether its person is marked
abbrev view_by_lem : Bool → Bool → ℕ → ℕ → ℕ → View
view_by_lem b o block role cs = cond b (record { block = 0; role = 0; kind = cond o 3 4; citations = 0 }) (record { block = block; role = role; kind = 0; citations = cs })

small_by : (b o : Bool) (block role cs : ℕ) → role < 256 → ((view_by_lem b o block role cs).role < 256) × ((view_by_lem b o block role cs).kind < 256)
small_by true true block role cs h = (omega arith, omega arith)
small_by true false block role cs h = (omega arith, omega arith)
small_by false o block role cs h = (h, omega arith)

role-small : (w : World) (p : ℕ) → role_of w p < 256
unfolding role_of
role-small w p = go (has w.excluded p) (has w.barred p)
  where
    go : (x y : Bool) → cond {A = ℕ} x 2 (cond y 3 1) < 256
    go true y = omega arith
    go false true = omega arith
    go false false = omega arith

view-small : (P : paper.Plan) (w : World) (p : ℕ) → ((view P w p).role < 256) × ((view P w p).kind < 256)
unfolding view
view-small P w p = small_by (has (marked w.marks) p) (has w.marks.overlap p) _ _ _ (role-small w p)

union-none : (c : ℕ) → union c 0 ≡ c
union-none c = ext (union c 0) c (λ p. has-union c 0 p ∙ ap (λ (b : Bool). has c p || b) (has-none p) ∙ or-false (has c p))
  where
    or-false : (b : Bool) → (b || false) ≡ b
    or-false true = refl
    or-false false = refl

-- with nothing open
abbrev closed : Influence
closed = record { facts = []; decisions = [] }

shown_by : (p : ℕ) (b o : Bool) (block role cs : ℕ) → ((view_by_lem b o block role cs).kind ≡ 0 → (view_by_lem b o block role cs).block ≡ 0 → ⊥)
    → line_over closed p (view_by_lem b o block role cs ∷ []) ≡ line_in p (view_by_lem b o block role cs)
unfolding line_over line_in first_kind all_of union_of holding union_below
shown_by p true true block role cs h = refl
shown_by p true false block role cs h = refl
shown_by p false o block role cs h = simp (ne_eqb block 0 (h refl), union-none)

line_shown : (P : paper.Plan) (w : World) (p : ℕ) → ((view P w p).kind ≡ 0 → (view P w p).block ≡ 0 → ⊥)
    → line_over closed p (view P w p ∷ []) ≡ line_in p (view P w p)
unfolding view
line_shown P w p h = shown_by p (has (marked w.marks) p) (has w.marks.overlap p) _ _ _ h

sums_of : (P : paper.Plan) (roster : ℕ) (w : World) (ws : List World) {sums noted : List (List ℕ)} {l : Listing} {events : List ℕ}
    → Kept P roster (w ∷ ws) sums noted l events → (p : ℕ) → has roster p ≡ true → SumsOf (view P w p) (map (λ u. view P u p) ws) p sums
sums_of P roster w ws K p h = record {
  summed = K.people p h;
  citations = K.citations p h;
  small = all_map (λ u. view P u p) (λ v. (v.role < 256) × (v.kind < 256)) (λ u. view-small P u p) (w ∷ ws);
}

-- worlds of document 01 leave nobody without block and kind
placed : (P : paper.Plan) (roster : ℕ) (w : World) → PartedIn P roster w → Placed P roster w
placed P roster w h = record { at = λ p here k b. ⊎_elim (λ o. o.other k) (λ i. clash i.own (ap (λ (m : ℕ). has m p) b ∙ has-none p)) (h p here) }

pub worlds-placed : (F : Frame) (I : Influence) → F.roster < 2 ^ 64 → subset (rule_persons F.plan) F.roster ≡ true → (vs : List Values)
    → All (Placed F.plan F.roster) (map (world_at F I) vs)
worlds-placed F I fits named vs =
    all_map (world_at F I) (Placed F.plan F.roster)
    (λ v. placed F.plan F.roster (world_at F I v) (world_parted F.plan F.roster fits named I (active F.plan v))) vs

-- ---- the bytes of the events

events-filled : (rs es : List (List ℕ)) (count listed : ℕ) (before after : List ℕ) → Many rs count
    → length (flat_map (λ e. e) es) ≡ event_length * length es → listed ≡ length es
    → before ≡ flat_map (λ e. e) es ++ replicate (length before - event_length * length es) 0
    → after ≡ flat_map (λ e. e) rs ++ (take (event_length * listed) before ++ drop (event_length * (count + listed)) before)
    → after ≡ filled (length before) (rs ++ es)
events-filled rs es count listed before after m long n b a =
    let fs = flat_map (λ e. e) es in
    let gs = flat_map (λ e. e) rs in
    let z = length before - event_length * length es in
    let lm = m.each.bytes in
    let lc = m.count in
    let t : take (event_length * listed) before ≡ fs =
    ap (take (event_length * listed)) b
    ∙ take_at fs (replicate z 0) (event_length * listed) (let q : length fs ≡ event_length * listed = omega arith in q) in
    let j : event_length * (count + listed) ≡ length fs + event_length * count = omega arith in
    let d : drop (event_length * (count + listed)) before ≡ replicate (z - event_length * count) 0 =
    ap₂ drop j b ∙ drop-append-add fs (replicate z 0) (event_length * count) ∙ zeros-drop z (event_length * count) in
    let f : flat_map (λ e. e) (rs ++ es) ≡ gs ++ fs = flat_append (λ e. e) rs es in
    let lf : length (flat_map (λ e. e) (rs ++ es)) ≡ length gs + length fs = ap length f ∙ length-append gs fs in
    let k : z - event_length * count ≡ length before - length (flat_map (λ e. e) (rs ++ es)) = omega arith in
    a
    ∙ ap (λ (l : List ℕ). gs ++ l) (ap₂ ◌++◌ t (d ∙ ap (λ (i : ℕ). replicate {A = ℕ} i 0) k))
    ∙ sym (append_assoc gs fs _)
    ∙ ap (λ (l : List ℕ). l ++ replicate (length before - length (flat_map (λ e. e) (rs ++ es))) 0) (sym f)

-- ---- the outcome

-- more events than the buffer holds
written_over : (line_room event_room : ℕ) (ls : List Line) (es : List (List ℕ)) (n : ℕ) → event_room < event_length * length es
    → written line_room event_room ls es n ≡ refusal line_room event_room (Refused 13 0)
unfolding written
written_over line_room event_room ls es n h = rw (lt-ltb event_room (event_length * length es) h)

-- no world shows a component
no-masks : (masks : List ℕ) → ((m : ℕ) → any_of (eqb m) masks ≡ false) → masks ≡ []
unfolding any_of
no-masks [] h = refl
no-masks (m ∷ ms) h = clash (ap (λ (b : Bool). b || any_of (eqb m) ms) (eq-eqb m m refl)) (h m)

and-false : (b : Bool) → (b && false) ≡ false
and-false true = refl
and-false false = refl

no-nines : (l : Listing) (s : List ℕ) → Nines [] l s → s ≡ replicate (length s) 0
unfolding rising flat_map
no-nines l s N = pick l.full refl
  where
    pick : (b : Bool) → l.full ≡ b → s ≡ replicate (length s) 0
    pick true e = let h = N.over e in absurd (let z : ⊥ = omega arith in z)
    pick false e = (N.fitting e).2 ∙ ap (λ (k : ℕ). replicate {A = ℕ} k 0) (let z : length s - event_length * 0 ≡ length s = omega arith in z)

ended_all : (b : Bool) → b ≡ true → (line_room event_room : ℕ) (plan : Plan) (c : Case) (bs : List Bound) (n : ℕ) (ws : List World)
    → ended b line_room event_room plan c bs n ws ≡ answer_ready line_room event_room (plan_of plan) (case_of c) bs ws
unfolding ended
ended_all b e line_room event_room plan c bs n ws = rw e

ended-one : (b : Bool) → b ≡ false → (line_room event_room : ℕ) (plan : Plan) (c : Case) (bs : List Bound) (n : ℕ) (ws : List World)
    → ended b line_room event_room plan c bs n ws ≡ show_from line_room event_room (plan_of plan) (case_of c) bs n ws
unfolding ended
ended-one b e line_room event_room plan c bs n ws = rw e

outcome-same : (a : Answer) {l k e d : List ℕ} → l ≡ k → e ≡ d → ◌≡◌ {A = Outcome} (record { answer = a; lines = l; events = e }) (record { answer = a; lines = k; events = d })
outcome-same a p q = ap₂ (λ (l e : List ℕ). record { answer = a; lines = l; events = e }) p q

module _ {plan : Plan} {c : Case} {o : Opens} (w : Wanted) {walked : Walked} {noted sums : List (List ℕ)} {lines₀ events₀ : List ℕ}
    (E : Ends plan c o walked noted sums lines₀ events₀) where
  abbrev P : paper.Plan
  P = plan_of plan

  abbrev C : case.Case
  C = case_of c

  abbrev people : ℕ
  people = c.heading.roster

  abbrev rules : List (List ℕ)
  rules = by_rules P C sums noted o.defaults

  abbrev count : ℕ
  count = event_count sums noted o.defaults (cut_count P)

  abbrev KeptOf : List World → Type 0
  KeptOf ws = Kept P people ws sums noted walked.listing events₀

  same-roster : (case_heading C).roster ≡ people
  unfolding case_heading_of
  same-roster = ap (λ (h : case.CaseHeading). h.roster) (heading_of c E.sane.heading)

  pub rule_events : (room : ℕ) → event_length * count ≤ room → RuleEvents plan c sums noted o.defaults room
  rule_events room h = record {
    sound = E.sound;
    read = record { plan = P; sound = E.sane };
    edges = E.edges;
    cuts = E.cuts;
    attachments = E.attachments;
    bars = E.bars;
    statuses = E.statuses;
    blocked = E.blocked;
    clashed = E.clashed;
    facts = E.defaults;
    fit = h;
  }

  many-rules : Many rules count
  many-rules =
      rules-many plan c sums noted o.defaults (replicate (event_length * count) 0)
      (rule_events (length (replicate {A = ℕ} (event_length * count) 0)) (let l = length-replicate {A = ℕ} (event_length * count) 0 in omega arith))

  -- ---- with no world

  begun-none : (ws : List World) → (people ≡ 0 → ⊥) → KeptOf ws → row sums 4 3 ≡ 0 → ws ≡ []
  begun-none [] some K z = refl
  begun-none (u ∷ ws) some K z = let p = member people some in let b = (K.people p.0 p.1).begins in absurd (let q : ⊥ = omega arith in q)

  begun-some : (people ≡ 0 → ⊥) → KeptOf [] → (row sums 4 3 ≡ 0 → ⊥) → ⊥
  begun-some some K z = let p = member people some in z (K.people p.0 p.1).begins

  none-listed : KeptOf [] → events₀ ≡ replicate (length events₀) 0
  unfolding any_of
  none-listed K =
      no-nines walked.listing events₀
      (subst (λ (ms : List ℕ). Nines (map nine ms) walked.listing events₀) (no-masks K.masks (λ m. K.components m ∙ and-false (not (eqb m 0)))) K.nines)

  none_is : (bs : List Bound) (n : ℕ) → ended w.all (length lines₀) (length events₀) plan c bs n [] ≡ worldless w.all 6 people (length lines₀) (length events₀)
  unfolding ended worldless answer_ready lines_over events_over line_over show_from
  none_is bs n =
      ap (λ (r : ℕ). cond w.all (written (length lines₀) (length events₀) (map (bare_line 6) (members r)) [] 0) (refusal (length lines₀) (length events₀) (Refused 14 0)))
      same-roster

  pub none : {lines₁ : List ℕ} {r : Answer} → row sums 4 3 ≡ 0 → Worldless w 6 people lines₀ lines₁ r → Finishes plan c o w walked noted sums lines₀ lines₁ events₀ events₀ r
  none {lines₁} {r} z h = record {
    at = λ bs ws some pl K zl counts one asked no.
        let v = begun-none ws some K z in
        outcome-same r refl (none-listed (subst KeptOf v K))
        ∙ h.at (length events₀) zl
        ∙ sym (ap (ended w.all (length lines₀) (length events₀) plan c bs walked.worlds) v ∙ none_is bs walked.worlds);
  }

  -- ---- with some world

  abbrev fact_sets : List ℕ
  fact_sets = take o.facts (sets_of o.influence)

  abbrev decision_sets : List ℕ
  decision_sets = drop o.facts (sets_of o.influence)

  -- what document 01 gives of these worlds
  record Sought (bs : List Bound) (ws : List World) (masks : List ℕ) : Type 0 where
    line : ℕ → Line
    events : List (List ℕ)
    is : ended w.all (length lines₀) (length events₀) plan c bs walked.worlds ws
        ≡ written (length lines₀) (length events₀) (map line (members people)) events walked.worlds
    same : rules ++ rising (map nine masks) ≡ events
    lines : (lines₁ : List ℕ) → LinesBy sums people fact_sets decision_sets lines₀ lines₁
        → lines₁ ≡ flat_map (λ p. line_bytes (line p)) (members people) ++ drop (line_length * size people) lines₀

  answer_is : (bs : List Bound) (ws : List World) → answer_ready (length lines₀) (length events₀) P C bs ws
      ≡ written (length lines₀) (length events₀) (map (λ p. line_over (influences P C bs) p (map (λ v. view P v p) ws)) (members people)) (events_over P C bs ws) (length ws)
  unfolding answer_ready lines_over
  answer_is bs ws =
      ap (λ (r : ℕ). written (length lines₀) (length events₀) (map (λ p. line_over (influences P C bs) p (map (λ v. view P v p) ws)) (members r)) (events_over P C bs ws) (length ws))
      same-roster

  show_is : (bs : List Bound) (u : World) (n : ℕ) → show_from (length lines₀) (length events₀) P C bs n (u ∷ [])
      ≡ written (length lines₀) (length events₀) (map (λ p. line_in p (view P u p)) (members people)) (rising (events_of P C people u)) n
  unfolding show_from lines_of
  show_is bs u n =
      ap (λ (r : ℕ). written (length lines₀) (length events₀) (map (λ p. line_in p (view P u p)) (members r)) (rising (events_of P C r u)) n) same-roster

  over_is : (bs : List Bound) (u : World) (ws : List World) → rising (flat_map (events_of P C people) (u ∷ ws) ++ default_events P C) ≡ events_over P C bs (u ∷ ws)
  unfolding events_over
  over_is bs u ws = ap (λ (r : ℕ). rising (flat_map (events_of P C r) (u ∷ ws) ++ default_events P C)) (sym same-roster)

  in_is : (u : World) → rising (flat_map (events_of P C people) (u ∷ []) ++ []) ≡ rising (events_of P C people u)
  unfolding flat_map
  in_is u = ap rising (append-nil (flat_map (events_of P C people) (u ∷ [])) ∙ append-nil (events_of P C people u))

  sought_all : (bs : List Bound) (u : World) (ws : List World) (K : KeptOf (u ∷ ws)) → w.all ≡ true → walked.worlds ≡ length (u ∷ ws)
      → fact_sets ≡ (influences P C bs).facts → decision_sets ≡ (influences P C bs).decisions
      → ((f : ℕ) → f < fact_count P → has o.defaults f ≡ took_default P C f) → Sought bs (u ∷ ws) K.masks
  sought_all bs u ws K all n ef ed df = record {
    line = λ p. line_over (influences P C bs) p (map (λ v. view P v p) (u ∷ ws));
    events = events_over P C bs (u ∷ ws);
    is =
        ended_all w.all all (length lines₀) (length events₀) plan c bs walked.worlds (u ∷ ws) ∙ answer_is bs (u ∷ ws)
        ∙ ap (written (length lines₀) (length events₀) (map (λ p. line_over (influences P C bs) p (map (λ v. view P v p) (u ∷ ws))) (members people)) (events_over P C bs (u ∷ ws)))
        (sym n);
    same =
        all_listed P C people (u ∷ ws) sums noted o.defaults K.masks (gathered P C people (u ∷ ws) sums noted o.defaults K) (default_events P C)
        (defaults_asked P C o.defaults df) ∙ over_is bs u ws;
    lines = λ lines₁ h.
        h.at (λ p. view P u p) (λ p. map (λ v. view P v p) ws) (sums_of P people u ws K)
        ∙ ap₂ (λ (fs ds : List ℕ). flat_map (λ p. line_bytes (line_over (record { facts = fs; decisions = ds }) p (map (λ v. view P v p) (u ∷ ws)))) (members people)
        ++ drop (line_length * size people) lines₀) ef ed;
  }

  sought_one : (bs : List Bound) (u : World) (ws : List World) (K : KeptOf (u ∷ ws)) → w.all ≡ false → length (u ∷ ws) ≤ 1 → Placed P people u
      → (o.facts ≡ 0) × (o.influence.count ≡ 0) × (o.defaults ≡ 0) → Sought bs (u ∷ ws) K.masks
  unfolding sets_of
  sought_one bs u (x ∷ ws) K all few pl z = absurd (let q : ⊥ = omega arith in q)
  sought_one bs u [] K all few pl z = record {
    line = λ p. line_in p (view P u p);
    events = rising (events_of P C people u);
    is = ended-one w.all all (length lines₀) (length events₀) plan c bs walked.worlds (u ∷ []) ∙ show_is bs u walked.worlds;
    same =
        all_listed P C people (u ∷ []) sums noted o.defaults K.masks (gathered P C people (u ∷ []) sums noted o.defaults K) []
        (defaults-none P o.defaults (λ f h. ap (λ (m : ℕ). has m f) z.2 ∙ has-none f)) ∙ in_is u;
    lines = λ lines₁ h.
        h.at (λ p. view P u p) (λ p. []) (sums_of P people u [] K)
        ∙ ap₂ (λ (fs ds : List ℕ). flat_map (λ p. line_bytes (line_over (record { facts = fs; decisions = ds }) p (view P u p ∷ []))) (members people) ++ drop (line_length * size people) lines₀)
        (ap (λ (n : ℕ). take n (sets_of o.influence)) z.0) (ap₂ (λ (n k : ℕ). drop n (take k o.influence.sets)) z.0 z.1)
        ∙ ap (λ (l : List ℕ). l ++ drop (line_length * size people) lines₀)
        (flat_agree (λ p. line_bytes (line_over closed p (view P u p ∷ []))) (λ p. line_bytes (line_in p (view P u p))) (λ p. has people p ≡ true)
        (λ p here. ap line_bytes (line_shown P u p (pl.at p here))) (members people) (members_all people));
  }

  -- for an answer the influence of the bindings and the defaults that were taken
  abbrev Asked : List Bound → Type 0
  Asked bs = (fact_sets ≡ (influences P C bs).facts) × (decision_sets ≡ (influences P C bs).decisions)
      × ((f : ℕ) → f < fact_count P → has o.defaults f ≡ took_default P C f)

  sought : (bs : List Bound) (u : World) (ws : List World) (K : KeptOf (u ∷ ws)) → Placed P people u → (w.all ≡ true → walked.worlds ≡ length (u ∷ ws))
      → (w.all ≡ false → length (u ∷ ws) ≤ 1) → (w.all ≡ true → Asked bs) → (w.all ≡ false → (o.facts ≡ 0) × (o.influence.count ≡ 0) × (o.defaults ≡ 0))
      → Sought bs (u ∷ ws) K.masks
  sought bs u ws K pl counts one asked none = pick w.all refl
    where
      pick : (b : Bool) → w.all ≡ b → Sought bs (u ∷ ws) K.masks
      pick true e = let y = asked e in sought_all bs u ws K e (counts e) y.0 y.1 y.2
      pick false e = sought_one bs u ws K e (one e) pl (none e)

  -- as many events as those by rule and those listed
  total_is : (bs : List Bound) (ws : List World) (masks : List ℕ) (S : Sought bs ws masks) → length S.events ≡ count + length (rising (map nine masks))
  total_is bs ws masks S =
      sym (ap length S.same) ∙ length-append rules (rising (map nine masks)) ∙ ap (λ (n : ℕ). n + length (rising (map nine masks))) many-rules.count

  -- MORE EVENTS THAN THE BUFFER HOLDS
  pub over : (n : ℕ) (events₁ : List ℕ) → (row sums 4 3 ≡ 0 → ⊥) → n ≡ count → (walked.listing.full ≡ true) ⊎ (length events₀ < event_length * (n + walked.listing.count))
      → events₁ ≡ replicate (length events₀) 0 → Finishes plan c o w walked noted sums lines₀ lines₀ events₀ events₁ (Refused 13 0)
  over n events₁ begun e much cleared = record { at = go }
    where
      more : (es : List (List ℕ)) → Nines es walked.listing events₀ → length events₀ < event_length * (count + length (rising es))
      more es N = pick walked.listing.full refl much
        where
          pick : (b : Bool) → walked.listing.full ≡ b → (walked.listing.full ≡ true) ⊎ (length events₀ < event_length * (n + walked.listing.count))
              → length events₀ < event_length * (count + length (rising es))
          pick true f m = let h = N.over f in omega arith
          pick false f (inl g) = clash g f
          pick false f (inr h) = let k = (N.fitting f).0 in omega arith

      go : (bs : List Bound) (ws : List World) → (people ≡ 0 → ⊥) → All (Placed P people) ws → KeptOf ws → lines₀ ≡ replicate (length lines₀) 0
          → (w.all ≡ true → walked.worlds ≡ length ws) → (w.all ≡ false → length ws ≤ 1) → (w.all ≡ true → Asked bs)
          → (w.all ≡ false → (o.facts ≡ 0) × (o.influence.count ≡ 0) × (o.defaults ≡ 0))
          → record { answer = Refused 13 0; lines = lines₀; events = events₁ } ≡ ended w.all (length lines₀) (length events₀) plan c bs walked.worlds ws
      go bs [] some pl K zl counts one asked none = absurd (begun-some some K begun)
      go bs (u ∷ ws) some pl K zl counts one asked none =
          let S = sought bs u ws K pl.0 counts one asked none in
          let t = total_is bs (u ∷ ws) K.masks S in
          let m = more (map nine K.masks) K.nines in
          outcome-same (Refused 13 0) zl cleared
          ∙ sym (S.is ∙ written_over (length lines₀) (length events₀) (map S.line (members people)) S.events walked.worlds (omega arith))

  -- LINES AND EVENTS
  pub told : (n listed : ℕ) (lines₁ events₁ : List ℕ) (k : ℕ) → (row sums 4 3 ≡ 0 → ⊥) → n ≡ count → listed ≡ walked.listing.count → walked.listing.full ≡ false
      → event_length * (n + listed) ≤ length events₀ → LinesBy sums people fact_sets decision_sets lines₀ lines₁ → AllWritten P C sums noted o.defaults n listed events₀ events₁
      → k ≡ size people → Finishes plan c o w walked noted sums lines₀ lines₁ events₀ events₁ (Answered k (n + listed) walked.worlds)
  told n listed lines₁ events₁ k begun e el part fit L A p = record { at = go }
    where
      go : (bs : List Bound) (ws : List World) → (people ≡ 0 → ⊥) → All (Placed P people) ws → KeptOf ws → lines₀ ≡ replicate (length lines₀) 0
          → (w.all ≡ true → walked.worlds ≡ length ws) → (w.all ≡ false → length ws ≤ 1) → (w.all ≡ true → Asked bs)
          → (w.all ≡ false → (o.facts ≡ 0) × (o.influence.count ≡ 0) × (o.defaults ≡ 0))
          → record { answer = Answered k (n + listed) walked.worlds; lines = lines₁; events = events₁ }
          ≡ ended w.all (length lines₀) (length events₀) plan c bs walked.worlds ws
      go bs [] some pl K zl counts one asked none = absurd (begun-some some K begun)
      go bs (u ∷ ws) some pl K zl counts one asked none =
          let S = sought bs u ws K pl.0 counts one asked none in
          let t = total_is bs (u ∷ ws) K.masks S in
          let es = rising (map nine K.masks) in
          let N = K.nines.fitting part in
          let nl = N.0 in
          written-told (length lines₀) (length events₀) (map S.line (members people)) S.events lines₁ events₁ k (n + listed) walked.worlds (omega arith)
          (p ∙ sym (length-map (members people) S.line ∙ members-length people)) (let z : n + listed ≡ length S.events = omega arith in z)
          (lines-filled S.line people lines₀ lines₁ zl (S.lines lines₁ L))
          (events-filled rules es n listed events₀ events₁ (subst (Many rules) (sym e) many-rules) (flat_length es (rising_sized (map nine K.masks) K.nines.each))
          (el ∙ nl) N.2 (A.bytes e) ∙ ap (filled (length events₀)) S.same)
          ∙ sym S.is
