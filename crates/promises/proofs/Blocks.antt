-- The lines of an answered case, and of a shown world: one for each roster person, rising; whoever has a block is in it, everybody in it has a line
-- with it, and different blocks have nobody in common.
use mathlib.Core.Path.{◌≡◌, refl, sym, subst}
use mathlib.Core.List.{List, [], ◌∷◌, map}
use mathlib.Core.Logic.{inl, ⊎_elim}
use Prim.Native.Nat.{ℕ, ◌≤◌, ◌<◌, ◌^◌, zero-le}
use native.Mathlib.Omega.{arith}
use lib.ListN.{length, take, drop, take-append-drop}
use Rattle.sets.specs.paper.Sets.{All}
use Rattle.records.specs.paper.Fields.{Verdict, fine}
use Rattle.records.specs.paper.Plan.{Plan, checked_plan}
use Rattle.records.specs.paper.Case.{Case, read_case, case_heading}
use Rattle.sets.proofs.Every.{all_parts, all_map}
use Rattle.records.proofs.AcceptedCase.{accepted_case}
use Rattle.records.proofs.ReadLaws.{OnFine, of_fine}
use Rattle.expressions.specs.paper.Bindings.{Bound, frame_of}
use Rattle.expressions.specs.paper.Variables.{worlds}
use Rattle.worlds.specs.paper.Active.{active}
use Rattle.worlds.specs.paper.World.{World, world_of}
use Rattle.worlds.specs.paper.View.{View, view}
use Rattle.worlds.specs.paper.Events.{events_of}
use Rattle.report.specs.paper.Line.{bare_line, line_over, line_in}
use Rattle.report.specs.paper.EventList.{rising}
use Rattle.report.specs.declared.Answer.{Answer}
use Rattle.report.specs.declared.Answer.TheVariants.{Refused}
use Rattle.report.specs.paper.Operations.{told, Outcome, refusal, Opened, stopped, incomplete, ready, opened, influences, all_worlds, lines_over, lines_of, events_over, answer_ready, answer_opened, answer, show_from, show_opened, show}
use Rattle.report.proofs.WorldBlocks.{Parted, PartedIn, world_parted}
use Rattle.report.proofs.OpenedLaws.{Ready, OnOpened, opened_law, on-roster, roster-fits}
use Rattle.promises.proofs.Places.{over-person}
use Rattle.promises.specs.Partitioned.{Apart, Partitioned, InOne, InAll}
use Rattle.promises.proofs.LineRanges.{view_range, views_range, over_range}
use Rattle.promises.proofs.LineBlocks.{over_parted}
use Rattle.promises.proofs.PartedLines.{Proper, Claimed, refused_claimed, written_claimed}

fits : (P : Plan) (case : List ℕ) (C : Case) → read_case P case ≡ fine C → (case_heading C).roster < 2 ^ 64
fits P case C read = roster-fits P C (accepted_case P case C read)

module _ (plan case : List ℕ) (room : ℕ) (P : Plan) (C : Case) (bs : List Bound) (R : Ready plan case room P C bs) where
  all_parted : All (PartedIn P (case_heading C).roster) (all_worlds P C bs)
  unfolding all_worlds
  all_parted =
      all_map (λ v. world_of P (case_heading C).roster (influences P C bs) (active P v)) (PartedIn P (case_heading C).roster)
      (λ v. world_parted P (case_heading C).roster (fits P case C R.read) (on-roster P (case_heading C) room R.heading) (influences P C bs) (active P v))
      (worlds (frame_of P C) bs)

  answer_claimed : (event_room : ℕ) → Claimed InAll (case_heading C).roster (answer_ready room event_room P C bs (all_worlds P C bs))
  unfolding answer_ready lines_over
  answer_claimed event_room =
      written_claimed InAll room event_room (case_heading C).roster (fits P case C R.read)
      (λ p. line_over (influences P C bs) p (views p))
      (record { person = λ p. over-person (influences P C bs) p (views p); kind = λ p. (range p).0; role = λ p. (range p).1 })
      (over_parted P (case_heading C).roster (influences P C bs) (all_worlds P C bs) all_parted)
      (events_over P C bs (all_worlds P C bs)) (length (all_worlds P C bs))
    where
      views : ℕ → List View
      views p = map (λ w. view P w p) (all_worlds P C bs)

      range : (p : ℕ) → ((line_over (influences P C bs) p (views p)).kind ≤ 6) × ((line_over (influences P C bs) p (views p)).role ≤ 3)
      range p = over_range (influences P C bs) p (views p) (views_range P (all_worlds P C bs) p)

  show_claimed : (event_room n : ℕ) (ws : List World) → All (PartedIn P (case_heading C).roster) ws
      → Claimed InOne (case_heading C).roster (show_from room event_room P C bs n ws)
  unfolding show_from lines_of line_in
  show_claimed event_room n [] h = refused_claimed InOne room event_room (case_heading C).roster (Refused 14 0) (λ e. omega arith)
  show_claimed event_room n (w ∷ ws) h =
      written_claimed InOne room event_room (case_heading C).roster (fits P case C R.read) (λ p. line_in p (view P w p))
      (record {
        person = λ p. refl;
        kind = λ p. let r = (view_range P w p).kind in omega arith;
        role = λ p. (view_range P w p).role;
      })
      h.0 (rising (events_of P C (case_heading C).roster w)) n

-- lines of kind 5 have no block
bare_parted : (roster : ℕ) → Parted InAll roster (λ p. (bare_line 5 p).kind) (λ p. (bare_line 5 p).block)
bare_parted roster p here = inl (record { none = refl; other = ⊎_elim (λ e. omega arith) (λ e. omega arith) })

bare_proper : Proper (bare_line 5)
bare_proper = record { person = λ p. refl; kind = λ p. omega arith; role = λ p. zero-le }

-- ---- whatever case was read over the plan accepted, its roster is the one that was opened

-- what is told of that roster
abbrev OfRoster : List ℕ → List ℕ → (ℕ → Type 0) → Type 0
OfRoster plan case Q = (P : Plan) (C : Case) → checked_plan plan ≡ fine P → read_case P case ≡ fine C → Q (case_heading C).roster

of_roster : (plan case : List ℕ) (Q : ℕ → Type 0) (P : Plan) (C : Case) → checked_plan plan ≡ fine P → read_case P case ≡ fine C → Q (case_heading C).roster
    → OfRoster plan case Q
of_roster plan case Q P C accepted read h P₂ C₂ accepted₂ read₂ =
    subst (λ (C : Case). Q (case_heading C).roster) (one-fine (read_case P case) C C₂ read (subst (λ (P : Plan). read_case P case ≡ fine C₂) (sym plans) read₂)) h
  where
    one-fine : {A : Type 0} (v : Verdict A) (a b : A) → v ≡ fine a → v ≡ fine b → a ≡ b
    one-fine v a b e f = of_fine (λ x. a ≡ x) v b (subst (OnFine (λ x. a ≡ x)) (sym e) refl) f

    plans : P ≡ P₂
    plans = one-fine (checked_plan plan) P P₂ accepted accepted₂

record Claims (Blocked : ℕ → Type 0) (plan case : List ℕ) (o : Outcome) : Type 0 where
  buffer : Apart o.lines
  lines : (told o.answer).refusal ≡ 0 → OfRoster plan case (λ roster. Partitioned Blocked roster o.lines (told o.answer).lines)

claims : (Blocked : ℕ → Type 0) (plan case : List ℕ) (o : Outcome) (P : Plan) (C : Case) → checked_plan plan ≡ fine P → read_case P case ≡ fine C
    → Claimed Blocked (case_heading C).roster o → Claims Blocked plan case o
claims Blocked plan case o P C accepted read h = record {
  buffer = h.buffer;
  lines = λ e. of_roster plan case (λ roster. Partitioned Blocked roster o.lines (told o.answer).lines) P C accepted read (h.lines e);
}

refused_claims : (Blocked : ℕ → Type 0) (plan case : List ℕ) (line_room event_room : ℕ) (a : Answer) → ((told a).refusal ≡ 0 → ⊥)
    → Claims Blocked plan case (refusal line_room event_room a)
refused_claims Blocked plan case line_room event_room a n = record { buffer = (refused_claimed Blocked line_room event_room 0 a n).buffer; lines = λ h. absurd (n h) }

answered : (plan case : List ℕ) (line_room event_room : ℕ) → Claims InAll plan case (answer plan case line_room event_room)
unfolding answer
answered plan case line_room event_room = pick (opened plan case line_room) (opened_law plan case line_room)
  where
    pick : (o : Opened) → OnOpened plan case line_room o → Claims InAll plan case (answer_opened line_room event_room o)
    pick (stopped a) h = refused_claims InAll plan case line_room event_room a h
    pick (incomplete roster) h =
        claims InAll plan case (answer_opened line_room event_room (incomplete roster)) h.0 h.1 h.2 h.3
        (subst (λ (r : ℕ). Claimed InAll r (answer_opened line_room event_room (incomplete roster))) (sym h.4)
        (written_claimed InAll line_room event_room roster (subst (λ (r : ℕ). r < 2 ^ 64) h.4 (fits h.0 case h.1 h.3)) (bare_line 5) bare_proper (bare_parted roster) [] 0))
    pick (ready P C bs) h =
        claims InAll plan case (answer_opened line_room event_room (ready P C bs)) P C h.accepted h.read (answer_claimed plan case line_room P C bs h event_room)

shown : (plan case : List ℕ) (number line_room event_room : ℕ) → Claims InOne plan case (show plan case number line_room event_room)
unfolding show
shown plan case number line_room event_room = pick (opened plan case line_room) (opened_law plan case line_room)
  where
    pick : (o : Opened) → OnOpened plan case line_room o → Claims InOne plan case (show_opened number line_room event_room o)
    pick (stopped a) h = refused_claims InOne plan case line_room event_room a h
    pick (incomplete roster) h = refused_claims InOne plan case line_room event_room (Refused 14 0) (λ e. omega arith)
    pick (ready P C bs) h =
        let ws = all_worlds P C bs in
        let Good = PartedIn P (case_heading C).roster in
        claims InOne plan case (show_opened number line_room event_room (ready P C bs)) P C h.accepted h.read
        (show_claimed plan case line_room P C bs h event_room (length ws) (drop number ws)
        (all_parts Good (take number ws) (drop number ws) (subst (All Good) (sym (take-append-drop number ws)) (all_parted plan case line_room P C bs h))).1)

-- ---- THE LINES OF AN ANSWERED CASE

pub answered_partition : (plan case : List ℕ) (line_room event_room : ℕ) → (told (answer plan case line_room event_room).answer).refusal ≡ 0
    → (P : Plan) (C : Case) → checked_plan plan ≡ fine P → read_case P case ≡ fine C
    → Partitioned InAll (case_heading C).roster (answer plan case line_room event_room).lines (told (answer plan case line_room event_room).answer).lines
answered_partition plan case line_room event_room = (answered plan case line_room event_room).lines

-- ---- AND OF A SHOWN WORLD

pub shown_partition : (plan case : List ℕ) (number line_room event_room : ℕ) → (told (show plan case number line_room event_room).answer).refusal ≡ 0
    → (P : Plan) (C : Case) → checked_plan plan ≡ fine P → read_case P case ≡ fine C
    → Partitioned InOne (case_heading C).roster (show plan case number line_room event_room).lines (told (show plan case number line_room event_room).answer).lines
shown_partition plan case number line_room event_room = (shown plan case number line_room event_room).lines

-- ---- whatever is answered, of every place in the buffer

pub answered_apart : (plan case : List ℕ) (line_room event_room : ℕ) → Apart (answer plan case line_room event_room).lines
answered_apart plan case line_room event_room = (answered plan case line_room event_room).buffer

pub shown_apart : (plan case : List ℕ) (number line_room event_room : ℕ) → Apart (show plan case number line_room event_room).lines
shown_apart plan case number line_room event_room = (shown plan case number line_room event_room).buffer
