-- Check a plan, answer a case, show a world. Document 01, "Refused, by operation": result, refusal and every byte of both lent buffers.
use Rattle.std.specs.Prelude.{Bool, ◌||◌, not, cond, ℕ, zero, suc, ◌*◌, ◌-◌, length, get_or, replicate, drop, eqb, ltb}
use mathlib.Core.List.{List, [], ◌∷◌, ◌++◌, map, flat_map}
use Rattle.sets.specs.paper.Sets.{subset, size, members}
use Rattle.records.specs.paper.Fields.{Verdict, fine, refused}
use Rattle.records.specs.paper.Plan.{Plan, checked_plan}
use Rattle.records.specs.code.Check.{checked_of}
use Rattle.records.specs.declared.checked.Checked.{Checked}
use Rattle.records.specs.declared.checked.Checked.TheVariants as checked
use Rattle.records.specs.paper.Case.{Case, CaseHeading, read_case, case_heading}
use Rattle.expressions.specs.paper.Rules.{rule_persons}
use Rattle.expressions.specs.paper.Bindings.{Bound, bindings, bindable, frame_of}
use Rattle.expressions.specs.paper.Variables.{Influence, world_count, ceiled, worlds, influence}
use Rattle.worlds.specs.paper.Active.{active}
use Rattle.worlds.specs.paper.World.{World, world_of}
use Rattle.worlds.specs.paper.View.{view}
use Rattle.worlds.specs.paper.Events.{events_of}
use Rattle.report.specs.paper.Line.{Line, line_bytes, line_length, bare_line, line_over, line_in}
use Rattle.report.specs.paper.EventList.{event_length, rising, default_events}
use Rattle.report.specs.declared.Answer.{Answer}
use Rattle.report.specs.declared.Answer.TheVariants.{Accepted, Answered, Refused, TooManyWorlds}

-- ---- document 01's number and values for each answer

pub record Told : Type 0 where
  -- 0: nothing is refused
  pub refusal : ℕ
  pub «record» : ℕ
  pub count : ℕ
  pub maximum : ℕ
  pub lines : ℕ
  pub events : ℕ
  pub worlds : ℕ

abbrev pub told : Answer → Told
told Accepted = record { refusal = 0; «record» = 0; count = 0; maximum = 0; lines = 0; events = 0; worlds = 0 }
told (Answered l e w) = record { refusal = 0; «record» = 0; count = 0; maximum = 0; lines = l; events = e; worlds = w }
told (Refused n r) = record { refusal = n; «record» = r; count = 0; maximum = 0; lines = 0; events = 0; worlds = 0 }
told (TooManyWorlds c m) = record { refusal = 11; «record» = 0; count = c; maximum = m; lines = 0; events = 0; worlds = 0 }

-- ---- check a plan

-- the answer of a check of records, as one of the operations'
abbrev pub answer_to : Checked → Answer
answer_to checked.Accepted = Accepted
answer_to (checked.Refused n k) = Refused n k

unfoldable pub check : List ℕ → Answer
check plan = answer_to (checked_of (checked_plan plan))

-- ---- the refusals 8 to 12 of a case

abbrev pub relation_of : Plan → ℕ
relation_of P = (get_or P.headings 0 (record { relation = 0; chain = [] })).relation

-- "9 relation differs, scope or segment empty, roster empty, a rule's person off the roster"
unfoldable pub mismatched : Plan → CaseHeading → Bool
mismatched P h =
    not (eqb h.relation (relation_of P))
    || (eqb h.scope 0 || (eqb h.segment 0 || (eqb h.roster 0 || not (subset (rule_persons P) h.roster))))

-- "8 segment not complete", 9, "12 lines do not fit"
unfoldable pub heading_fault : Plan → CaseHeading → ℕ → ℕ
heading_fault P h line_room =
    cond h.segment_complete (cond (mismatched P h) 9 (cond (ltb line_room (line_length * size h.roster)) 12 0)) 8

-- "11 more worlds, before constraints, than the heading allows, with that count and that maximum (both 2^64 − 1 from 2^64 on)"
unfoldable pub too_many : ℕ → ℕ → Answer
too_many count most = TooManyWorlds (ceiled count count) (ceiled count most)

-- what stands before the worlds are looked at
pub data Opened : Type 0 where
  stopped : Answer → Opened
  -- "An incomplete roster ends here with kind 5"
  incomplete : ℕ → Opened
  ready : Plan → Case → List Bound → Opened

abbrev pub or_stop : {A : Type 0} → Verdict A → (A → Opened) → Opened
or_stop (fine a) f = f a
or_stop (refused n k) f = stopped (Refused n k)

abbrev pub unless_fault : ℕ → Opened → Opened
unless_fault zero o = o
unless_fault (suc n) o = stopped (Refused (suc n) 0)

unfoldable pub counted : Plan → Case → List Bound → Opened
counted P C bs =
    cond (ltb (case_heading C).most_worlds (world_count P bs)) (stopped (too_many (world_count P bs) (case_heading C).most_worlds)) (ready P C bs)

-- "Then 5 a family twice; per boolean 10 …, 5 …; 11"
unfoldable pub bound_and_counted : Plan → Case → Opened
bound_and_counted P C = or_stop (bindable C) (λ C. counted P C (bindings P C))

unfoldable pub bound : Plan → Case → Opened
bound P C = cond (eqb (length (case_heading C).complete) 0) (incomplete (case_heading C).roster) (bound_and_counted P C)

-- "The plan's checks; on the case 1, 2, 3, then 4 …; 8; 9; 12. … Then 5 …; 10, 5; 11"
unfoldable pub opened : List ℕ → List ℕ → ℕ → Opened
opened plan case line_room =
    or_stop (checked_plan plan) (λ P. or_stop (read_case P case) (λ C. unless_fault (heading_fault P (case_heading C) line_room) (bound P C)))

-- ---- what comes back, with every byte of both lent buffers
pub record Outcome : Type 0 where
  pub answer : Answer
  pub lines : List ℕ
  pub events : List ℕ

-- "bytes past the results are zero"
abbrev pub filled : ℕ → List (List ℕ) → List ℕ
filled room parts = let s = flat_map (λ p. p) parts in s ++ replicate (room - length s) 0

-- "result buffers are all zero"
abbrev pub refusal : ℕ → ℕ → Answer → Outcome
refusal line_room event_room a = record { answer = a; lines = replicate line_room 0; events = replicate event_room 0 }

-- "13 more events than the buffer holds"
unfoldable pub written : ℕ → ℕ → List Line → List (List ℕ) → ℕ → Outcome
written line_room event_room ls es n =
    cond (ltb event_room (event_length * length es)) (refusal line_room event_room (Refused 13 0))
    (record { answer = Answered (length ls) (length es) n; lines = filled line_room (map line_bytes ls); events = filled event_room es })

module _ (P : Plan) (C : Case) (bs : List Bound) where
  abbrev pub roster : ℕ
  roster = (case_heading C).roster

  unfoldable pub influences : Influence
  influences = influence (frame_of P C) bs

  -- each admissible world, in order
  unfoldable pub all_worlds : List World
  all_worlds = let I = influences in map (λ v. world_of P roster I (active P v)) (worlds (frame_of P C) bs)

  -- "persons rising"
  unfoldable pub lines_over : List World → List Line
  lines_over ws = let I = influences in map (λ p. line_over I p (map (λ w. view P w p) ws)) (members roster)

  unfoldable pub events_over : List World → List (List ℕ)
  events_over [] = []
  events_over (w ∷ ws) = rising (flat_map (events_of P C roster) (w ∷ ws) ++ default_events P C)

  unfoldable pub lines_of : World → List Line
  lines_of w = map (λ p. line_in p (view P w p)) (members roster)

-- ---- ANSWER A CASE

unfoldable pub answer_ready : ℕ → ℕ → Plan → Case → List Bound → List World → Outcome
answer_ready line_room event_room P C bs ws = written line_room event_room (lines_over P C bs ws) (events_over P C bs ws) (length ws)

abbrev pub answer_opened : ℕ → ℕ → Opened → Outcome
answer_opened line_room event_room (stopped a) = refusal line_room event_room a
answer_opened line_room event_room (incomplete roster) = written line_room event_room (map (bare_line 5) (members roster)) [] 0
answer_opened line_room event_room (ready P C bs) = answer_ready line_room event_room P C bs (all_worlds P C bs)

unfoldable pub answer : List ℕ → List ℕ → ℕ → ℕ → Outcome
answer plan case line_room event_room = answer_opened line_room event_room (opened plan case line_room)

-- ---- SHOW A WORLD, "counted from 0 among admissible ones": "14 no such world (always for kinds 5, 6), then 13"

unfoldable pub show_from : ℕ → ℕ → Plan → Case → List Bound → ℕ → List World → Outcome
show_from line_room event_room P C bs n [] = refusal line_room event_room (Refused 14 0)
show_from line_room event_room P C bs n (w ∷ ws) =
    written line_room event_room (lines_of P C bs w) (rising (events_of P C (case_heading C).roster w)) n

abbrev pub show_ready : ℕ → ℕ → ℕ → Plan → Case → List Bound → List World → Outcome
show_ready number line_room event_room P C bs ws = show_from line_room event_room P C bs (length ws) (drop number ws)

abbrev pub show_opened : ℕ → ℕ → ℕ → Opened → Outcome
show_opened number line_room event_room (stopped a) = refusal line_room event_room a
show_opened number line_room event_room (incomplete roster) = refusal line_room event_room (Refused 14 0)
show_opened number line_room event_room (ready P C bs) = show_ready number line_room event_room P C bs (all_worlds P C bs)

unfoldable pub show : List ℕ → List ℕ → ℕ → ℕ → ℕ → Outcome
show plan case number line_room event_room = show_opened number line_room event_room (opened plan case line_room)
