-- How many lines an answer has: no more than persons, and than the buffer holds.
use mathlib.Core.Path.{◌≡◌, refl, sym, subst}
use mathlib.Core.Bool.{Bool, true, false, cond}
use mathlib.Core.List.{List, [], map}
use Prim.Native.Nat.{ℕ, ◌*◌, ◌-◌, ◌≤◌}
use native.Mathlib.Omega.{arith}
use lib.ListN.{length, length-append, length-map, length-replicate, replicate}
use lib.Dec.{ltb}
use Rattle.sets.specs.paper.Sets.{members}
use Rattle.sets.proofs.SetLaws.{size_le}
use Rattle.sets.proofs.MemberLaws.{members-length}
use Rattle.report.specs.paper.Line.{Line, line_bytes, bare_line, line_length}
use Rattle.report.specs.paper.EventList.{event_length}
use Rattle.report.specs.declared.Answer.{Answer}
use Rattle.report.specs.declared.Answer.TheVariants.{Accepted, Answered, Refused, TooManyWorlds}
use Rattle.report.specs.paper.Operations.{told, Opened, stopped, incomplete, ready, opened, Outcome, filled, refusal, written, lines_over, answer_ready, answer_opened, answer}
use Rattle.report.proofs.LinesAt.{run}
use Rattle.report.proofs.FilledLaws.{lines-length}
use Rattle.report.proofs.OpenedLaws.{OnOpened, opened_law}

-- of an outcome whose buffer of lines is as long as the one lent
abbrev Few : ℕ → Outcome → Type 0
Few l o = length o.lines ≡ l → ((told o.answer).lines ≤ 64) × (line_length * (told o.answer).lines ≤ l)

written-few : (l e roster : ℕ) (line : ℕ → Line) (es : List (List ℕ)) (n : ℕ) → Few l (written l e (map line (members roster)) es n)
unfolding written
written-few l e roster line es n = pick (ltb e (event_length * length es))
  where
    ls : List Line
    ls = map line (members roster)

    pick : (b : Bool) → Few l (cond b (refusal l e (Refused 13 0)) (record { answer = Answered (length ls) (length es) n; lines = filled l (map line_bytes ls); events = filled e es }))
    pick true h = (omega arith, omega arith)
    pick false h =
        let a = length-append (run ls) (replicate (l - length (run ls)) 0) in
        let b = length-replicate {A = ℕ} (l - length (run ls)) 0 in
        let c = lines-length ls in
        let d = length-map (members roster) line in
        let f = members-length roster in
        let g = size_le roster in
        (omega arith, omega arith)

refused-few : (l e : ℕ) (a : Answer) → ((told a).refusal ≡ 0 → ⊥) → Few l (refusal l e a)
refused-few l e Accepted n h = absurd (n refl)
refused-few l e (Answered x y z) n h = absurd (n refl)
refused-few l e (Refused x y) n h = (omega arith, omega arith)
refused-few l e (TooManyWorlds x y) n h = (omega arith, omega arith)

answered_few : (plan case : List ℕ) (l e : ℕ) → Few l (answer plan case l e)
unfolding answer answer_ready lines_over
answered_few plan case l e = over (opened plan case l) (opened_law plan case l)
  where
    over : (o : Opened) → OnOpened plan case l o → Few l (answer_opened l e o)
    over (stopped a) h = refused-few l e a h
    over (incomplete roster) h = written-few l e roster (bare_line 5) [] 0
    over (ready P C bs) h = written-few l e _ _ _ _

-- of an answer that was given
pub lines-few : (plan case : List ℕ) (l e : ℕ) (a : Answer) (ls es : List ℕ) → ◌≡◌ {A = Outcome} (record { answer = a; lines = ls; events = es }) (answer plan case l e)
    → length ls ≡ l → ((told a).lines ≤ 64) × (line_length * (told a).lines ≤ length ls)
lines-few plan case l e a ls es answered h = let few = subst (Few l) (sym answered) (answered_few plan case l e) h in (few.0, omega (arith, few.1, h))
