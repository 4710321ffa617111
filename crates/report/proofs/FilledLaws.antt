-- Lent buffers filled from their start, and zero behind.
use mathlib.Core.Path.{◌≡◌, refl, sym, ap, ap₂, ◌∙◌}
use mathlib.Core.Bool.{Bool, true, false}
use mathlib.Core.List.{List, [], ◌∷◌, ◌++◌, map, flat_map}
use Prim.Native.Nat.{ℕ, suc, ◌+◌, ◌*◌, ◌-◌, ◌≤◌}
use native.Mathlib.Omega.{arith}
use lib.ListN.{length, drop, replicate, length-map, length-append}
use borrow.Author.Tests.{le-ltb}
use Rattle.sets.specs.paper.Sets.{size, members}
use Rattle.sets.proofs.MemberLaws.{members-length}
use Rattle.page.proofs.ZeroLaws.{zeros-drop}
use Rattle.report.specs.paper.EventList.{event_length}
use Rattle.report.specs.paper.Line.{Line, line_bytes, bare_line, line_length}
use Rattle.report.specs.paper.Operations.{Outcome, filled, written}
use Rattle.report.specs.code.Bare.{worldless, Worldless}
use Rattle.report.specs.declared.Answer.TheVariants.{Answered, Refused}
use Rattle.report.specs.declared.run.Wanted.{Wanted}
use Rattle.report.proofs.LinesAt.{line-length}

-- one line after another
flat_lines : {A : Type 0} (f : A → Line) (xs : List A) → flat_map (λ x. line_bytes (f x)) xs ≡ flat_map (λ b. b) (map line_bytes (map f xs))
unfolding flat_map
flat_lines f [] = refl
flat_lines f (x ∷ xs) = ap (λ (l : List ℕ). line_bytes (f x) ++ l) (flat_lines f xs)

pub lines-length : (ls : List Line) → length (flat_map (λ b. b) (map line_bytes ls)) ≡ line_length * length ls
unfolding flat_map
lines-length [] = refl
lines-length (l ∷ ls) =
    length-append (line_bytes l) (flat_map (λ b. b) (map line_bytes ls))
    ∙ (let a = line-length l in let b = lines-length ls in
    let z : length (line_bytes l) + length (flat_map (λ b. b) (map line_bytes ls)) ≡ line_length * suc (length ls) = omega arith in z)

pub lines-filled : (f : ℕ → Line) (roster : ℕ) (before after : List ℕ) → before ≡ replicate (length before) 0
    → after ≡ flat_map (λ p. line_bytes (f p)) (members roster) ++ drop (line_length * size roster) before
    → after ≡ filled (length before) (map line_bytes (map f (members roster)))
lines-filled f roster before after z h =
    let s = flat_map (λ b. b) (map line_bytes (map f (members roster))) in
    let n : line_length * size roster ≡ length s =
    sym (lines-length (map f (members roster)) ∙ ap (λ (k : ℕ). line_length * k) (length-map (members roster) f ∙ members-length roster)) in
    h
    ∙ ap₂ ◌++◌ (flat_lines f (members roster))
    (ap₂ drop n z ∙ zeros-drop (length before) (length s))

-- all that fits
pub written-told : (line_room event_room : ℕ) (ls : List Line) (es : List (List ℕ)) (lines events : List ℕ) (people total n : ℕ) → event_length * length es ≤ event_room
    → people ≡ length ls → total ≡ length es → lines ≡ filled line_room (map line_bytes ls) → events ≡ filled event_room es
    → record { answer = Answered people total n; lines = lines; events = events } ≡ written line_room event_room ls es n
unfolding written
written-told line_room event_room ls es lines events people total n h p t l e =
    rw (le-ltb event_room (event_length * length es) h, p, t, l, e)

no-events : (n : ℕ) → replicate n 0 ≡ filled n []
unfolding flat_map
no-events n = ap (λ (k : ℕ). replicate {A = ℕ} k 0) (let z : n ≡ n - 0 = omega arith in z)

-- ---- kinds 5 and 6

module _ (w : Wanted) (kind roster : ℕ) (before : List ℕ) where
  by_wanted : (b : Bool) → w.all ≡ b → (room : ℕ) → worldless b kind roster (length before) room ≡ worldless w.all kind roster (length before) room
  by_wanted b e room = ap (λ (a : Bool). worldless a kind roster (length before) room) (sym e)

  abbrev refused_with : ℕ → List ℕ → Outcome
  refused_with room l = record { answer = Refused 14 0; lines = l; events = replicate room 0 }

  pub bare_refused : w.all ≡ false → Worldless w kind roster before before (Refused 14 0)
  unfolding worldless
  bare_refused e = record {
    at = λ room z. ap (refused_with room) z ∙ by_wanted false e room;
  }

  pub bare_told : (after : List ℕ) (n : ℕ) → w.all ≡ true → n ≡ size roster
      → after ≡ flat_map (λ p. line_bytes (bare_line kind p)) (members roster) ++ drop (line_length * size roster) before
      → Worldless w kind roster before after (Answered n 0 0)
  unfolding worldless
  bare_told after n e k h = record {
    at = λ room z.
        written-told (length before) room (map (bare_line kind) (members roster)) [] after (replicate room 0) n 0 0 (omega arith)
        (k ∙ sym (length-map (members roster) (bare_line kind) ∙ members-length roster)) refl (lines-filled (bare_line kind) roster before after z h) (no-events room)
        ∙ by_wanted true e room;
  }

pub ruleset bare = (bare_refused, bare_told)
