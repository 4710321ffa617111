-- What is listed of an answer.
use mathlib.Core.Path.{◌≡◌, refl, sym, ap, ◌∙◌, subst}
use mathlib.Core.Bool.{Bool, true, false, cond}
use mathlib.Core.List.{List, [], map}
use Prim.Native.Nat.{ℕ, zero, suc, ◌*◌, ◌≤◌}
use native.Mathlib.Omega.{arith}
use lib.ListN.{length}
use lib.Seq.{length-take-le}
use lib.Dec.{ltb}
use Rattle.page.specs.Page.{Page, puts, begun}
use Rattle.page.proofs.PageLaws.{puts-begun, begun-inside}
use Rattle.report.specs.paper.Line.{Line, line_bytes, line_length}
use Rattle.report.specs.paper.LineAt.{lines_from}
use Rattle.report.specs.paper.EventList.{event_length}
use Rattle.report.specs.declared.Answer.{Answer}
use Rattle.report.specs.declared.Answer.TheVariants.{Answered, Refused}
use Rattle.report.specs.paper.Operations.{told, Opened, stopped, incomplete, ready, opened, Outcome, filled, refusal, written, answer_ready, answer_opened, answer}
use Rattle.report.proofs.FewLines.{lines-few}
use Rattle.report.proofs.OpenedLaws.{OnOpened, opened_law}
use Rattle.listing.specs.Text.{table, refused_row}
use Rattle.listing.specs.Listing.{longest, text_of, outcome_text, listing}
use Rattle.listing.specs.Shown.{Listed}

-- a refusal has a number that is not 0
abbrev Named : Answer → Type 0
Named a = (n k : ℕ) → a ≡ Refused n k → n ≡ 0 → ⊥

stopped_named : (a : Answer) → ((told a).refusal ≡ 0 → ⊥) → Named a
stopped_named a h n k e z = h (ap (λ (x : Answer). (told x).refusal) e ∙ z)

written_named : (l e : ℕ) (ls : List Line) (es : List (List ℕ)) (w : ℕ) → Named (written l e ls es w).answer
unfolding written
written_named l e ls es w = pick (ltb e (event_length * length es))
  where
    pick : (b : Bool) → Named (cond b (refusal l e (Refused 13 0)) (record { answer = Answered (length ls) (length es) w; lines = filled l (map line_bytes ls); events = filled e es })).answer
    pick true n k h z = let f : ◌≡◌ {A = ℕ} 13 n = cc in omega arith
    pick false n k h z = cc

pub named : (plan case : List ℕ) (l e : ℕ) → Named (answer plan case l e).answer
unfolding answer answer_ready
named plan case l e = over (opened plan case l) (opened_law plan case l)
  where
    over : (o : Opened) → OnOpened plan case l o → Named (answer_opened l e o).answer
    over (stopped a) h = stopped_named a h
    over (incomplete roster) h = written_named l e _ [] 0
    over (ready P C bs) h = written_named l e _ _ _

module _ (plan case lines₀ events₀ lines₁ events₁ : List ℕ) (a : Answer)
    (answered : ◌≡◌ {A = Outcome} (record { answer = a; lines = lines₁; events = events₁ }) (answer plan case (length lines₀) (length events₀))) where
  pub told-few : (n : ℕ) → (told a).lines ≡ n → length lines₁ ≡ length lines₀ → (n ≤ 64) × (line_length * n ≤ length lines₁)
  told-few n e h = let few = lines-few plan case (length lines₀) (length events₀) a lines₁ events₁ answered h in (omega (arith, few.0, e), omega (arith, few.1, e))

  pub refused_named : (n k : ℕ) → a ≡ Refused n k → n ≡ 0 → ⊥
  refused_named n k e = named plan case (length lines₀) (length events₀) n k (sym (ap (λ (o : Outcome). o.answer) answered) ∙ e)

  text_is : listing plan case (length lines₀) (length events₀) ≡ text_of (told a) lines₁
  unfolding listing
  text_is = sym (ap outcome_text answered)

  module _ (out₀ out₁ : List ℕ) (r : ℕ) where
    listed : (text : List ℕ) → text_of (told a) lines₁ ≡ text → ◌≡◌ {A = Page} (record { count = r; out = out₁ }) (puts (record { count = 0; out = out₀ }) text) → length text ≤ longest
        → Listed plan case lines₀ events₀ out₀ lines₁ events₁ out₁ r
    listed text e f g = record {
      lines = ap (λ (o : Outcome). o.lines) answered;
      events = ap (λ (o : Outcome). o.events) answered;
      text = is;
      inside = (fits, sym (length-take-le r out₁ fits));
      short = subst (λ (s : List ℕ). length s ≤ longest) (sym (text_is ∙ e)) g;
    }
      where
        is : ◌≡◌ {A = Page} (record { count = r; out = out₁ }) (begun (listing plan case (length lines₀) (length events₀)) out₀)
        is = f ∙ puts-begun text out₀ ∙ ap (λ (s : List ℕ). begun s out₀) (sym (text_is ∙ e))

        fits : r ≤ length out₁
        fits = subst (λ (p : Page). p.count ≤ length p.out) (sym is) (begun-inside (listing plan case (length lines₀) (length events₀)) out₀)

    pub listed-refused : (n k : ℕ) → (told a).refusal ≡ n → (told a).«record» ≡ k → (n ≡ 0 → ⊥) → ◌≡◌ {A = Page} (record { count = r; out = out₁ }) (puts (record { count = 0; out = out₀ }) (refused_row n k))
        → length (refused_row n k) ≤ longest → Listed plan case lines₀ events₀ out₀ lines₁ events₁ out₁ r
    listed-refused n k e f z = listed (refused_row n k) (pick (told a).refusal n (sym e) z ∙ ap (refused_row n) f)
      where
        pick : (m k : ℕ) → k ≡ m → (k ≡ 0 → ⊥)
            → elim m [ zero ↦ table (lines_from lines₁ 0 (told a).lines) | suc n ↦ refused_row (suc n) (told a).«record» ] ≡ refused_row k (told a).«record»
        pick zero k e z = absurd (z e)
        pick (suc m) k e z = ap (λ (n : ℕ). refused_row n (told a).«record») (sym e)

    pub listed-table : (n : ℕ) → (told a).refusal ≡ 0 → (told a).lines ≡ n → ◌≡◌ {A = Page} (record { count = r; out = out₁ }) (puts (record { count = 0; out = out₀ }) (table (lines_from lines₁ 0 n)))
        → length (table (lines_from lines₁ 0 n)) ≤ longest → Listed plan case lines₀ events₀ out₀ lines₁ events₁ out₁ r
    listed-table n e f = listed (table (lines_from lines₁ 0 n)) (pick (told a).refusal e ∙ ap (λ (n : ℕ). table (lines_from lines₁ 0 n)) f)
      where
        pick : (m : ℕ) → m ≡ 0
            → elim m [ zero ↦ table (lines_from lines₁ 0 (told a).lines) | suc n ↦ refused_row (suc n) (told a).«record» ] ≡ table (lines_from lines₁ 0 (told a).lines)
        pick zero e = refl
        pick (suc m) e = absurd (omega arith)
