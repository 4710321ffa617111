-- A text that is put apart into zeros first, for its length, and then into the lent buffer.
use mathlib.Core.Path.{◌≡◌, sym, ap, ap₂, ◌∙◌}
use mathlib.Core.List.{List, ◌++◌}
use Prim.Native.Nat.{ℕ, ◌-◌, ◌≤◌, ◌<◌}
use native.Mathlib.Omega.{arith}
use lib.ListN.{length, take, replicate}
use lib.Seq.{take-append_seam}
use Rattle.records.specs.paper.Fields.{fine, refused}
use Rattle.page.specs.Page.{Page, puts}
use Rattle.page.proofs.PageLaws.{puts-zeros}
use Rattle.encoding.specs.paper.Placed.{Kept, kept}
use Rattle.encoding.proofs.PlacedLaws.{kept-fits, kept-not}

module _ (t : List ℕ) (most : ℕ) (short : length t ≤ most) (p : Page) (apart : p ≡ puts (record { count = 0; out = replicate most 0 }) t) where
  whole : p ≡ record { count = length t; out = t ++ replicate (most - length t) 0 }
  whole = apart ∙ puts-zeros t most short

  pub long_put : p.count ≡ length t
  long_put = ap (λ (q : Page). q.count) whole

  front_put : take p.count p.out ≡ t
  front_put = ap (λ (q : Page). take q.count q.out) whole ∙ take-append_seam t (replicate (most - length t) 0)

  module _ (number : ℕ) (out : List ℕ) (zeros : out ≡ replicate (length out) 0) where
    pub not-kept : length out < p.count → ◌≡◌ {A = Kept} (record { answer = refused number 0; bytes = out }) (kept (length out) number t)
    not-kept l =
        ap (λ (bs : List ℕ). record { answer = refused number 0; bytes = bs }) zeros ∙ sym (kept-not (length out) number t (let e = long_put in omega arith))

    pub is_kept : (q : Page) → p.count ≤ length out → q ≡ puts (record { count = 0; out = out }) (take p.count p.out)
        → ◌≡◌ {A = Kept} (record { answer = fine p.count; bytes = q.out }) (kept (length out) number t)
    is_kept q l e =
        ap₂ (λ (n : ℕ) (bs : List ℕ). record { answer = fine n; bytes = bs }) long_put (ap (λ (r : Page). r.out) filled)
        ∙ sym (kept-fits (length out) number t room)
      where
        room : length t ≤ length out
        room = let k = long_put in omega arith

        filled : q ≡ record { count = length t; out = t ++ replicate (length out - length t) 0 }
        filled = e ∙ ap₂ (λ (bs text : List ℕ). puts (record { count = 0; out = bs }) text) zeros front_put ∙ puts-zeros t (length out) room
