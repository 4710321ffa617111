-- Copying the pairs of a list out of the bytes, one after another, whatever a pair makes.
use mathlib.Core.Path.{◌≡◌, refl, sym, ap, ap₂, ◌∙◌}
use mathlib.Core.List.{List, [], ◌∷◌, ◌++◌}
use Prim.Native.Nat.{ℕ, zero, suc, ◌+◌, ◌*◌, ◌<◌}
use native.Mathlib.Omega.{arith}
use lib.ListN.{length, get_or, set}
use lib.Seq.{get_or-set_same, get_or-set_other}
use Rattle.sets.specs.paper.Sets.{below}
use Rattle.records.specs.code.Readers.{bytes_from}
use Rattle.records.proofs.Listing.{below_more, below_ext}

-- ---- pairs: `all` takes the bytes two by two

module _ {A : Type 0} (make : ℕ → ℕ → A) (all : List ℕ → List A) (none : all [] ≡ []) (more : (x y : ℕ) (bs : List ℕ) → all (x ∷ y ∷ bs) ≡ make x y ∷ all bs) where
  pairs-more : (s : List ℕ) (at n m : ℕ) → m ≡ n * 2 → all (bytes_from s at (suc (suc m))) ≡ all (bytes_from s at m) ++ (make (get_or s (at + m) 0) (get_or s (at + m + 1) 0) ∷ [])
  unfolding bytes_from
  pairs-more s at zero zero e =
      more (get_or s at 0) (get_or s (at + 1) 0) [] ∙ rw none (ap₂ (λ (x y : ℕ). make (get_or s x 0) (get_or s y 0) ∷ []) (omega arith) (omega arith))
  pairs-more s at zero (suc m) e = absurd (omega (arith, e))
  pairs-more s at (suc n) zero e = absurd (omega (arith, e))
  pairs-more s at (suc n) (suc zero) e = absurd (omega (arith, e))
  pairs-more s at (suc n) (suc (suc m)) e =
      let rest = bytes_from s (at + 1 + 1) m in
      more (get_or s at 0) (get_or s (at + 1) 0) (bytes_from s (at + 1 + 1) (suc (suc m)))
      ∙ ap (λ (ds : List A). make (get_or s at 0) (get_or s (at + 1) 0) ∷ ds)
      (pairs-more s (at + 1 + 1) n m (omega (arith, e)) ∙ ap₂ (λ (x y : ℕ). all rest ++ (make (get_or s x 0) (get_or s y 0) ∷ [])) (omega arith) (omega arith))
      ∙ ap (λ (ds : List A). ds ++ (make (get_or s (at + suc (suc m)) 0) (get_or s (at + suc (suc m) + 1) 0) ∷ [])) (sym (more (get_or s at 0) (get_or s (at + 1) 0) rest))

  abbrev pub pair_of : List ℕ → List ℕ → ℕ → A
  pair_of es vs i = make (get_or es i 0) (get_or vs i 0)

  -- one more pair is copied
  pub copied : (s es vs : List ℕ) (at i : ℕ) → i < length es → i < length vs → below i (pair_of es vs) ≡ all (bytes_from s at (i * 2))
      → below (i + 1) (pair_of (set es i (get_or s (at + i * 2) 0)) (set vs i (get_or s (at + i * 2 + 1) 0))) ≡ all (bytes_from s at ((i + 1) * 2))
  copied s es vs at i h l e =
      let x = get_or s (at + i * 2) 0 in
      let y = get_or s (at + i * 2 + 1) 0 in
      let f = pair_of (set es i x) (set vs i y) in
      let n : suc (suc (i * 2)) ≡ (i + 1) * 2 = omega arith in
      below_more i f
      ∙ ap₂ (λ (ds : List A) (d : A). ds ++ (d ∷ []))
      (below_ext i f (pair_of es vs) (λ j k. ap₂ make (get_or-set_other es i j x 0 (λ q. omega (arith, q))) (get_or-set_other vs i j y 0 (λ q. omega (arith, q)))) ∙ e)
      (ap₂ make (get_or-set_same es i x 0 h) (get_or-set_same vs i y 0 l))
      ∙ sym (pairs-more s at i (i * 2) refl) ∙ ap (λ (k : ℕ). all (bytes_from s at k)) n
