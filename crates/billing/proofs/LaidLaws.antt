-- Units laid in arrays of 64, one after another.
use mathlib.Core.Path.{◌≡◌, refl, sym, ap, ap₂, ◌∙◌}
use mathlib.Core.Bool.{Bool, false}
use mathlib.Core.List.{List, [], ◌∷◌, ◌++◌, map, map-append, map-map}
use Prim.Native.Nat.{ℕ, zero, suc, ◌+◌, ◌-◌, ◌≤◌, ◌<◌}
use native.Mathlib.Omega.{arith}
use lib.ListN.{length, get_or, take, set, replicate, length-append, length-map}
use lib.Seq.{length-take-le, take_all, take-suc, set-append_seam, append_snoc}
use Rattle.report.specs.paper.Line.{Line}
use Rattle.report.specs.paper.Units.{units}
use Rattle.billing.specs.paper.Pools.{shares, pool_of, mark_of, unit_pool, pools}
use Rattle.billing.specs.Shown.{padded, laid}
use Rattle.billing.specs.declared.pools.Pools.{Pools}

-- one more entry
padded-set : {A : Type 0} (none : A) (xs : List A) (x : A) → length xs < 64 → set (padded none xs) (length xs) x ≡ padded none (xs ++ (x ∷ []))
padded-set none xs x h = go (64 - length xs) refl
  where
    go : (j : ℕ) → 64 - length xs ≡ j → set (xs ++ replicate j none) (length xs) x ≡ padded none (xs ++ (x ∷ []))
    go zero e = absurd (omega arith)
    go (suc j) e =
        let l = length-append xs (x ∷ []) in
        set-append_seam xs none (replicate j none) x ∙ sym (append_snoc xs x (replicate j none))
        ∙ ap (λ (k : ℕ). (xs ++ (x ∷ [])) ++ replicate k none) (let f : j ≡ 64 - length (xs ++ (x ∷ [])) = omega arith in f)

-- ---- what is made of the first i entries

module _ {A B : Type 0} (none : A) (f : B → A) (us : List B) where
  abbrev pub made_of : ℕ → List A
  made_of i = padded none (map f (take i us))

  pub made-next : (d : B) (i : ℕ) (xs : List A) (x : A) → i < length us → length us ≤ 64 → xs ≡ made_of i → x ≡ f (get_or us i d) → set xs i x ≡ made_of (i + 1)
  made-next d i xs x h l g e =
      ap₂ (λ (xs : List A) (x : A). set xs i x) g e ∙ ap (λ (k : ℕ). set (made_of i) k (f (get_or us i d))) (sym n)
      ∙ padded-set none (map f (take i us)) (f (get_or us i d)) (omega (arith, n))
      ∙ ap (padded none) (sym (map-append f (take i us) (get_or us i d ∷ [])) ∙ ap (map f) (sym (take-suc us i d h)) ∙ ap (λ (k : ℕ). map f (take k us)) (let s : suc i ≡ i + 1 = omega arith in s))
    where
      n : length (map f (take i us)) ≡ i
      n = length-map (take i us) f ∙ length-take-le i us (omega arith)

  pub made_all : (i : ℕ) → length us ≤ i → made_of i ≡ padded none (map f us)
  made_all i h = ap (λ (us : List B). padded none (map f us)) (take_all i us h)

-- ---- all of it

pub laid_is : (ls : List Line) (cs blocks cents : List ℕ) (marks : List Bool) (count left sum : ℕ) → count ≡ length (units ls) → blocks ≡ padded 0 (map (λ b. b) (units ls))
    → cents ≡ padded 0 (map (pool_of (shares ls cs)) (units ls)) → marks ≡ padded false (map (mark_of ls) (units ls)) → left ≡ sum
    → ◌≡◌ {A = Pools} (record { count = count; blocks = blocks; cents = cents; marks = marks; unplaced = left }) (laid (pools ls cs) sum)
unfolding pools laid
laid_is ls cs blocks cents marks count left sum e f g h i =
    let made = unit_pool ls cs in
    rw (e, f, g, h, i, length-map (units ls) made, map-map (λ u. u.block) made (units ls), map-map (λ u. u.cents) made (units ls), map-map (λ u. u.marked) made (units ls)) refl
