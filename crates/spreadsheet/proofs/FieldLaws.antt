-- Laws of one field: scans to the bytes that end it, fields without quote, CR and LF, and what stands behind a field.
use mathlib.Core.Path.{◌≡◌, refl, ap, sym, ◌∙◌}
use mathlib.Core.Bool.{Bool, true, false, cond}
use mathlib.Core.Logic.{⊎_elim}
use mathlib.Core.List.{List, [], ◌∷◌}
use Prim.Native.Nat.{ℕ, suc, ◌+◌, ◌-◌, ◌≤◌, ◌<◌}
use native.Mathlib.Omega.{arith}
use native.Mathlib.Nat.{add-zero}
use lib.ListN.{length, take, drop, get_or, drop_of_length-le, length-drop}
use lib.Seq.{drop-cons, get_or-drop, drop-drop}
use lib.Dec.{eqb}
use borrow.Author.Tests.{eqb-true, eq-eqb, ne_eqb}
use Rattle.sets.specs.paper.Sets.{any_of}
use Rattle.sets.proofs.Local.{which}
use Rattle.spreadsheet.specs.paper.Quoting.{Field, text, strange, ends, plain, quoted, push, field_of}
use Rattle.spreadsheet.specs.paper.Rows.{comma, last}
use Rattle.spreadsheet.specs.code.FieldSeen.{until, clean, clean_at, within}
use Rattle.spreadsheet.specs.declared.field.Field.{Field as Seen}
use Rattle.spreadsheet.specs.declared.field.Field.TheVariants.{Text, Odd}

-- ---- scans

module _ (f : ℕ → Bool) (s : List ℕ) (i : ℕ) where
  pub until_none : length s ≤ i → until f (drop i s) ≡ 0
  unfolding until
  until_none h = rw drop_of_length-le

  pub until_stop : i < length s → f (get_or s i 0) ≡ true → until f (drop i s) ≡ 0
  unfolding until
  until_stop h e = rw (drop-cons s i 0, e)

  pub until-on : i < length s → f (get_or s i 0) ≡ false → until f (drop i s) ≡ suc (until f (drop (suc i) s))
  unfolding until
  until-on h e = rw (drop-cons s i 0, e)

-- ---- a field without quote, CR and LF

pub push-strange : (b : ℕ) (f : Field) → strange b ≡ true → clean (push b f) ≡ Field.broken
unfolding clean any_of
push-strange b (text t rest) e = rw e
push-strange b Field.broken e = refl

push-cond : (b : ℕ) (x : Bool) (t rest : List ℕ) → cond x Field.broken (text (b ∷ t) rest) ≡ push b (cond x Field.broken (text t rest))
push-cond b true t rest = refl
push-cond b false t rest = refl

pub push-clean : (b : ℕ) (f : Field) → strange b ≡ false → clean (push b f) ≡ push b (clean f)
unfolding clean any_of
push-clean b (text t rest) e = rw e (push-cond b (any_of strange t) t rest)
push-clean b Field.broken e = refl

neither : (x y : Bool) → cond x true y ≡ false → y ≡ false
neither true y e = cc
neither false y e = e

ends-strange : (b : ℕ) → ends b ≡ false → strange b ≡ false
unfolding ends
ends-strange b e = neither (eqb b 44) (strange b) e

plain-clean : (s : List ℕ) → clean (plain s) ≡ text (take (until ends s) s) (drop (until ends s) s)
unfolding clean plain until any_of
plain-clean [] = refl
plain-clean (b ∷ s) = ⊎_elim
    (λ e. rw e refl)
    (λ e. rw e (push-clean b (plain s) (ends-strange b e) ∙ ap (push b) (plain-clean s)))
    (which (ends b))

-- ---- within quotes

-- what both readings of quotes have in common: up to the first strange byte, which must be a quote that stands alone
unfoldable pub inner : List ℕ → Field
inner [] = Field.broken
inner (b ∷ s) = cond (strange b) (cond (eqb b 34) (cond (eqb (get_or s 0 0) 34) Field.broken (text [] s)) Field.broken) (push b (inner s))

pub closing : (s : List ℕ) → clean (quoted 34 s) ≡ cond (eqb (get_or s 0 0) 34) Field.broken (text [] s)
unfolding clean quoted any_of strange
closing [] = refl
closing (c ∷ s) = ⊎_elim
    (λ e. rw e (push-strange 34 (quoted 0 s) refl))
    (λ e. rw e refl)
    (which (eqb c 34))

module _ (b : ℕ) where
  pub is_quote : eqb b 34 ≡ true → strange b ≡ true
  unfolding strange
  is_quote e = rw e

  is_return : eqb b 13 ≡ true → strange b ≡ true
  unfolding strange
  is_return e = rw (eqb-true b 13 e)

  is_feed : eqb b 10 ≡ true → strange b ≡ true
  unfolding strange
  is_feed e = rw (eqb-true b 10 e)

  not-feed : eqb b 34 ≡ true → eqb b 10 ≡ false
  not-feed e = rw (eqb-true b 34 e)

  not-strange : eqb b 34 ≡ false → eqb b 13 ≡ false → eqb b 10 ≡ false → strange b ≡ false
  unfolding strange
  not-strange e f g = rw (e, f, g)

pub quoted-clean : (p : ℕ) (s : List ℕ) → eqb p 34 ≡ false → eqb p 13 ≡ false → clean (quoted p s) ≡ inner s
unfolding clean quoted inner
quoted-clean p [] e f = rw e
quoted-clean p (b ∷ s) e f = ⊎_elim
    (λ (q : eqb b 34 ≡ true). rw (e, f, not-feed b q, is_quote b q, q) (closing s))
    (λ (q : eqb b 34 ≡ false). ⊎_elim
    (λ (l : eqb b 10 ≡ true). rw (e, f, l, is_feed b l, q) refl)
    (λ (l : eqb b 10 ≡ false). ⊎_elim
    (λ (r : eqb b 13 ≡ true). rw (e, f, l, q, is_return b r) (push-strange b (quoted b s) (is_return b r)))
    (λ (r : eqb b 13 ≡ false). rw (e, f, l, q, not-strange b q r l) (push-clean b (quoted b s) (not-strange b q r l) ∙ ap (push b) (quoted-clean b s q r)))
    (which (eqb b 13)))
    (which (eqb b 10)))
    (which (eqb b 34))

push_cond2 : (b : ℕ) (x y : Bool) (t rest : List ℕ) → push b (cond x (cond y Field.broken (text t rest)) Field.broken) ≡ cond x (cond y Field.broken (text (b ∷ t) rest)) Field.broken
push_cond2 b true true t rest = refl
push_cond2 b true false t rest = refl
push_cond2 b false y t rest = refl

inner_at : (s : List ℕ) → inner s ≡ cond (eqb (get_or s (until strange s) 0) 34) (cond (eqb (get_or s (suc (until strange s)) 0) 34) Field.broken (text (take (until strange s) s) (drop (suc (until strange s)) s))) Field.broken
unfolding inner until
inner_at [] = refl
inner_at (b ∷ s) = ⊎_elim
    (λ (e : strange b ≡ true). rw e refl)
    (λ (e : strange b ≡ false). rw (e, inner_at s) (push_cond2 b (eqb (get_or s (until strange s) 0) 34) (eqb (get_or s (suc (until strange s)) 0) 34) (take (until strange s) s) (drop (suc (until strange s)) s)))
    (which (strange b))

module _ (s : List ℕ) (at e : ℕ) (is : e ≡ at + until strange (drop at s)) where
  quoted_at : clean (quoted 0 (drop at s)) ≡ cond (eqb (get_or s e 0) 34) (cond (eqb (get_or s (e + 1) 0) 34) Field.broken (text (take (e - at) (drop at s)) (drop (e + 1) s))) Field.broken
  quoted_at =
      let k = until strange (drop at s) in
      let e1 : at + suc k ≡ e + 1 = omega arith in
      let e2 : k ≡ e - at = omega arith in
      quoted-clean 0 (drop at s) refl refl ∙ inner_at (drop at s)
      ∙ rw (get_or-drop at s k 0, get_or-drop at s (suc k) 0, drop-drop (suc k) at s, e1, ← is, e2) refl

  pub quoted-not : (get_or s e 0 ≡ 34 → ⊥) → Field.broken ≡ clean (quoted 0 (drop at s))
  quoted-not h = rw (quoted_at, ne_eqb _ 34 h)

  pub quoted_twice : get_or s e 0 ≡ 34 → get_or s (e + 1) 0 ≡ 34 → Field.broken ≡ clean (quoted 0 (drop at s))
  quoted_twice h g = rw (quoted_at, eq-eqb _ 34 h, eq-eqb _ 34 g)

  pub quoted-text : get_or s e 0 ≡ 34 → (get_or s (e + 1) 0 ≡ 34 → ⊥) → text (take (e - at) (drop at s)) (drop (e + 1) s) ≡ clean (quoted 0 (drop at s))
  quoted-text h g = rw (quoted_at, eq-eqb _ 34 h, ne_eqb _ 34 g)

module _ (s : List ℕ) (at : ℕ) where
  pub plain_at : (e : ℕ) → e ≡ at + until ends (drop at s) → text (take (e - at) (drop at s)) (drop e s) ≡ clean (plain (drop at s))
  plain_at e is =
      let k = until ends (drop at s) in
      let e2 : k ≡ e - at = omega arith in
      sym (plain-clean (drop at s) ∙ rw (drop-drop k at s, ← is, e2) refl)

  first : get_or (drop at s) 0 0 ≡ get_or s at 0
  first = get_or-drop at s 0 0 ∙ rw (add-zero) refl

  pub field-quoted : get_or s at 0 ≡ 34 → clean (quoted 0 (drop (at + 1) s)) ≡ clean_at (drop at s)
  unfolding field_of
  field-quoted h = rw (first, eq-eqb _ 34 h, drop-drop 1 at s)

  pub field_plain : (get_or s at 0 ≡ 34 → ⊥) → clean (plain (drop at s)) ≡ clean_at (drop at s)
  unfolding field_of
  field_plain h = rw (first, ne_eqb _ 34 h)

pub within_more : (s : List ℕ) (at : ℕ) (r : Seen) → within s (at + 1) r → within s at r
within_more s at (Text a e n) (h, g) = (omega arith, g)
within_more s at Odd h = tt

-- ---- the comma or the row's end behind a field

pub more_left : (s : List ℕ) (n : ℕ) → n < length s → eqb (length (drop n s)) 0 ≡ false
more_left s n h = ne_eqb (length (drop n s)) 0 (λ (e : length (drop n s) ≡ 0). omega (arith, length-drop n s, e))

module _ (s t : List ℕ) (n : ℕ) (f : Field) (is : text t (drop n s) ≡ f) where
  pub comma_there : get_or s n 0 ≡ 44 → text t (drop (n + 1) s) ≡ comma f
  comma_there h = rw (← is, first s n, eq-eqb _ 44 h, drop-drop 1 n s)

  pub comma-not : (get_or s n 0 ≡ 44 → ⊥) → Field.broken ≡ comma f
  comma-not h = rw (← is, first s n, ne_eqb _ 44 h)

  pub last_end : length s ≤ n → text t (drop n s) ≡ last f
  last_end h = rw (← is, drop_of_length-le s h)

  pub last-not : n < length s → (get_or s n 0 ≡ 13 → ⊥) → Field.broken ≡ last f
  last-not h g = rw (← is, more_left s n h, first s n, ne_eqb _ 13 g)

  pub last_half : n < length s → get_or s n 0 ≡ 13 → (get_or s (n + 1) 0 ≡ 10 → ⊥) → Field.broken ≡ last f
  last_half h g k = rw (← is, more_left s n h, first s n, eq-eqb _ 13 g, get_or-drop n s 1 0, ne_eqb _ 10 k)

  pub last_row_lem : n < length s → get_or s n 0 ≡ 13 → get_or s (n + 1) 0 ≡ 10 → text t (drop (n + 1 + 1) s) ≡ last f
  last_row_lem h g k =
      let e : n + 2 ≡ n + 1 + 1 = omega arith in
      rw (← is, more_left s n h, first s n, eq-eqb _ 13 g, get_or-drop n s 1 0, eq-eqb _ 10 k, drop-drop 2 n s, e)
