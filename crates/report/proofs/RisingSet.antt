-- `rising` depends on what stands in the list alone: it rises, it has the same events, and rising lists with the same events are the same.
use mathlib.Core.Path.{◌≡◌, refl, sym, ap, ap₂, ◌∙◌}
use mathlib.Core.Bool.{Bool, true, false, cond}
use mathlib.Core.List.{List, [], ◌∷◌}
use mathlib.Core.Logic.{◌⊎◌, inl, inr}
use Prim.Native.Nat.{ℕ, suc, ◌<◌, ◌≤◌, suc-le-suc, zero-le}
use native.Mathlib.Omega.{arith}
use lib.Dec.{eqb, ltb}
use lib.ListN.{length, get_or}
use borrow.Author.Tests.{eqb-true, eq-eqb, ne_eqb, ltb-true, lt-ltb}
use Rattle.sets.specs.paper.Sets.{lex_less, All}
use Rattle.sets.proofs.SetLaws.{lt_or_le}
use Rattle.sets.proofs.Every.{all_then}
use Rattle.sets.proofs.Local.{clash}
use Rattle.report.specs.paper.EventList.{insert, rising}
use Rattle.report.specs.code.Happened.{Rises}
use Rattle.report.proofs.AmongLaws.{Among, all_each, each_all}

-- ---- byte order

pub less_head : (x y : ℕ) (xs ys : List ℕ) → x < y → lex_less (x ∷ xs) (y ∷ ys) ≡ true
unfolding lex_less
less_head x y xs ys l = ap (λ (b : Bool). cond b (lex_less xs ys) (ltb x y)) (ne_eqb x y (λ z. omega arith)) ∙ lt-ltb x y l

pub less_tail : (x y : ℕ) (xs ys : List ℕ) → x ≡ y → lex_less xs ys ≡ true → lex_less (x ∷ xs) (y ∷ ys) ≡ true
unfolding lex_less
less_tail x y xs ys e h = ap (λ (b : Bool). cond b (lex_less xs ys) (ltb x y)) (eq-eqb x y e) ∙ h

less-parts : (x y : ℕ) (xs ys : List ℕ) → lex_less (x ∷ xs) (y ∷ ys) ≡ true → (x < y) ⊎ ((x ≡ y) × (lex_less xs ys ≡ true))
unfolding lex_less
less-parts x y xs ys = go (eqb x y) refl
  where
    go : (b : Bool) → eqb x y ≡ b → cond b (lex_less xs ys) (ltb x y) ≡ true → (x < y) ⊎ ((x ≡ y) × (lex_less xs ys ≡ true))
    go true z h = inr (eqb-true x y z, h)
    go false z h = inl (ltb-true x y h)

pub less-self : (a : List ℕ) → lex_less a a ≡ false
unfolding lex_less
less-self [] = refl
less-self (x ∷ xs) = ap (λ (b : Bool). cond b (lex_less xs xs) (ltb x x)) (eq-eqb x x refl) ∙ less-self xs

pub less_thru : (a b c : List ℕ) → lex_less a b ≡ true → lex_less b c ≡ true → lex_less a c ≡ true
less_thru [] [] c p q = q
less_thru [] (y ∷ ys) [] p q = clash q (unfold lex_less in refl)
less_thru [] (y ∷ ys) (z ∷ zs) p q = (unfold lex_less in refl)
less_thru (x ∷ xs) [] c p q = clash p (unfold lex_less in refl)
less_thru (x ∷ xs) (y ∷ ys) [] p q = clash q (unfold lex_less in refl)
less_thru (x ∷ xs) (y ∷ ys) (z ∷ zs) p q = go (less-parts x y xs ys p) (less-parts y z ys zs q) (less_thru xs ys zs)
  where
    go : (x < y) ⊎ ((x ≡ y) × (lex_less xs ys ≡ true)) → (y < z) ⊎ ((y ≡ z) × (lex_less ys zs ≡ true))
        → (lex_less xs ys ≡ true → lex_less ys zs ≡ true → lex_less xs zs ≡ true) → lex_less (x ∷ xs) (z ∷ zs) ≡ true
    go (inl l) (inl k) ih = less_head x z xs zs (omega arith)
    go (inl l) (inr k) ih = let e = k.0 in less_head x z xs zs (omega arith)
    go (inr l) (inl k) ih = let e = l.0 in less_head x z xs zs (omega arith)
    go (inr l) (inr k) ih = less_tail x z xs zs (l.0 ∙ k.0) (ih l.1 k.1)

pub data Order (a b : List ℕ) : Type 0 where
  less : lex_less a b ≡ true → Order a b
  same : a ≡ b → Order a b
  more : lex_less b a ≡ true → Order a b

pub order : (a b : List ℕ) → Order a b
order [] [] = same refl
order [] (y ∷ ys) = less (unfold lex_less in refl)
order (x ∷ xs) [] = more (unfold lex_less in refl)
order (x ∷ xs) (y ∷ ys) = go (lt_or_le x y) (lt_or_le y x) (order xs ys)
  where
    next : x ≡ y → Order xs ys → Order (x ∷ xs) (y ∷ ys)
    next e (less h) = less (less_tail x y xs ys e h)
    next e (same h) = same (ap₂ ◌∷◌ e h)
    next e (more h) = more (less_tail y x ys xs (sym e) h)

    go : (x < y) ⊎ (y ≤ x) → (y < x) ⊎ (x ≤ y) → Order xs ys → Order (x ∷ xs) (y ∷ ys)
    go (inl l) k o = less (less_head x y xs ys l)
    go (inr l) (inl k) o = more (less_head y x ys xs k)
    go (inr l) (inr k) o = next (omega arith) o

-- the same events, in whatever order and however often
pub record Same (es fs : List (List ℕ)) : Type 0 where
  pub there : (e : List ℕ) → Among e es → Among e fs
  pub back : (e : List ℕ) → Among e fs → Among e es

-- ---- a list that rises

-- each before the next is enough
pub rises_next : (es : List (List ℕ)) → ((i : ℕ) → suc i < length es → lex_less (get_or es i []) (get_or es (suc i) []) ≡ true) → Rises es
rises_next [] h = tt
rises_next (e ∷ []) h = (tt, tt)
rises_next (e ∷ (f ∷ fs)) h =
    let r = rises_next (f ∷ fs) (λ i l. h (suc i) (suc-le-suc l)) in let l = h 0 (suc-le-suc (suc-le-suc zero-le)) in
    ((l, all_then _ _ (λ y k. less_thru e f y l k) fs r.0), r)

-- ---- inserting

-- an event comes in front, or further on, or stands there
inserted : (Q : List (List ℕ) → Type 0) (e x : List ℕ) (xs : List (List ℕ)) → (lex_less e x ≡ true → Q (e ∷ x ∷ xs))
    → (lex_less x e ≡ true → Q (x ∷ insert e xs)) → (e ≡ x → Q (x ∷ xs)) → Q (insert e (x ∷ xs))
unfolding insert
inserted Q e x xs f g h = go (lex_less e x) refl (lex_less x e) refl
  where
    meant : lex_less e x ≡ false → lex_less x e ≡ false → Order e x → e ≡ x
    meant p q (less o) = clash o p
    meant p q (same o) = o
    meant p q (more o) = clash o q

    go : (b : Bool) → lex_less e x ≡ b → (c : Bool) → lex_less x e ≡ c → Q (cond b (e ∷ x ∷ xs) (cond c (x ∷ insert e xs) (x ∷ xs)))
    go true p c q = f p
    go false p true q = g q
    go false p false q = h (meant p q (order e x))

pub of_insert : (e : List ℕ) (xs : List (List ℕ)) (d : List ℕ) → Among d (insert e xs) → (d ≡ e) ⊎ Among d xs
of_insert e [] d k = (unfold insert in k)
of_insert e (x ∷ xs) d k =
    inserted (λ l. Among d l → (d ≡ e) ⊎ Among d (x ∷ xs)) e x xs (λ l j. j) (λ l j. go j (of_insert e xs d)) (λ z j. inr j) k
  where
    later : (d ≡ e) ⊎ Among d xs → (d ≡ e) ⊎ Among d (x ∷ xs)
    later (inl z) = inl z
    later (inr j) = inr (inr j)

    go : Among d (x ∷ insert e xs) → (Among d (insert e xs) → (d ≡ e) ⊎ Among d xs) → (d ≡ e) ⊎ Among d (x ∷ xs)
    go (inl z) ih = inr (inl z)
    go (inr j) ih = later (ih j)

pub in_insert : (e : List ℕ) (xs : List (List ℕ)) (d : List ℕ) → (d ≡ e) ⊎ Among d xs → Among d (insert e xs)
in_insert e [] d k = (unfold insert in k)
in_insert e (x ∷ xs) d k =
    inserted (Among d) e x xs (λ l. k) (λ l. go k (in_insert e xs d)) (λ z. stands z k)
  where
    go : (d ≡ e) ⊎ Among d (x ∷ xs) → ((d ≡ e) ⊎ Among d xs → Among d (insert e xs)) → Among d (x ∷ insert e xs)
    go (inl z) ih = inr (ih (inl z))
    go (inr (inl z)) ih = inl z
    go (inr (inr j)) ih = inr (ih (inr j))

    stands : e ≡ x → (d ≡ e) ⊎ Among d (x ∷ xs) → Among d (x ∷ xs)
    stands z (inl y) = inl (y ∙ z)
    stands z (inr j) = j

pub insert-rises : (e : List ℕ) (xs : List (List ℕ)) → Rises xs → Rises (insert e xs)
insert-rises e [] r = (unfold insert in (tt, tt))
insert-rises e (x ∷ xs) r =
    inserted Rises e x xs (λ l. ((l, all_then _ _ (λ y k. less_thru e x y l k) xs r.0), r))
    (λ l. (each_all _ (insert e xs) (λ d k. go l d (of_insert e xs d k)), insert-rises e xs r.1)) (λ z. r)
  where
    go : lex_less x e ≡ true → (d : List ℕ) → (d ≡ e) ⊎ Among d xs → lex_less x d ≡ true
    go l d (inl z) = ap (lex_less x) z ∙ l
    go l d (inr k) = all_each (λ y. lex_less x y ≡ true) xs r.0 d k

-- ---- `rising` rises, and has the events of its list

pub rising-rises : (es : List (List ℕ)) → Rises (rising es)
unfolding rising
rising-rises [] = tt
rising-rises (e ∷ es) = insert-rises e (rising es) (rising-rises es)

pub of_rising : (es : List (List ℕ)) (d : List ℕ) → Among d (rising es) → Among d es
unfolding rising
of_rising [] d k = k
of_rising (e ∷ es) d k = go (of_insert e (rising es) d k) (of_rising es d)
  where
    go : (d ≡ e) ⊎ Among d (rising es) → (Among d (rising es) → Among d es) → Among d (e ∷ es)
    go (inl z) ih = inl z
    go (inr j) ih = inr (ih j)

pub in_rising : (es : List (List ℕ)) (d : List ℕ) → Among d es → Among d (rising es)
unfolding rising
in_rising [] d k = k
in_rising (e ∷ es) d (inl z) = in_insert e (rising es) d (inl z)
in_rising (e ∷ es) d (inr k) = in_insert e (rising es) d (inr (in_rising es d k))

-- what is after the first of a rising list is not the first
behind : (x y : List ℕ) (xs ys : List (List ℕ)) → x ≡ y → All (λ z. lex_less x z ≡ true) xs → (d : List ℕ) → Among d xs → Among d (y ∷ ys) → Among d ys
behind x y xs ys e h d k (inl z) = clash (all_each (λ z. lex_less x z ≡ true) xs h d k) (ap (lex_less x) (z ∙ sym e) ∙ less-self x)
behind x y xs ys e h d k (inr j) = j

-- two rising lists with the same events
pub rises-once : (es fs : List (List ℕ)) → Rises es → Rises fs → Same es fs → es ≡ fs
rises-once [] [] r s h = refl
rises-once [] (f ∷ fs) r s h = absurd (h.back f (inl refl))
rises-once (e ∷ es) [] r s h = absurd (h.there e (inl refl))
rises-once (e ∷ es) (f ∷ fs) r s h =
    let z = first (h.there e (inl refl)) (h.back f (inl refl)) in
    ap₂ ◌∷◌ z (rises-once es fs r.1 s.1 (record {
      there = λ d k. behind e f es fs z r.0 d k (h.there d (inr k));
      back = λ d k. behind f e fs es (sym z) s.0 d k (h.back d (inr k));
    }))
  where
    first : Among e (f ∷ fs) → Among f (e ∷ es) → e ≡ f
    first (inl z) k = z
    first (inr j) (inl z) = sym z
    first (inr j) (inr k) =
        clash (less_thru e f e (all_each (λ z. lex_less e z ≡ true) es r.0 f k) (all_each (λ z. lex_less f z ≡ true) fs s.0 e j)) (less-self e)

-- THE LAWS: `rising` by what stands in the list; a list that rises is `rising` of each list with its events
pub rising-set : {es fs : List (List ℕ)} → Same es fs → rising es ≡ rising fs
rising-set {es} {fs} h =
    rises-once (rising es) (rising fs) (rising-rises es) (rising-rises fs)
    (record { there = λ e k. in_rising fs e (h.there e (of_rising es e k)); back = λ e k. in_rising es e (h.back e (of_rising fs e k)) })

pub rises-rising : {es fs : List (List ℕ)} → Rises es → Same es fs → es ≡ rising fs
rises-rising {es} {fs} r h =
    rises-once es (rising fs) r (rising-rises fs)
    (record { there = λ e k. in_rising fs e (h.there e k); back = λ e k. h.back e (of_rising fs e k) })

pub rising-self : (es : List (List ℕ)) → Rises es → rising es ≡ es
rising-self es r = sym (rises-rising r (record { there = λ e k. k; back = λ e k. k }))
