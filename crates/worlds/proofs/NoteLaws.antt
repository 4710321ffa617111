-- Loops that note something at each number of a set, with something else at each.
use mathlib.Core.Path.{◌≡◌, refl, sym, ap, ◌∙◌, subst}
use mathlib.Core.Bool.{Bool, ◌||◌, true, false, not, cond}
use mathlib.Core.List.{List, ◌∷◌}
use Prim.Native.Nat.{ℕ, ◌<◌}
use lib.ListN.{length, set}
use lib.Seq.{get_or-set_same, get_or-set_other}
use lib.Dec.{eqb}
use borrow.Author.Tests.{eqb-true, eqb-false, eq-eqb, ne_eqb}
use Rattle.sets.specs.paper.Sets.{has, union, only, lowest, members, union_of}
use Rattle.sets.proofs.SetLaws.{has-none}
use Rattle.sets.proofs.UnionLaws.{union-none, union-first, union_twice}
use Rattle.worlds.specs.code.Over.{entry}

-- a table with more at each number of a set
abbrev pub noting : (ℕ → ℕ) → ℕ → List ℕ → ℕ → ℕ
noting more m table i = cond (has m i) (union (entry table i) (more i)) (entry table i)

-- one turn: what is noted at t, and then at the numbers left
pub note_next : (more : ℕ → ℕ) (m r t : ℕ) (xs ys : List ℕ) → ((i : ℕ) → has m i ≡ (eqb t i || has r i))
    → entry ys t ≡ union (entry xs t) (more t) → ((i : ℕ) → (i ≡ t → ⊥) → entry ys i ≡ entry xs i) → (i : ℕ) → noting more r ys i ≡ noting more m xs i
note_next more m r t xs ys h at other i = pick (eqb t i) refl
  where
    once : (b : Bool) (x y : ℕ) → cond b (union (union x y) y) (union x y) ≡ union x y
    once true x y = union_twice x y
    once false x y = refl

    pick : (b : Bool) → eqb t i ≡ b → noting more r ys i ≡ noting more m xs i
    pick true e =
        ap (λ (x : ℕ). cond (has r i) (union x (more i)) x) (subst (λ (j : ℕ). entry ys j ≡ union (entry xs j) (more j)) (eqb-true t i e) at)
        ∙ once (has r i) (entry xs i) (more i)
        ∙ sym (ap (λ (b : Bool). cond b (union (entry xs i) (more i)) (entry xs i)) (h i ∙ ap (λ (b : Bool). b || has r i) e))
    pick false e =
        ap (λ (x : ℕ). cond (has r i) (union x (more i)) x) (other i (λ z. eqb-false t i e (sym z)))
        ∙ sym (ap (λ (b : Bool). cond b (union (entry xs i) (more i)) (entry xs i)) (h i ∙ ap (λ (b : Bool). b || has r i) e))

-- the turn stores the union at t
pub note_store : (more : ℕ → ℕ) (m r t v : ℕ) (xs : List ℕ) → ((i : ℕ) → has m i ≡ (eqb t i || has r i)) → t < length xs → v ≡ union (entry xs t) (more t)
    → (i : ℕ) → noting more r (set xs t v) i ≡ noting more m xs i
note_store more m r t v xs h l e = note_next more m r t xs (set xs t v) h (get_or-set_same xs t v 0 l ∙ e) (λ i n. get_or-set_other xs t i v 0 n)

-- nothing is to be noted at t
pub note_skip : (more : ℕ → ℕ) (m r t : ℕ) (xs : List ℕ) → ((i : ℕ) → has m i ≡ (eqb t i || has r i)) → more t ≡ 0 → (i : ℕ) → noting more r xs i ≡ noting more m xs i
note_skip more m r t xs h e = note_next more m r t xs xs h (sym (union-none (entry xs t)) ∙ ap (union (entry xs t)) (sym e)) (λ i n. refl)

-- at the end nothing is left
pub note_end : (more : ℕ → ℕ) (m : ℕ) (table : List ℕ) → m ≡ 0 → (i : ℕ) → noting more m table i ≡ entry table i
note_end more m table e i = ap (λ (b : Bool). cond b (union (entry table i) (more i)) (entry table i)) (ap (λ (x : ℕ). has x i) e ∙ has-none i)

-- ---- one turn of a loop that takes in the twins of each cut that is blocked, and notes what blocks it

-- the twins of a cut that something blocks
abbrev pub twins_if : (ℕ → ℕ) → (ℕ → ℕ) → ℕ → ℕ
twins_if bs tw c = only (not (eqb (bs c) 0)) (tw c)

module _ (bs tw : ℕ → ℕ) (m r t e : ℕ) (is : e ≡ bs t) where
  module _ (found found' : ℕ) (whole : ℕ) (next : members m ≡ lowest m ∷ members r) (low : t ≡ lowest m) (inv : union found (union_of (twins_if bs tw) (members m)) ≡ whole) where
    pub twins_in : (e ≡ 0 → ⊥) → found' ≡ union found (tw t) → union found' (union_of (twins_if bs tw) (members r)) ≡ whole
    twins_in n z =
        union-first (twins_if bs tw) found found' (tw t) (members m) (members r) (lowest m) next z
        (sym (ap (λ (x : Bool). only (not x) (tw t)) (ne_eqb (bs t) 0 (λ y. n (is ∙ y)))) ∙ ap (twins_if bs tw) low) ∙ inv

    pub twins-out : e ≡ 0 → found' ≡ found → union found' (union_of (twins_if bs tw) (members r)) ≡ whole
    twins-out n z =
        union-first (twins_if bs tw) found found' 0 (members m) (members r) (lowest m) next (z ∙ sym (union-none found))
        (sym (ap (λ (x : Bool). only (not x) (tw t)) (eq-eqb (bs t) 0 (sym is ∙ n))) ∙ ap (twins_if bs tw) low) ∙ inv

  module _ (xs ys : List ℕ) (whole : ℕ → ℕ) (turn : (i : ℕ) → has m i ≡ (eqb t i || has r i)) (inv : (i : ℕ) → noting bs m xs i ≡ whole i) where
    pub note_in : t < length xs → ys ≡ set xs t (union (entry xs t) e) → (i : ℕ) → noting bs r ys i ≡ whole i
    note_in l z i =
        ap (λ (zs : List ℕ). noting bs r zs i) z ∙ note_store bs m r t (union (entry xs t) e) xs turn l (ap (union (entry xs t)) is) i ∙ inv i

    pub note_out : e ≡ 0 → ys ≡ xs → (i : ℕ) → noting bs r ys i ≡ whole i
    note_out n z i = ap (λ (zs : List ℕ). noting bs r zs i) z ∙ note_skip bs m r t xs turn (sym is ∙ n) i ∙ inv i
