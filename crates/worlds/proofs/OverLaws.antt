-- What a loop over the numbers of a set, lowest first, does to a table.
use mathlib.Core.Path.{◌≡◌, refl, sym, ap, ◌∙◌, subst}
use mathlib.Core.Bool.{Bool, true, false, cond, ◌&&◌, ◌||◌, or-true}
use mathlib.Core.List.{List, ◌∷◌}
use Prim.Native.Nat.{ℕ, ◌^◌, ◌<◌}
use native.Mathlib.Omega.{arith}
use lib.ListN.{length, get_or, set, length-set}
use lib.Seq.{get_or-set_same, get_or-set_other}
use lib.Dec.{eqb}
use borrow.Author.Tests.{eqb-true, eqb-false, eq-eqb}
use Rattle.sets.specs.paper.Sets.{has, members}
use Rattle.sets.specs.code.Members.{Turn}
use Rattle.sets.proofs.SetLaws.{Within, has-none}
use Rattle.sets.proofs.TurnLaws.{turn_has}

-- ---- a turn: the number t comes next of those left, m, and leaves r

module _ {m t r : ℕ} (few : m < 2 ^ 64) (turn : Turn m t r) where
  pub turn-is : (i : ℕ) → has m i ≡ (eqb t i || has r i)
  turn-is = turn_has m r t few turn.first turn.rest

  pub turn-in : has m t ≡ true
  turn-in = turn-is t ∙ ap (λ (b : Bool). b || has r t) (eq-eqb t t refl)

  pub turn-rest : Within r m
  turn-rest = record { at = λ i h. turn-is i ∙ ap (λ (b : Bool). eqb t i || b) h ∙ or-true (eqb t i) }

  pub turn-listed : members m ≡ t ∷ members r
  turn-listed = turn.rest.0 ∙ ap (λ (x : ℕ). x ∷ members r) (sym turn.first.0)

-- ---- a change g at each number of a set, which made twice is made once; `past` stands for what is not in the table

-- with the change made at the numbers left, the table is the one asked for
pub record Changing {A : Type 0} (g : ℕ → A → A) (past : A) (all left : ℕ) (before now : List A) : Type 0 where
  pub few : left < 2 ^ 64
  pub long : length now ≡ 64
  pub at : (i : ℕ) → cond (has left i) (g i (get_or now i past)) (get_or now i past) ≡ cond (has all i) (g i (get_or before i past)) (get_or before i past)

module _ {A : Type 0} (g : ℕ → A → A) (past : A) where
  -- at one number of m, whichever it is: r are the others
  pub change_at : ((i : ℕ) (x : A) → g i (g i x) ≡ g i x) → (m r t : ℕ) (v : A) (table : List A) → ((i : ℕ) → has m i ≡ (eqb t i || has r i)) → t < length table
      → v ≡ g t (get_or table t past)
      → (i : ℕ) → cond (has r i) (g i (get_or (set table t v) i past)) (get_or (set table t v) i past) ≡ cond (has m i) (g i (get_or table i past)) (get_or table i past)
  change_at twice m r t v table is l e i = pick (eqb t i) refl
    where
      now : Bool → A → A
      now b x = cond b (g i x) x

      once : (b : Bool) (x : A) → now b (g i x) ≡ g i x
      once true x = twice i x
      once false x = refl

      here : get_or (set table t v) t past ≡ g t (get_or table t past)
      here = get_or-set_same table t v past l ∙ e

      pick : (b : Bool) → eqb t i ≡ b → now (has r i) (get_or (set table t v) i past) ≡ now (has m i) (get_or table i past)
      pick true k =
          ap (now (has r i)) (subst (λ (j : ℕ). get_or (set table t v) j past ≡ g j (get_or table j past)) (eqb-true t i k) here)
          ∙ once (has r i) (get_or table i past) ∙ sym (ap (λ (b : Bool). now b (get_or table i past)) (is i ∙ ap (λ (b : Bool). b || has r i) k))
      pick false k =
          ap (now (has r i)) (get_or-set_other table t i v past (λ z. eqb-false t i k (sym z)))
          ∙ sym (ap (λ (b : Bool). now b (get_or table i past)) (is i ∙ ap (λ (b : Bool). b || has r i) k))

  -- at the lowest
  pub changing_next : ((i : ℕ) (x : A) → g i (g i x) ≡ g i x) → {all m t r : ℕ} {before table : List A} (v : A) → Turn m t r → v ≡ g t (get_or table t past)
      → Changing g past all m before table → Changing g past all r before (set table t v)
  changing_next twice {all} {m} {t} {r} {before} {table} v turn e known = record {
    few = omega (arith, turn.rest.1, known.few);
    long = simp length-set known.long;
    at = λ i. change_at twice m r t v table (turn-is known.few turn) (omega (arith, turn.first.1, known.long)) e i ∙ known.at i;
  }

  -- at the end nothing is left
  pub changing_end : {all m : ℕ} {before table : List A} → m ≡ 0 → Changing g past all m before table
      → (i : ℕ) → get_or table i past ≡ cond (has all i) (g i (get_or before i past)) (get_or before i past)
  changing_end {all} {m} {before} {table} e known i =
      sym (ap (λ (b : Bool). cond b (g i (get_or table i past)) (get_or table i past)) (ap (λ (x : ℕ). has x i) e ∙ has-none i)) ∙ known.at i

  -- at a number of the set
  pub changing_at : {all m : ℕ} {before table : List A} → m ≡ 0 → Changing g past all m before table
      → (i : ℕ) → has all i ≡ true → get_or table i past ≡ g i (get_or before i past)
  changing_at {before = before} e known i h = changing_end e known i ∙ ap (λ (b : Bool). cond b (g i (get_or before i past)) (get_or before i past)) h

-- a set found by a test on the numbers of another
pub tested-has : (f : ℕ → Bool) (set found : ℕ) → ((i : ℕ) → has set i ≡ false → has found i ≡ false) → ((i : ℕ) → has set i ≡ true → has found i ≡ f i)
    → (i : ℕ) → has found i ≡ (has set i && f i)
tested-has f set found outside inside i = pick (has set i) refl
  where
    pick : (b : Bool) → has set i ≡ b → has found i ≡ (has set i && f i)
    pick true e = inside i e ∙ sym (ap (λ (x : Bool). x && f i) e)
    pick false e = outside i e ∙ sym (ap (λ (x : Bool). x && f i) e)
