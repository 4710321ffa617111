-- How the cuts of a plan stand to each other: chains of precedence, the numbers below a number, and the rows of a cut.
use mathlib.Core.Path.{◌≡◌, refl, sym, ap, ap₂, ◌∙◌, subst}
use mathlib.Core.Bool.{Bool, true, false, ◌&&◌, ◌||◌, not, cond, and_assoc, and-false}
use mathlib.Core.Logic.{⊎_elim}
use mathlib.Core.List.{List, [], ◌∷◌}
use Prim.Native.Nat.{ℕ, zero, suc, ◌+◌, ◌-◌, ◌/◌, ◌%◌, ◌^◌, ◌≤◌, ◌<◌}
use native.Mathlib.Numerals.{add-one}
use native.Mathlib.Omega.{arith}
use lib.Pow.{pow_pos}
use lib.Bits.{bit_and}
use lib.ListN.{length, set}
use lib.Seq.{get_or-set_same, get_or-set_other}
use lib.Dec.{eqb, ltb}
use borrow.Author.Count.{below_more}
use borrow.Author.Tests.{eqb-true, lt-ltb, le-ltb}
use Rattle.sets.specs.paper.Sets.{odd, has, one, union, minus, disjoint, meets, rising_less, fold_below, any_of, union_of, members}
use Rattle.sets.proofs.SetLaws.{has-zero, has-suc, has-none, has_one, has-and, has-minus, disjoint-true, disjoint-false, lt_or_le}
use Rattle.sets.proofs.Closing.{in_one}
use Rattle.worlds.specs.code.Over.{entry}
use Rattle.worlds.specs.code.Tables.{row}
use Rattle.worlds.specs.code.Laid.{Laid, Same}
use Rattle.worlds.specs.code.Related.{chain_by, RelatedAt}
use Rattle.worlds.proofs.OverLaws.{change_at}
use Rattle.worlds.proofs.LayLaws.{laid_other, laid-here, same_start, same_next}

-- ---- chains, step after step

pub chain-none : (direct : List ℕ) (from : ℕ) → from ≡ chain_by direct 0 from
unfolding chain_by fold_below
chain-none direct from = refl

pub chain_next : (direct : List ℕ) (from i m : ℕ) → m ≡ chain_by direct i from → union m (union_of (entry direct) (members m)) ≡ chain_by direct (i + 1) from
unfolding chain_by fold_below
chain_next direct from i m e =
    ap (λ (x : ℕ). union x (union_of (entry direct) (members x))) e ∙ ap (λ (k : ℕ). chain_by direct k from) (sym (add-one i))

-- ---- the numbers below a number

ltb-suc : (d c : ℕ) → ltb d c ≡ ltb (suc d) (suc c)
ltb-suc d c = ⊎_elim (λ h. lt-ltb d c h ∙ sym (lt-ltb (suc d) (suc c) (omega arith))) (λ h. le-ltb d c h ∙ sym (le-ltb (suc d) (suc c) (omega arith))) (lt_or_le d c)

pub has_pred : (c d : ℕ) → has (2 ^ c - 1) d ≡ ltb d c
has_pred zero d = has-none d ∙ sym (le-ltb d 0 (omega arith))
has_pred (suc c) zero =
    let low : (2 ^ suc c - 1) % 2 ≡ 1 = omega (arith, pow_pos c) in
    has-zero (2 ^ suc c - 1) ∙ ap odd low ∙ sym (lt-ltb 0 (suc c) (omega arith))
has_pred (suc c) (suc d) =
    let half : (2 ^ suc c - 1) / 2 ≡ 2 ^ c - 1 = omega arith in
    has-suc (2 ^ suc c - 1) d ∙ ap (λ (x : ℕ). has x d) half ∙ has_pred c d ∙ ltb-suc d c

-- of a set those below a number, as `& (place - 1)` gives them
pub lower-has : (set place c : ℕ) → place ≡ one c → (d : ℕ) → has (bit_and set (place - 1)) d ≡ (has set d && ltb d c)
unfolding one
lower-has set place c e d = has-and set (place - 1) d ∙ ap (λ (b : Bool). has set d && b) (ap (λ (x : ℕ). has (x - 1) d) e ∙ has_pred c d)

pub meets-one : (m c : ℕ) → meets m (one c) ≡ has m c
unfolding meets
meets-one m c = pick (disjoint m (one c)) refl
  where
    pick : (b : Bool) → disjoint m (one c) ≡ b → not (disjoint m (one c)) ≡ has m c
    pick true e = ap not e ∙ sym (no (has m c) refl)
      where
        no : (b : Bool) → has m c ≡ b → has m c ≡ false
        no true h = absurd (disjoint-true m (one c) e c h (in_one c))
        no false h = h
    pick false e =
        let w = disjoint-false m (one c) e in
        ap not e ∙ sym (ap (has m) (eqb-true c w.0 (sym (has_one c w.0) ∙ w.2)) ∙ w.1)

-- the cuts whose chains have the number c, less those of a set
pub dropping_has : (chains : ℕ) (less c : ℕ) {place : ℕ} → place ≡ one c → (d : ℕ) (preceding sharing : ℕ) {x : Bool} → has preceding d ≡ (has sharing d && meets chains place)
    → has sharing d ≡ x → has (minus preceding less) d ≡ (x && (has chains c && not (has less d)))
dropping_has chains less c {place} e d preceding sharing {x} h k =
    has-minus preceding less d
    ∙ ap (λ (b : Bool). b && not (has less d)) (h ∙ ap₂ ◌&&◌ k (ap (meets chains) e ∙ meets-one chains c))
    ∙ and_assoc x (has chains c) (not (has less d))

-- those that share less the twins
pub clashing-has : (sharing twins d : ℕ) (all shared same : Bool) → has sharing d ≡ (all && shared) → has twins d ≡ (all && same)
    → has (minus sharing twins) d ≡ ((all && shared) && not same)
clashing-has sharing twins d all shared same h k = has-minus sharing twins d ∙ ap₂ (λ (x y : Bool). x && not y) h k ∙ pick all
  where
    pick : (b : Bool) → ((b && shared) && not (b && same)) ≡ ((b && shared) && not same)
    pick true = refl
    pick false = refl

-- ---- a table filled by a function of the number

-- at the numbers of a set
module _ (f : ℕ → ℕ) where
  pub filled_next : (m r t v : ℕ) (table : List ℕ) → ((p : ℕ) → has m p ≡ (eqb t p || has r p)) → t < length table → v ≡ f t
      → (p : ℕ) → cond (has r p) (f p) (entry (set table t v) p) ≡ cond (has m p) (f p) (entry table p)
  filled_next m r t v table = change_at (λ (p x : ℕ). f p) 0 (λ p x. refl) m r t v table

-- at the numbers below i + 1
pub stored_next : (Q : ℕ → ℕ → Type 0) (table : List ℕ) (i v : ℕ) → i < length table → Q i v → ((j : ℕ) → j < i → Q j (entry table j))
    → (j : ℕ) → j < i + 1 → Q j (entry (set table i v) j)
stored_next Q table i v l q h =
    below_more (λ (j : ℕ). Q j (entry (set table i v) j)) i
    (λ j k. subst (Q j) (sym (get_or-set_other table i j v 0 (λ z. omega arith))) (h j k)) (subst (Q i) (sym (get_or-set_same table i v 0 l)) q)

-- ---- a loop over a set: of those that are not left, all are done

module _ (Q : ℕ → Type 0) (all m r t : ℕ) (turn : (i : ℕ) → has m i ≡ (eqb t i || has r i)) where
  pub done_next : Q t → ((i : ℕ) → eqb t i ≡ false → has all i ≡ true → has m i ≡ false → Q i) → (i : ℕ) → has all i ≡ true → has r i ≡ false → Q i
  done_next here there i h e = pick (eqb t i) refl
    where
      pick : (b : Bool) → eqb t i ≡ b → Q i
      pick true q = subst Q (eqb-true t i q) here
      pick false q = there i q h (turn i ∙ ap₂ ◌||◌ q e)

-- ---- the rows of a cut

module _ (preceded : List ℕ) (c cuts combination : ℕ) where
  -- the rows of members and pairs were as they are
  pub related_before : {first before after : List (List ℕ)} (ks : List ℕ) → any_of (eqb 0) ks ≡ false → any_of (eqb 1) ks ≡ false → Same ks first before
      → RelatedAt preceded c cuts combination before after → RelatedAt preceded c cuts combination first after
  related_before {first} {before} {after} ks x y s a =
      let own = s.at 1 c y in
      let m : (d : ℕ) → row before 1 d ≡ row first 1 d = λ d. s.at 1 d y in
      let p : (e : ℕ) → row before 0 e ≡ row first 0 e = λ e. s.at 0 e x in
      record {
        twins = λ d. a.twins d ∙ ap₂ (λ (u v : ℕ). has cuts d && eqb u v) own (m d);
        lower = λ d. a.lower d ∙ ap₂ (λ (u v : ℕ). (has cuts d && eqb u v) && ltb d c) own (m d);
        droppers = λ d. a.droppers d
            ∙ ap₂ (λ (u v : ℕ). (has cuts d && meets v u) && (has (entry preceded d) c && not (has (entry preceded c) d))) own (m d);
        clashing = λ d. a.clashing d ∙ ap₂ (λ (u v : ℕ). (has cuts d && meets v u) && not (eqb u v)) own (m d);
        later = λ d. a.later d ∙ ap₂ (λ (u v : ℕ). (has cuts d && meets v u) && rising_less u v) own (m d);
        crossing = λ e. a.crossing e ∙ ap₂ (λ (u v : ℕ). (has combination e && meets v u) && meets v ((2 ^ 64 - 1) - u)) own (p e);
      }

  -- nothing of the cut is touched
  pub related_after : {before after last : List (List ℕ)} → ((k : ℕ) → row last k c ≡ row after k c)
      → RelatedAt preceded c cuts combination before after → RelatedAt preceded c cuts combination before last
  related_after {before} {after} {last} s a = record {
    twins = λ d. ap (λ (x : ℕ). has x d) (s 2) ∙ a.twins d;
    lower = λ d. ap (λ (x : ℕ). has x d) (s 3) ∙ a.lower d;
    droppers = λ d. ap (λ (x : ℕ). has x d) (s 4) ∙ a.droppers d;
    clashing = λ d. ap (λ (x : ℕ). has x d) (s 5) ∙ a.clashing d;
    later = λ d. ap (λ (x : ℕ). has x d) (s 6) ∙ a.later d;
    crossing = λ d. ap (λ (x : ℕ). has x d) (s 7) ∙ a.crossing d;
  }

-- the six rows, laid one after another
pub six_here : (c : ℕ) {a₂ a₃ a₄ a₅ a₆ a₇ : ℕ} {t₁ t₂ t₃ t₄ t₅ t₆ t₇ : List (List ℕ)} → Laid 2 c a₂ t₁ t₂ → Laid 3 c a₃ t₂ t₃ → Laid 4 c a₄ t₃ t₄ → Laid 5 c a₅ t₄ t₅
    → Laid 6 c a₆ t₅ t₆ → Laid 7 c a₇ t₆ t₇
    → (row t₇ 2 c ≡ a₂) × (row t₇ 3 c ≡ a₃) × (row t₇ 4 c ≡ a₄) × (row t₇ 5 c ≡ a₅) × (row t₇ 6 c ≡ a₆) × (row t₇ 7 c ≡ a₇)
six_here c l₂ l₃ l₄ l₅ l₆ l₇ = (
  laid_other 2 c l₇ refl ∙ laid_other 2 c l₆ refl ∙ laid_other 2 c l₅ refl ∙ laid_other 2 c l₄ refl ∙ laid_other 2 c l₃ refl ∙ laid-here l₂,
  laid_other 3 c l₇ refl ∙ laid_other 3 c l₆ refl ∙ laid_other 3 c l₅ refl ∙ laid_other 3 c l₄ refl ∙ laid-here l₃,
  laid_other 4 c l₇ refl ∙ laid_other 4 c l₆ refl ∙ laid_other 4 c l₅ refl ∙ laid-here l₄,
  laid_other 5 c l₇ refl ∙ laid_other 5 c l₆ refl ∙ laid-here l₅,
  laid_other 6 c l₇ refl ∙ laid-here l₆,
  laid-here l₇,
)

beside : {k c v : ℕ} {t u : List (List ℕ)} → Laid k c v t u → (j d : ℕ) → eqb c d ≡ false → row u j d ≡ row t j d
beside {k} {c} {v} {t} {u} l j d e = l.at j d ∙ ap (λ (b : Bool). cond (eqb k j && b) v (row t j d)) e ∙ ap (λ (b : Bool). cond b v (row t j d)) (and-false (eqb k j))

pub six_beside : (c : ℕ) {a₂ a₃ a₄ a₅ a₆ a₇ : ℕ} {t₁ t₂ t₃ t₄ t₅ t₆ t₇ : List (List ℕ)} → Laid 2 c a₂ t₁ t₂ → Laid 3 c a₃ t₂ t₃ → Laid 4 c a₄ t₃ t₄ → Laid 5 c a₅ t₄ t₅
    → Laid 6 c a₆ t₅ t₆ → Laid 7 c a₇ t₆ t₇ → (k d : ℕ) → eqb c d ≡ false → row t₇ k d ≡ row t₁ k d
six_beside c l₂ l₃ l₄ l₅ l₆ l₇ k d e = beside l₇ k d e ∙ beside l₆ k d e ∙ beside l₅ k d e ∙ beside l₄ k d e ∙ beside l₃ k d e ∙ beside l₂ k d e

pub six_same : (c : ℕ) {a₂ a₃ a₄ a₅ a₆ a₇ : ℕ} {t₁ t₂ t₃ t₄ t₅ t₆ t₇ : List (List ℕ)} → Laid 2 c a₂ t₁ t₂ → Laid 3 c a₃ t₂ t₃ → Laid 4 c a₄ t₃ t₄ → Laid 5 c a₅ t₄ t₅
    → Laid 6 c a₆ t₅ t₆ → Laid 7 c a₇ t₆ t₇ → Same (2 ∷ 3 ∷ 4 ∷ 5 ∷ 6 ∷ 7 ∷ []) t₁ t₇
unfolding any_of
six_same c {t₁ = t₁} l₂ l₃ l₄ l₅ l₆ l₇ =
    let ks : List ℕ = 2 ∷ 3 ∷ 4 ∷ 5 ∷ 6 ∷ 7 ∷ [] in
    same_next ks refl l₇ (same_next ks refl l₆ (same_next ks refl l₅ (same_next ks refl l₄ (same_next ks refl l₃ (same_next ks refl l₂ (same_start ks t₁))))))

pub same_then : {ks : List ℕ} {a b c : List (List ℕ)} → Same ks a b → Same ks b c → Same ks a c
same_then s t = record { at = λ k i h. t.at k i h ∙ s.at k i h }
