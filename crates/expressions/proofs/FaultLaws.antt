-- Laws of faults that a record has beside the earlier ones, for families and booleans alike.
use mathlib.Core.Path.{◌≡◌, refl, sym, ap, ap₂, ◌∙◌}
use mathlib.Core.Bool.{Bool, true, false, ◌||◌, not, cond, or_comm}
use mathlib.Core.List.{List, [], ◌∷◌, ◌++◌, map}
use Prim.Native.Nat.{ℕ, zero, suc, ◌+◌, ◌≤◌, ◌<◌, min}
use native.Mathlib.Nat.{add-zero}
use native.Mathlib.Numerals.{add-one}
use native.Mathlib.Omega.{arith}
use lib.ListN.{length, get_or, take, drop, set, length-set}
use lib.Seq.{take-suc-set}
use lib.Dec.{eqb}
use Rattle.sets.specs.paper.Sets.{any_of}
use Rattle.records.specs.paper.Fields.{Verdict, fine, refused, first_fault, fault}
use Rattle.records.specs.paper.Case as paper
use Rattle.records.specs.code.Check.{checked_of}
use Rattle.records.specs.declared.checked.Checked.{Checked}
use Rattle.records.proofs.CheckLaws.{or_else, fault_then}
use Rattle.records.specs.declared.case.Boolean.{Boolean}
use Rattle.sets.proofs.LoopLaws.{length-below}
use Rattle.records.specs.code.Decoded.{boolean_of, observations_of}
use Rattle.expressions.specs.paper.Bindings.{family_faults, boolean_fault, boolean_faults, bindable}
use Rattle.expressions.proofs.ListLaws.{front_more, any_last}
use Rattle.expressions.proofs.Rests.{made-next, made_none}

-- ---- one of a list

-- one entry more among the earlier ones
any_more : {A B : Type 0} (p : B → Bool) (g : A → B) (xs : List A) (i : ℕ) (d : A) → i < length xs
    → any_of p (map g (take (i + 1) xs)) ≡ any_of p (g (get_or xs i d) ∷ map g (take i xs))
unfolding any_of
any_more p g xs i d h =
    ap (any_of p) (front_more g xs i d h) ∙ any_last p (map g (take i xs)) (g (get_or xs i d)) ∙ or_comm (any_of p (map g (take i xs))) (p (g (get_or xs i d)))

-- ---- the numbers that came before, in an array of their own

any_numbers : {A B : Type 0} (g : A → ℕ) (h : A → B) (k : B → ℕ) → ((x : A) → k (h x) ≡ g x) → (v : ℕ) (xs : List A)
    → any_of (λ (e : ℕ). eqb e v) (map g xs) ≡ any_of (λ (e : B). eqb (k e) v) (map h xs)
unfolding any_of
any_numbers g h k same v [] = refl
any_numbers g h k same v (x ∷ xs) = ap₂ ◌||◌ (ap (λ (j : ℕ). eqb j v) (sym (same x))) (any_numbers g h k same v xs)

numbers-next : {A : Type 0} (g : A → ℕ) (xs : List A) (earlier : List ℕ) (i : ℕ) (d : A) → i < length earlier → i < length xs → take i earlier ≡ map g (take i xs)
    → take (i + 1) (set earlier i (g (get_or xs i d))) ≡ map g (take (i + 1) xs)
numbers-next g xs earlier i d h k e =
    ap (λ (n : ℕ). take n (set earlier i (g (get_or xs i d)))) (add-one i) ∙ take-suc-set earlier i (g (get_or xs i d)) h
    ∙ ap (λ (l : List ℕ). l ++ (g (get_or xs i d) ∷ [])) e ∙ sym (front_more g xs i d k)

-- nothing wrong, where nothing is to come out
abbrev pub passed : Verdict ℕ
passed = fine 0

-- ---- the fault of each record: by whether an earlier one has its number, and by itself

module _ {B : Type 0} (key : B → ℕ) (judge : Bool → B → ℕ) where
  unfoldable pub faults_from : List B → List B → List ℕ
  faults_from earlier [] = []
  faults_from earlier (x ∷ xs) = judge (any_of (λ e. eqb (key e) (key x)) earlier) x ∷ faults_from (x ∷ earlier) xs

  -- only which are among the earlier ones counts
  faults-agree : (es fs xs : List B) → ((p : B → Bool) → any_of p es ≡ any_of p fs) → faults_from es xs ≡ faults_from fs xs
  unfolding faults_from
  faults-agree es fs [] h = refl
  faults-agree es fs (x ∷ xs) h =
      ap₂ ◌∷◌ (ap (λ (b : Bool). judge b x) (h (λ e. eqb (key e) (key x)))) (faults-agree (x ∷ es) (x ∷ fs) xs (λ p. more p))
    where
      more : (p : B → Bool) → any_of p (x ∷ es) ≡ any_of p (x ∷ fs)
      more p = (unfold any_of in ap (λ (b : Bool). p x || b) (h p))

-- ---- the records of a kind one after another: those before i have no fault, and their numbers are kept

module _ {A B : Type 0} (make : A → B) (key : B → ℕ) (judge : Bool → B → ℕ) (items : List A) (count first : ℕ) where
  abbrev from : ℕ → Verdict ℕ
  from k = first_fault (first + k) (faults_from key judge (map make (take k items)) (drop k (map make (take count items)))) passed

  pub record Judging (most n : ℕ) (earlier : List ℕ) (i : ℕ) : Type 0 where
    pub long : length items ≡ most
    pub room : length earlier ≡ most
    pub some : n ≡ min count most
    pub few : i ≤ n
    pub kept : take i earlier ≡ map (λ x. key (make x)) (take i items)
    pub left : from i ≡ from 0

module _ {A B : Type 0} {make : A → B} {key : B → ℕ} {judge : Bool → B → ℕ} {items : List A} {count first most n : ℕ} {earlier : List ℕ} where
  pub judging_none : length items ≡ most → length earlier ≡ most → n ≡ min count most → Judging make key judge items count first most n earlier 0
  judging_none l r s = record { long = l; room = r; some = s; few = omega arith; kept = refl; left = refl }

  module _ {i : ℕ} (w : Judging make key judge items count first most n earlier i) where
    abbrev whole : Checked
    whole = checked_of (first_fault (first + 0) (faults_from key judge [] (map make (take count items))) passed)

    pub judging_end : n ≤ i → checked_of passed ≡ whole
    unfolding faults_from first_fault
    judging_end l =
        ap checked_of (sym (ap (λ zs. first_fault (first + i) (faults_from key judge (map make (take i items)) zs) passed) (made_none make items count i (omega (arith, w.long, w.some)))) ∙ w.left)

    module _ (l : i < n) (d : A) where
      abbrev here : B
      here = make (get_or items i d)

      -- whether an earlier record has its number
      abbrev pub twice : Bool
      twice = any_of (λ e. eqb (key e) (key here)) (map make (take i items))

      pub judging_twice : {r : Bool} → r ≡ any_of (λ (e : ℕ). eqb e (key here)) (take i earlier) → r ≡ twice
      judging_twice e = e ∙ ap (any_of (λ (e : ℕ). eqb e (key here))) w.kept ∙ any_numbers (λ x. key (make x)) make key (λ x. refl) (key here) (take i items)

      below : i < min count (length items)
      below = omega (arith, w.long, w.some)

      open_up : from make key judge items count first i
          ≡ first_fault (first + i) (judge twice here ∷ faults_from key judge (here ∷ map make (take i items)) (drop (i + 1) (map make (take count items)))) passed
      unfolding faults_from
      open_up = ap (λ zs. first_fault (first + i) (faults_from key judge (map make (take i items)) zs) passed) (made-next make items count i d below)

      pub judging_stop : (m : ℕ) → (m ≡ 0 → ⊥) → judge twice here ≡ m → checked_of {A = ℕ} (refused m (first + i)) ≡ whole
      unfolding first_fault
      judging_stop zero z e = absurd (z refl)
      judging_stop (suc m) z e =
          ap checked_of (sym (open_up ∙ ap (λ (m : ℕ). first_fault (first + i) (m ∷ faults_from key judge (here ∷ map make (take i items)) (drop (i + 1) (map make (take count items)))) passed) e) ∙ w.left)

      pub judging_next : judge twice here ≡ 0 → Judging make key judge items count first most n (set earlier i (key here)) (i + 1)
      unfolding first_fault
      judging_next e = record {
        long = w.long;
        room = length-set earlier i (key here) ∙ w.room;
        some = w.some;
        few = omega arith;
        kept = numbers-next (λ x. key (make x)) items earlier i d (omega (arith, w.room, w.some)) (omega (arith, w.long, w.some)) w.kept;
        left =
            sym (open_up ∙ ap (λ (m : ℕ). first_fault (first + i) (m ∷ faults_from key judge (here ∷ map make (take i items)) (drop (i + 1) (map make (take count items)))) passed) e
            ∙ ap₂ (λ (k : ℕ) (zs : List ℕ). first_fault k zs passed) (omega arith)
            (faults-agree key judge (here ∷ map make (take i items)) (map make (take (i + 1) items)) (drop (i + 1) (map make (take count items))) (λ p. sym (any_more p make items i d (omega (arith, below))))))
            ∙ w.left;
      }

-- ---- families and booleans

abbrev pub family_judge : Bool → paper.Family → ℕ
family_judge b m = fault 5 (not b)

family-faults : (es ms : List paper.Family) → family_faults es ms ≡ faults_from (λ m. m.number) family_judge es ms
unfolding family_faults faults_from
family-faults es [] = refl
family-faults es (m ∷ ms) = ap (λ zs. family_judge (any_of (λ e. eqb e.number m.number) es) m ∷ zs) (family-faults (m ∷ es) ms)

abbrev pub boolean_judge : Bool → paper.Boolean → ℕ
boolean_judge t b = cond (eqb (length b.unknown) 0 || eqb (length b.observations) 0) (fault 5 (not t)) 10

boolean_faults_lem : (es bs : List paper.Boolean) → boolean_faults es bs ≡ faults_from (λ b. b.fact) boolean_judge es bs
unfolding boolean_faults boolean_fault faults_from
boolean_faults_lem es [] = refl
boolean_faults_lem es (b ∷ bs) = ap (λ zs. boolean_judge (any_of (λ e. eqb e.fact b.fact) es) b ∷ zs) (boolean_faults_lem (b ∷ es) bs)

-- what would come out does not change the refusal
pub fault_any : {A B : Type 0} (k : ℕ) (ns : List ℕ) (a : A) (b : B) → checked_of (first_fault k ns (fine a)) ≡ checked_of (first_fault k ns (fine b))
unfolding first_fault checked_of
fault_any k [] a b = refl
fault_any k (zero ∷ ns) a b = fault_any (k + 1) ns a b
fault_any k (suc n ∷ ns) a b = refl

-- ---- from the first record on, as the definitions have it

pub families-whole : (ms : List paper.Family) (first : ℕ)
    → checked_of (first_fault (first + 0) (faults_from (λ m. m.number) family_judge [] ms) passed) ≡ checked_of (first_fault first (family_faults [] ms) passed)
families-whole ms first = ap₂ (λ (k : ℕ) (ns : List ℕ). checked_of (first_fault k ns passed)) (add-zero first) (sym (family-faults [] ms))

pub booleans-whole : (bs : List paper.Boolean) (first : ℕ)
    → checked_of (first_fault (first + 0) (faults_from (λ b. b.fact) boolean_judge [] bs) passed) ≡ checked_of (first_fault first (boolean_faults [] bs) passed)
booleans-whole bs first = ap₂ (λ (k : ℕ) (ns : List ℕ). checked_of (first_fault k ns passed)) (add-zero first) (sym (boolean_faults_lem [] bs))

-- the fault of a boolean record by its two tests
pub judge_tests : (t : Bool) (b : paper.Boolean) {clash again : Bool} → clash ≡ not (eqb (length b.unknown) 0 || eqb (length b.observations) 0) → again ≡ t
    → boolean_judge t b ≡ cond clash 10 (cond again 5 0)
judge_tests t b e f = go (eqb (length b.unknown) 0 || eqb (length b.observations) 0) t ∙ sym (ap₂ (λ (x y : Bool). cond x 10 (cond y 5 0)) e f)
  where
    go : (fine again : Bool) → cond fine (fault 5 (not again)) 10 ≡ cond (not fine) 10 (cond again 5 0)
    go true true = refl
    go true false = refl
    go false again = refl

-- ---- the two tests of a boolean record

pub clash_beside : (b : Boolean) → b.unknown ≡ true
    → not (eqb b.observations.count 0) ≡ not (eqb (length (boolean_of b).unknown) 0 || eqb (length (boolean_of b).observations) 0)
unfolding boolean_of observations_of
clash_beside b e = rw (e, length-below {A = paper.Observation} b.observations.count (λ i. record { value = get_or b.observations.values i 0; evidence = get_or b.observations.evidence i 0 }))

pub clash_none : (b : Boolean) → b.unknown ≡ false → false ≡ not (eqb (length (boolean_of b).unknown) 0 || eqb (length (boolean_of b).observations) 0)
unfolding boolean_of
clash_none b e = rw e

-- ---- families first, then booleans

abbrev pub booleans_checked : paper.Case → Checked
booleans_checked C = checked_of (first_fault (paper.booleans_at C) (boolean_faults [] C.booleans) (fine C))

pub bindable-first : (C : paper.Case) (first : ℕ) (r : Checked) → first ≡ paper.families_at C → r ≡ checked_of (first_fault first (family_faults [] C.families) passed)
    → or_else r (booleans_checked C) ≡ checked_of (bindable C)
unfolding bindable
bindable-first C first r e h =
    ap (λ (x : Checked). or_else x (booleans_checked C))
    (h ∙ ap (λ (k : ℕ). checked_of (first_fault k (family_faults [] C.families) passed)) e ∙ fault_any (paper.families_at C) (family_faults [] C.families) 0 C)
    ∙ fault_then (paper.families_at C) (family_faults [] C.families) C (first_fault (paper.booleans_at C) (boolean_faults [] C.booleans) (fine C))

pub bindable-rest : (C : paper.Case) (k : ℕ) (r : Checked) → k ≡ paper.booleans_at C → r ≡ checked_of (first_fault k (boolean_faults [] C.booleans) passed) → r ≡ booleans_checked C
bindable-rest C k r e h =
    h ∙ ap (λ (k : ℕ). checked_of (first_fault k (boolean_faults [] C.booleans) passed)) e ∙ fault_any (paper.booleans_at C) (boolean_faults [] C.booleans) 0 C
