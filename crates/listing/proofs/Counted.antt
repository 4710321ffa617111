-- Counts of records by kind: within their limits they leave room for so many bytes.
use mathlib.Core.Path.{◌≡◌, refl, ap, ap₂, ◌∙◌}
use mathlib.Core.Bool.{Bool, true, false, cond}
use mathlib.Core.List.{List, [], ◌∷◌, ◌++◌}
use Prim.Native.Nat.{ℕ, zero, suc, ◌+◌, ◌*◌, ◌-◌, ◌≤◌, ◌<◌, zero-le}
use native.Mathlib.Nat.{mul-le-mul_right, suc-mul}
use native.Mathlib.Omega.{arith}
use lib.ListN.{length, get_or, length-append}
use lib.Dec.{eqb}
use borrow.Author.Tests.{eq-eqb, ne_eqb}
use Rattle.records.specs.paper.Fields.{Format, no_format, Raw}
use Rattle.records.specs.paper.Plan.{joined}
use Rattle.listing.specs.Rooms.{record_most, records_most}

-- one more of kind i, counted from 0
abbrev pub bump : List ℕ → ℕ → List ℕ
bump [] i = []
bump (c ∷ cs) zero = suc c ∷ cs
bump (c ∷ cs) (suc i) = c ∷ bump cs i

-- the most bytes of so many records
abbrev pub used : List Format → List ℕ → ℕ
used [] cs = 0
used (f ∷ fs) [] = 0
used (f ∷ fs) (c ∷ cs) = c * record_most f + used fs cs

abbrev pub Within : List Format → List ℕ → Type 0
Within [] cs = Unit {0}
Within (f ∷ fs) [] = Unit {0}
Within (f ∷ fs) (c ∷ cs) = (c ≤ f.limit) × Within fs cs

pub within-most : (fs : List Format) (cs : List ℕ) → Within fs cs → used fs cs ≤ records_most fs
within-most [] cs h = zero-le
within-most (f ∷ fs) [] h = zero-le
within-most (f ∷ fs) (c ∷ cs) h =
    let one = mul-le-mul_right (record_most f) h.0 in
    let more = within-most fs cs h.1 in
    omega arith

pub bump_length : (cs : List ℕ) (i : ℕ) → length (bump cs i) ≡ length cs
bump_length [] i = refl
bump_length (c ∷ cs) zero = refl
bump_length (c ∷ cs) (suc i) = ap suc (bump_length cs i)

pub bump_used : (fs : List Format) (cs : List ℕ) (i : ℕ) → i < length fs → length cs ≡ length fs → used fs (bump cs i) ≡ used fs cs + record_most (get_or fs i no_format)
bump_used [] cs i h e = absurd (omega arith)
bump_used (f ∷ fs) [] i h e = absurd (omega arith)
bump_used (f ∷ fs) (c ∷ cs) zero h e = let m = suc-mul c (record_most f) in omega arith
bump_used (f ∷ fs) (c ∷ cs) (suc i) h e = let ih = bump_used fs cs i (omega arith) (omega arith) in omega arith

pub bump_within : (fs : List Format) (cs : List ℕ) (i : ℕ) → Within fs cs → get_or (bump cs i) i 0 ≤ (get_or fs i no_format).limit → Within fs (bump cs i)
bump_within [] cs i h l = tt
bump_within (f ∷ fs) [] i h l = tt
bump_within (f ∷ fs) (c ∷ cs) zero h l = (l, h.1)
bump_within (f ∷ fs) (c ∷ cs) (suc i) h l = (h.0, bump_within fs cs i h.1 l)

-- ---- counts where a record joins its own kind

abbrev pub more : Bool → ℕ → ℕ
more b n = cond b (suc n) n

pub joined_length : {A : Type 0} (kind : ℕ) (make : Raw → A) (r : Raw) (xs : List A) → length (joined kind make r xs) ≡ more (eqb r.kind kind) (length xs)
joined_length {A} kind make r xs = pick (eqb r.kind kind)
  where
    pick : (b : Bool) → length (cond b (xs ++ (make r ∷ [])) xs) ≡ more b (length xs)
    pick true = length-append xs (make r ∷ []) ∙ omega arith
    pick false = refl

-- kinds counted from k on
abbrev pub tally : ℕ → ℕ → List ℕ → List ℕ
tally kind k [] = []
tally kind k (c ∷ cs) = more (eqb kind k) c ∷ tally kind (suc k) cs

tally_past : (kind k : ℕ) (cs : List ℕ) → kind < k → tally kind k cs ≡ cs
tally_past kind k [] h = refl
tally_past kind k (c ∷ cs) h = ap₂ (λ (b : Bool) (cs : List ℕ). more b c ∷ cs) (ne_eqb kind k (λ e. omega arith)) (tally_past kind (suc k) cs (omega arith))

tally_from : (i k : ℕ) (cs : List ℕ) (kind : ℕ) → kind ≡ k + i → tally kind k cs ≡ bump cs i
tally_from i k [] kind e = refl
tally_from zero k (c ∷ cs) kind e = ap₂ (λ (b : Bool) (cs : List ℕ). more b c ∷ cs) (eq-eqb kind k (omega arith)) (tally_past kind (suc k) cs (omega arith))
tally_from (suc i) k (c ∷ cs) kind e = ap₂ (λ (b : Bool) (cs : List ℕ). more b c ∷ cs) (ne_eqb kind k (λ f. omega arith)) (tally_from i (suc k) cs kind (omega arith))

pub tally_bump : (kind : ℕ) (cs : List ℕ) → 1 ≤ kind → tally kind 1 cs ≡ bump cs (kind - 1)
tally_bump kind cs h = tally_from (kind - 1) 1 cs kind (omega arith)
