-- Each field of a record that was read is of its shape if its bit stands, else absent, and what numbers it can hold then.
use mathlib.Core.Path.{◌≡◌, refl, sym, subst}
use mathlib.Core.Bool.{Bool, true, false, ◌&&◌, cond}
use mathlib.Core.List.{List, [], ◌∷◌}
use Prim.Native.Nat.{ℕ, zero, suc, ◌+◌, ◌*◌, ◌/◌, ◌%◌, ◌^◌, ◌≤◌, ◌<◌, zero-le, suc-le-suc}
use native.Mathlib.Nat.{le_refl, le_trans, pow-suc, zero-lt-suc}
use native.Mathlib.Omega.{arith}
use lib.ListN.{length, get_or}
use lib.Dec.{eqb, ltb, leb}
use borrow.Author.Tests.{leb-true}
use Rattle.sets.specs.paper.Sets.{odd, has, All}
use Rattle.records.specs.paper.Fields.{Range, up_to, number, Shape, bytes, mask, list, most, Read, got, bad, and_then, byte_at, bytes_at, repeat, little, field_at, fields_at, Format, Raw, field, format_of, record_at}
use Rattle.records.specs.promises.Sound.{Numbers}
use Rattle.sets.proofs.SetLaws.{has-zero, has-suc}

-- ---- what holds of that which was read, if it was

abbrev pub Gave : {A : Type 0} → (A → Type 0) → Read A → Type 0
Gave Q (got a p) = Q a
Gave Q bad = Unit {0}

gave_then : {A B : Type 0} (Q : A → Type 0) (R : B → Type 0) (m : Read A) (f : A → ℕ → Read B) → Gave Q m → ((a : A) (p : ℕ) → Q a → Gave R (f a p)) → Gave R (and_then m f)
gave_then Q R (got a p) f h k = k a p h
gave_then Q R bad f h k = tt

abbrev pub In : Range → ℕ → Type 0
In r b = (r.low ≤ b) × (b ≤ r.top)

-- each byte in its range
abbrev pub Ranged : List Range → List ℕ → Type 0
Ranged [] [] = Unit {0}
Ranged [] (b ∷ bs) = ⊥
Ranged (r ∷ rs) [] = ⊥
Ranged (r ∷ rs) (b ∷ bs) = In r b × Ranged rs bs

abbrev pub Shaped : Shape → List ℕ → Type 0
Shaped (bytes rs) v = Ranged rs v
Shaped (list n rs) v = (k : ℕ) × (k ≤ n) × Ranged (repeat k rs) v
Shaped most v = little v ≤ 4096

-- of its shape if its bit stands, else absent
abbrev pub Standing : Bool → Shape → List ℕ → Type 0
Standing true f v = Shaped f v
Standing false f v = v ≡ []

-- absent, or of its shape
abbrev pub Held : Shape → List ℕ → Type 0
Held f [] = Unit {0}
Held f (b ∷ bs) = Shaped f (b ∷ bs)

abbrev pub Fields : ℕ → List Shape → List (List ℕ) → Type 0
Fields bits [] [] = Unit {0}
Fields bits [] (v ∷ vs) = ⊥
Fields bits (f ∷ fs) [] = ⊥
Fields bits (f ∷ fs) (v ∷ vs) = Standing (odd (bits % 2)) f v × Fields (bits / 2) fs vs

byte_in : (s : List ℕ) (at : ℕ) (r : Range) → Gave (In r) (byte_at s at r)
unfolding byte_at
byte_in s at r = pick (ltb at (length s)) (leb r.low x) (leb x r.top) refl refl
  where
    x : ℕ
    x = get_or s at 0

    pick : (t l h : Bool) → leb r.low x ≡ l → leb x r.top ≡ h → Gave (In r) (cond t (cond (l && h) (got x (at + 1)) bad) bad)
    pick true true true d e = (leb-true r.low x d, leb-true x r.top e)
    pick true true false d e = tt
    pick true false h d e = tt
    pick false l h d e = tt

bytes_in : (s : List ℕ) (at : ℕ) (rs : List Range) → Gave (Ranged rs) (bytes_at s at rs)
unfolding bytes_at
bytes_in s at [] = tt
bytes_in s at (r ∷ rs) =
    gave_then (In r) (Ranged (r ∷ rs)) (byte_at s at r) (λ b p. and_then (bytes_at s p rs) (λ bs q. got (b ∷ bs) q)) (byte_in s at r) (λ b p h.
    gave_then (Ranged rs) (Ranged (r ∷ rs)) (bytes_at s p rs) (λ bs q. got (b ∷ bs) q) (bytes_in s p rs) (λ bs q k. (h, k)))

field_in : (s : List ℕ) (at : ℕ) (f : Shape) → Gave (Shaped f) (field_at s at f)
unfolding field_at
field_in s at (bytes rs) = bytes_in s at rs
field_in s at (list n rs) =
    gave_then (In (up_to n)) (Shaped (list n rs)) (byte_at s at (up_to n)) (λ k p. bytes_at s p (repeat k rs)) (byte_in s at (up_to n)) (λ k p h.
    listed k h.1 (bytes_at s p (repeat k rs)) (bytes_in s p (repeat k rs)))
  where
    listed : (k : ℕ) → k ≤ n → (m : Read (List ℕ)) → Gave (Ranged (repeat k rs)) m → Gave (Shaped (list n rs)) m
    listed k h (got v p) g = (k, h, g)
    listed k h bad g = tt
field_in s at most =
    gave_then (λ v. Unit {0}) (Shaped most) (bytes_at s at (number ∷ number ∷ [])) (λ bs p. cond (leb (little bs) 4096) (got bs p) bad) (any (bytes_at s at (number ∷ number ∷ [])))
    (λ v p h. pick v p (leb (little v) 4096) refl)
  where
    any : (m : Read (List ℕ)) → Gave (λ v. Unit {0}) m
    any (got v p) = tt
    any bad = tt

    pick : (v : List ℕ) (p : ℕ) (b : Bool) → leb (little v) 4096 ≡ b → Gave (Shaped most) (cond b (got v p) bad)
    pick v p true e = leb-true (little v) 4096 e
    pick v p false e = tt

fields_in : (s : List ℕ) (at bits : ℕ) (fs : List Shape) → Gave (Fields bits fs) (fields_at s at bits fs)
unfolding fields_at
fields_in s at bits [] = pick (eqb bits 0)
  where
    pick : (b : Bool) → Gave (Fields bits []) (cond b (got [] at) bad)
    pick true = tt
    pick false = tt
fields_in s at bits (f ∷ fs) =
    gave_then (Standing (odd (bits % 2)) f) (Fields bits (f ∷ fs)) one (λ v p. and_then (fields_at s p (bits / 2) fs) (λ vs q. got (v ∷ vs) q)) (stands (odd (bits % 2))) (λ v p h.
    gave_then (Fields (bits / 2) fs) (Fields bits (f ∷ fs)) (fields_at s p (bits / 2) fs) (λ vs q. got (v ∷ vs) q) (fields_in s p (bits / 2) fs) (λ vs q k. (h, k)))
  where
    one : Read (List ℕ)
    one = cond (odd (bits % 2)) (field_at s at f) (got [] at)

    stands : (b : Bool) → Gave (Standing b f) (cond b (field_at s at f) (got [] at))
    stands true = field_in s at f
    stands false = refl

-- the fields of a record are those of its kind
abbrev pub InFormat : List Format → Raw → Type 0
InFormat fs r = Fields r.bits (format_of fs r.kind).fields r.fields

-- a record of this kind: and its set of bits is right
abbrev pub Fitting : List Format → ℕ → Raw → Type 0
Fitting fs kind r = Fields r.bits (format_of fs kind).fields r.fields × ((format_of fs kind).fits r.bits ≡ true)

pub record_in : (fs : List Format) (s : List ℕ) (at : ℕ) → Gave (InFormat fs) (record_at fs s at)
unfolding record_at
record_in fs s at =
    gave_then Any (InFormat fs) (byte_at s at top) (λ kind p. rest kind p) (any (byte_at s at top)) (λ kind p _.
    gave_then Any (InFormat fs) (byte_at s p number) (λ bits q. last kind bits q) (any (byte_at s p number)) (λ bits q _.
    gave_then (Fields bits (format_of fs kind).fields) (InFormat fs) (fields_at s q bits (format_of fs kind).fields) (λ values r. got (raw kind bits values) r)
    (fields_in s q bits (format_of fs kind).fields) (λ values r h. h)))
  where
    top : Range
    top = record { low = 1; top = length fs }

    raw : ℕ → ℕ → List (List ℕ) → Raw
    raw kind bits values = record { kind = kind; bits = bits; fields = values }

    last : ℕ → ℕ → ℕ → Read Raw
    last kind bits q = and_then (fields_at s q bits (format_of fs kind).fields) (λ values r. got (raw kind bits values) r)

    rest : ℕ → ℕ → Read Raw
    rest kind p = and_then (byte_at s p number) (λ bits q. last kind bits q)

    Any : ℕ → Type 0
    Any b = Unit {0}

    any : (m : Read ℕ) → Gave Any m
    any (got v p) = tt
    any bad = tt

-- ---- the fields by their numbers

field-stands : (bits : ℕ) (fs : List Shape) (vs : List (List ℕ)) → Fields bits fs vs → (k : ℕ) → Standing (has bits k) (get_or fs k (bytes [])) (get_or vs k [])
field-stands bits [] [] h k = none (has bits k)
  where
    none : (b : Bool) → Standing b (bytes []) []
    none true = tt
    none false = refl
field-stands bits [] (v ∷ vs) h k = absurd h
field-stands bits (f ∷ fs) [] h k = absurd h
field-stands bits (f ∷ fs) (v ∷ vs) h zero = subst (λ (b : Bool). Standing b f v) (sym (has-zero bits)) h.0
field-stands bits (f ∷ fs) (v ∷ vs) h (suc k) =
    subst (λ (b : Bool). Standing b (get_or fs k (bytes [])) (get_or vs k [])) (sym (has-suc bits k)) (field-stands (bits / 2) fs vs h.1 k)

-- field k of a record of this kind
module _ (formats : List Format) (kind : ℕ) (r : Raw) (h : Fitting formats kind r) (k : ℕ) where
  abbrev shape : Shape
  shape = get_or (format_of formats kind).fields k (bytes [])

  pub stands : Standing (has r.bits k) shape (field r k)
  stands = field-stands r.bits (format_of formats kind).fields r.fields h.0 k

  pub held : Held shape (field r k)
  held = either (has r.bits k) (field r k) stands
    where
      either : (b : Bool) (v : List ℕ) → Standing b shape v → Held shape v
      either true [] h = tt
      either true (b ∷ bs) h = h
      either false v e = subst (Held shape) (sym e) tt

-- byte i of a field of bytes
pub byte_in_range : (rs : List Range) (v : List ℕ) → Ranged rs v → (i : ℕ) → In (get_or rs i (up_to 0)) (get_or v i 0)
byte_in_range [] [] h i = (zero-le, zero-le)
byte_in_range [] (b ∷ bs) h i = absurd h
byte_in_range (r ∷ rs) [] h i = absurd h
byte_in_range (r ∷ rs) (b ∷ bs) h zero = h.0
byte_in_range (r ∷ rs) (b ∷ bs) h (suc i) = byte_in_range rs bs h.1 i

pub byte-top : (rs : List Range) (v : List ℕ) → Held (bytes rs) v → (i : ℕ) → get_or v i 0 ≤ (get_or rs i (up_to 0)).top
byte-top rs [] h i = zero-le
byte-top rs (b ∷ bs) h i = (byte_in_range rs (b ∷ bs) h i).1

-- one entry after another, all of one range
repeated : (r : Range) (k : ℕ) (v : List ℕ) → Ranged (repeat k (r ∷ [])) v → (length v ≤ k) × All (λ n. n < suc r.top) v
unfolding repeat
repeated r zero [] h = (zero-le, tt)
repeated r zero (b ∷ bs) h = absurd h
repeated r (suc k) [] h = absurd h
repeated r (suc k) (b ∷ bs) h =
    let t = repeated r k bs h.1 in
    (suc-le-suc t.0, (suc-le-suc h.0.1, t.1))

-- a list of numbers
pub list-numbers : (n : ℕ) (r : Range) (v : List ℕ) → Held (list n (r ∷ [])) v → Numbers n (suc r.top) v
list-numbers n r [] h = (zero-le, tt)
list-numbers n r (b ∷ bs) h =
    let t = repeated r h.0 (b ∷ bs) h.2 in
    (le_trans t.0 h.1, t.1)

-- a field of one number, or none
pub byte-numbers : (r : Range) (v : List ℕ) → Held (bytes (r ∷ [])) v → Numbers 1 (suc r.top) v
unfolding repeat
byte-numbers r [] h = (zero-le, tt)
byte-numbers r (b ∷ bs) h = repeated r 1 (b ∷ bs) h

little-below : (k : ℕ) (v : List ℕ) → Ranged (repeat k (number ∷ [])) v → little v < 256 ^ k
unfolding repeat little
little-below zero [] h = le_refl 1
little-below zero (b ∷ bs) h = absurd h
little-below (suc k) [] h = absurd h
little-below (suc k) (b ∷ bs) h =
    let t = little-below k bs h.1 in
    let l = h.0.1 in
    subst (λ (x : ℕ). b + 256 * little bs < x) (sym (pow-suc 256 k)) (omega arith)

-- a mask
pub mask_below : (v : List ℕ) → Held mask v → little v < 2 ^ 64
unfolding little repeat
mask_below [] h = zero-lt-suc 18446744073709551615
mask_below (b ∷ bs) h = little-below 8 (b ∷ bs) h

-- a number of two bytes
pub most-top : (v : List ℕ) → Held most v → little v ≤ 4096
unfolding little
most-top [] h = zero-le
most-top (b ∷ bs) h = h

-- entries of two bytes each
unfoldable pub pairs : {A : Type 0} → (ℕ → ℕ → A) → List ℕ → List A
pairs f [] = []
pairs f (x ∷ []) = []
pairs f (x ∷ y ∷ bs) = f x y ∷ pairs f bs

pairs_in : {A : Type 0} (f : ℕ → ℕ → A) (Q : A → Type 0) (r t : Range) → ((x y : ℕ) → In r x → In t y → Q (f x y))
    → (k : ℕ) (v : List ℕ) → Ranged (repeat k (r ∷ t ∷ [])) v → (length (pairs f v) ≤ k) × All Q (pairs f v)
unfolding repeat pairs
pairs_in f Q r t h zero [] e = (zero-le, tt)
pairs_in f Q r t h zero (b ∷ bs) e = absurd e
pairs_in f Q r t h (suc k) [] e = absurd e
pairs_in f Q r t h (suc k) (x ∷ []) e = absurd e.1
pairs_in f Q r t h (suc k) (x ∷ y ∷ bs) e =
    let w = pairs_in f Q r t h k bs e.1.1 in
    (suc-le-suc w.0, (h x y e.0 e.1.0, w.1))

pub list-pairs : {A : Type 0} (f : ℕ → ℕ → A) (Q : A → Type 0) (n : ℕ) (r t : Range) → ((x y : ℕ) → In r x → In t y → Q (f x y))
    → (v : List ℕ) → Held (list n (r ∷ t ∷ [])) v → (length (pairs f v) ≤ n) × All Q (pairs f v)
unfolding pairs
list-pairs f Q n r t h [] e = (zero-le, tt)
list-pairs f Q n r t h (b ∷ bs) e =
    let w = pairs_in f Q r t h e.0 (b ∷ bs) e.2 in
    (le_trans w.0 e.1, w.1)
