-- Records and their fields, by places in the bytes. Document 01, "Plan record": "A record is a kind byte, a bit map byte (bit 0 lowest),
-- then only the fields whose bit stands, in bit order. Integers are little-endian; a field is one byte unless said. A list is a count byte
-- and its entries."
use Rattle.std.specs.Prelude.{Bool, true, false, ◌&&◌, cond, List, [], ◌∷◌, ◌++◌, ℕ, zero, suc, ◌+◌, ◌*◌, ◌/◌, ◌%◌, ◌-◌, length, get_or, eqb, ltb, leb}
use Rattle.sets.specs.paper.Sets.{odd, subset, size}

-- what a byte may hold
pub record Range : Type 0 where
  pub low : ℕ
  pub top : ℕ

abbrev pub up_to : ℕ → Range
up_to n = record { low = 0; top = n }

-- the first number above a range
abbrev pub above : Range → ℕ
above r = suc r.top

-- "Citations and evidence are 0–63, actors 1–255, other free numbers 0–255"; persons are 0–63
abbrev pub person : Range
person = up_to 63

abbrev pub citation : Range
citation = up_to 63

abbrev pub evidence : Range
evidence = up_to 63

abbrev pub number : Range
number = up_to 255

abbrev pub actor : Range
actor = record { low = 1; top = 255 }

pub data Shape : Type 0 where
  -- so many bytes, each in its range
  bytes : List Range → Shape
  -- a count byte with its most, and that many entries
  list : ℕ → List Range → Shape
  -- "2 bytes, 0–4,096"
  most : Shape

-- a field of one byte
abbrev pub byte : Range → Shape
byte r = bytes (r ∷ [])

-- "A mask is 8 bytes"
abbrev pub mask : Shape
mask = bytes (number ∷ number ∷ number ∷ number ∷ number ∷ number ∷ number ∷ number ∷ [])

-- "An election is boolean fact, actor, policy (0 unknown, 1 default false, 2 default true), citation"
abbrev pub election : Shape
election = bytes (number ∷ actor ∷ up_to 2 ∷ citation ∷ [])

-- ---- reading

pub data Read (A : Type 0) : Type 0 where
  got : A → ℕ → Read A
  bad : Read A

abbrev pub and_then : {A B : Type 0} → Read A → (A → ℕ → Read B) → Read B
and_then (got a at) f = f a at
and_then bad f = bad

-- "cut short", or "value outside its range"
unfoldable pub byte_at : List ℕ → ℕ → Range → Read ℕ
byte_at s at r =
    cond (ltb at (length s)) (cond (leb r.low (get_or s at 0) && leb (get_or s at 0) r.top) (got (get_or s at 0) (at + 1)) bad) bad

unfoldable pub bytes_at : List ℕ → ℕ → List Range → Read (List ℕ)
bytes_at s at [] = got [] at
bytes_at s at (r ∷ rs) = and_then (byte_at s at r) (λ b p. and_then (bytes_at s p rs) (λ bs q. got (b ∷ bs) q))

unfoldable pub repeat : {A : Type 0} → ℕ → List A → List A
repeat zero xs = []
repeat (suc n) xs = xs ++ repeat n xs

-- "Integers are little-endian"
unfoldable pub little : List ℕ → ℕ
little [] = 0
little (b ∷ bs) = b + 256 * little bs

unfoldable pub field_at : List ℕ → ℕ → Shape → Read (List ℕ)
field_at s at (bytes rs) = bytes_at s at rs
field_at s at (list n rs) = and_then (byte_at s at (up_to n)) (λ k p. bytes_at s p (repeat k rs))
field_at s at most = and_then (bytes_at s at (number ∷ number ∷ [])) (λ bs p. cond (leb (little bs) 4096) (got bs p) bad)

-- the fields whose bit stands, an absent one as no bytes; a bit past the last field is unknown
unfoldable pub fields_at : List ℕ → ℕ → ℕ → List Shape → Read (List (List ℕ))
fields_at s at bits [] = cond (eqb bits 0) (got [] at) bad
fields_at s at bits (f ∷ fs) =
    and_then (cond (odd (bits % 2)) (field_at s at f) (got [] at)) (λ v p. and_then (fields_at s p (bits / 2) fs) (λ vs q. got (v ∷ vs) q))

-- ---- a kind of record: how many there may be, which sets of bits are right, the fields by their bits
pub record Format : Type 0 where
  pub limit : ℕ
  pub fits : ℕ → Bool
  pub fields : List Shape

-- '"=" marks required bits'
abbrev pub needs : ℕ → ℕ → Bool
needs required bits = subset required bits

-- "just one bit"
abbrev pub single : ℕ → Bool
single bits = eqb (size bits) 1

pub record Raw : Type 0 where
  pub kind : ℕ
  pub bits : ℕ
  pub fields : List (List ℕ)

abbrev pub no_format : Format
no_format = record { limit = 0; fits = λ bits. false; fields = [] }

-- the format of a kind, which is counted from 1
abbrev pub format_of : List Format → ℕ → Format
format_of fs kind = get_or fs (kind - 1) no_format

-- "1 cut short, unknown kind or bit, value or count outside its range"
unfoldable pub record_at : List Format → List ℕ → ℕ → Read Raw
record_at fs s at =
    and_then (byte_at s at (record { low = 1; top = length fs })) (λ kind p.
    and_then (byte_at s p number) (λ bits q.
    and_then (fields_at s q bits (format_of fs kind).fields) (λ values r.
    got (record { kind = kind; bits = bits; fields = values }) r)))

-- ---- the values of a record that was read

abbrev pub field : Raw → ℕ → List ℕ
field r k = get_or r.fields k []

-- a field of one byte
abbrev pub num : Raw → ℕ → ℕ
num r k = get_or (field r k) 0 0

-- a field of several bytes
abbrev pub wide : Raw → ℕ → ℕ
wide r k = little (field r k)

-- "A refusal gives number and record"
pub data Verdict (A : Type 0) : Type 0 where
  fine : A → Verdict A
  refused : ℕ → ℕ → Verdict A

abbrev pub on_fine : {A B : Type 0} → Verdict A → (A → Verdict B) → Verdict B
on_fine (fine a) f = f a
on_fine (refused n k) f = refused n k

-- record after record: what was read so far grows by each, and `judge` gives what is wrong with it then, 0 for nothing; fuel is more than the
-- records that are left. "Kinds never fall": 1. "also an empty file": 3.
module _ {A : Type 0} (formats : List Format) (add : Raw → A → A) (judge : Raw → A → ℕ) where
  unfoldable pub read_from : ℕ → List ℕ → ℕ → ℕ → A → ℕ → Verdict A
  read_from zero s at kind a k = refused 1 k
  read_from (suc n) s at kind a k =
      cond (leb (length s) at) (cond (eqb k 0) (refused 3 0) (fine a))
      (elim (record_at formats s at) [
        | bad ↦ refused 1 k
        | got r p ↦ elim (ltb r.kind kind) [
          | true ↦ refused 1 k
          | false ↦ elim (judge r (add r a)) [ zero ↦ read_from n s p r.kind (add r a) (k + 1) | suc m ↦ refused (suc m) k ]
        ]
      ])

-- a fault for each record in order, 0 for none: "Each names its first record"
unfoldable pub first_fault : {A : Type 0} → ℕ → List ℕ → Verdict A → Verdict A
first_fault k [] v = v
first_fault k (zero ∷ ns) v = first_fault (k + 1) ns v
first_fault k (suc n ∷ ns) v = refused (suc n) k

abbrev pub fault : ℕ → Bool → ℕ
fault n ok = cond ok 0 n
