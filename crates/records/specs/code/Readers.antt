-- What the field readers' answers stand for. Contracts of src/fields.rt cite it.
use Rattle.std.specs.Prelude.{Bool, true, false, cond, List, [], ◌∷◌, ℕ, zero, suc, ◌+◌, ◌*◌, ◌≤◌, length, get_or}
use Rattle.records.specs.paper.Fields.{Shape, Read, got, bad, field_at}
use Rattle.records.specs.paper.Plan as paper
use Rattle.records.specs.code.Decoded.{election_of}
use Rattle.records.specs.declared.fields.Field.{Field}
use Rattle.records.specs.declared.fields.Field.TheVariants as field
use Rattle.records.specs.declared.fields.Wide.{Wide}
use Rattle.records.specs.declared.fields.Wide.TheVariants as wide
use Rattle.records.specs.declared.fields.Short.{Short}
use Rattle.records.specs.declared.fields.Short.TheVariants as short
use Rattle.records.specs.declared.fields.Listed.{Listed}
use Rattle.records.specs.declared.fields.Listed.TheVariants as listed
use Rattle.records.specs.declared.fields.Elected.{Elected}
use Rattle.records.specs.declared.fields.Elected.TheVariants as elected

abbrev pub map_read : {A B : Type 0} → (A → B) → Read A → Read B
map_read f (got a n) = got (f a) n
map_read f bad = bad

abbrev pub is_got : {A : Type 0} → Read A → Bool
is_got (got a n) = true
is_got bad = false

-- the number in a field of one byte, 0 for an absent one
abbrev pub first : List ℕ → ℕ
first bs = get_or bs 0 0

-- n bytes from a place on
unfoldable pub bytes_from : List ℕ → ℕ → ℕ → List ℕ
bytes_from s at zero = []
bytes_from s at (suc n) = get_or s at 0 ∷ bytes_from s (at + 1) n

-- a field whose bit stands, or an absent one
abbrev pub field_if : Bool → List ℕ → ℕ → Shape → Read (List ℕ)
field_if present s at f = cond present (field_at s at f) (got [] at)

-- ---- the answers

abbrev pub field_read : Field → Read ℕ
field_read (field.Got v n) = got v n
field_read field.Bad = bad

abbrev pub wide_read : Wide → Read ℕ
wide_read (wide.Got v n) = got v n
wide_read wide.Bad = bad

abbrev pub short_read : Short → Read ℕ
short_read (short.Got v n) = got v n
short_read short.Bad = bad

abbrev pub election_read : Elected → Read (List paper.Election)
election_read (elected.Got e n) = got (election_of e) n
election_read elected.Bad = bad

-- a list of entries of one byte, not more than the most, within the bytes
abbrev pub list_read : List ℕ → Listed → Read (List ℕ)
list_read s (listed.Got at k n) = got (bytes_from s at k) n
list_read s listed.Bad = bad

abbrev pub list_fits : ℕ → List ℕ → Listed → Type 0
list_fits top s (listed.Got at k n) = (k ≤ top) × (at + k ≤ length s)
list_fits top s listed.Bad = Unit {0}

-- and of two bytes
abbrev pub pairs_read : List ℕ → Listed → Read (List ℕ)
pairs_read s (listed.Got at k n) = got (bytes_from s at (k * 2)) n
pairs_read s listed.Bad = bad

abbrev pub pairs_fit : ℕ → List ℕ → Listed → Type 0
pairs_fit top s (listed.Got at k n) = (k ≤ top) × (at + k * 2 ≤ length s)
pairs_fit top s listed.Bad = Unit {0}
