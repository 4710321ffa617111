-- The bytes of a record by its parts, and of its fields.
use mathlib.Core.Path.{◌≡◌, refl, ap, ap₂, ◌∙◌}
use mathlib.Core.Bool.{Bool, true, false, cond}
use mathlib.Core.List.{List, [], ◌∷◌, ◌++◌, map}
use Prim.Native.Nat.{ℕ, ◌/◌}
use native.Mathlib.Nat.{div-one}
use lib.ListN.{length}
use Rattle.records.specs.paper.Fields.{Shape, format_of}
use Rattle.records.specs.paper.Plan.{plan_formats}
use Rattle.encoding.specs.paper.Encoded.{Part, bits_of, raw_of, some, field_bytes, fields_bytes, record_bytes}
use Rattle.encoding.specs.code.Written.{list_bytes}
use Rattle.encoding.proofs.PartLaws.{low_bit, high_bits}

abbrev parts_bytes : List Shape → List Part → List ℕ
parts_bytes [] ps = []
parts_bytes (f ∷ fs) [] = []
parts_bytes (f ∷ fs) (p ∷ ps) = cond p.stands (field_bytes f p.value) [] ++ parts_bytes fs ps

parts-bytes : (fs : List Shape) (ps : List Part) → fields_bytes (bits_of ps) fs (map (λ p. p.value) ps) ≡ parts_bytes fs ps
unfolding fields_bytes bits_of
parts-bytes [] ps = refl
parts-bytes (f ∷ fs) [] = refl
parts-bytes (f ∷ fs) (p ∷ ps) =
    ap₂ (λ (b : Bool) (n : ℕ). cond b (field_bytes f p.value) [] ++ fields_bytes n fs (map (λ p. p.value) ps)) (low_bit p.stands (bits_of ps)) (high_bits p.stands (bits_of ps))
    ∙ ap (λ (t : List ℕ). cond p.stands (field_bytes f p.value) [] ++ t) (parts-bytes fs ps)

pub record_bytes_lem : (kind : ℕ) (ps : List Part) → record_bytes plan_formats (raw_of kind ps) ≡ kind ∷ bits_of ps ∷ parts_bytes (format_of plan_formats kind).fields ps
unfolding record_bytes
record_bytes_lem kind ps = ap (λ (t : List ℕ). kind ∷ bits_of ps ∷ t) (parts-bytes (format_of plan_formats kind).fields ps)

-- ---- fields

-- a list of numbers
pub counted : (v : List ℕ) → cond (some v) (length v / 1 ∷ v) [] ≡ list_bytes v
counted v = ap (λ (n : ℕ). cond (some v) (n ∷ v) []) (div-one (length v))

-- no field
pub no_field : (b : Bool) → cond {A = List ℕ} b [] [] ≡ []
no_field true = refl
no_field false = refl

-- one that goes where it has no bytes
pub whole-field : (v : List ℕ) → cond (some v) v [] ≡ v
whole-field [] = refl
whole-field (x ∷ v) = refl
