-- What the code's structs hold of a plan and a case, or of their refusal.
use Rattle.std.specs.Prelude.{◌≡◌, List, ℕ, get_or, take}
use Rattle.records.specs.paper.Fields.{Verdict}
use Rattle.expressions.specs.code.Codes.{bound_of}
use Rattle.expressions.specs.code.Influences.{sets_of}
use Rattle.expressions.specs.code.Slots.{slots_of}
use Rattle.probes.specs.Entries.{refusal_number, record_of, Given, bound_in, influences_in, slots_in, count_in, refusal_in}
use Rattle.probes.specs.declared.bind.Bound.{Bound}
use Rattle.probes.specs.declared.refusal.Refusal.{Refusal}
use Rattle.probes.specs.declared.variables.Variables.{Variables}

unfoldable pub codes_of : Variables → List ℕ
codes_of v = take v.count v.items

abbrev pub TellsVerdict : {A : Type 0} → Verdict A → Refusal → Type 0
TellsVerdict v r = (r.number ≡ refusal_number v) × (r.place ≡ record_of v)

pub record Binds (v : Verdict Given) (r : Bound) : Type 0 where
  pub codes : (f : ℕ) → bound_of (get_or r.codes f 0) ≡ bound_in f v
  pub influence : sets_of r.influence ≡ influences_in v
  pub order : slots_of r.order ≡ slots_in v
  pub count : r.count ≡ count_in v
  pub refusal : TellsVerdict (refusal_in v) r.refusal
