-- Evidence as the code may mark it: each number has a place in a mask, each fact one in a table.
use Rattle.std.specs.Prelude.{◌≡◌, List, ℕ, get_or}
use Rattle.sets.specs.paper.Sets.{one, union, union_of, All}
use Rattle.records.specs.paper.Plan.{Plan}
use Rattle.records.specs.paper.Case.{Case, Boolean, Relation, Observation}
use Rattle.records.specs.promises.Sound.{Evidence, SoundCase}
use Rattle.expressions.specs.paper.Bindings.{evidence_of}

abbrev pub evidence_mark : Observation → ℕ
evidence_mark o = one o.evidence

-- all of a boolean record's
abbrev pub boolean_evidence : Boolean → ℕ
boolean_evidence b = union (union_of evidence_mark b.observations) (union_of one b.unknown)

abbrev pub Evident : Observation → Type 0
Evident o = Evidence o.evidence

abbrev pub EvidentBoolean : Boolean → Type 0
EvidentBoolean b = All Evidence b.unknown × All Evident b.observations

abbrev pub EvidentRelation : Relation → Type 0
EvidentRelation r = Evident r.observation

-- a case that was read over some plan
pub record ReadCase (C : Case) : Type 0 where
  pub plan : Plan
  pub sound : SoundCase plan C

-- the evidence of each fact
pub record EvidenceBy (C : Case) (table : List ℕ) : Type 0 where
  pub at : (f : ℕ) → get_or table f 0 ≡ evidence_of C f
