-- The line of a person over all worlds. Document 01, "Line and event".
use Rattle.std.specs.Prelude.{Bool, true, false, ◌&&◌, not, cond, List, [], ◌∷◌, ◌++◌, ℕ, length, get_or, eqb}
use Rattle.sets.specs.paper.Sets.{has, one, only, union_below, union_of, all_of}
use Rattle.expressions.specs.paper.Variables.{Influence}
use Rattle.page.specs.Little.{little_bytes}
use Rattle.worlds.specs.paper.View.{View}

pub record Line : Type 0 where
  pub person : ℕ
  pub kind : ℕ
  pub role : ℕ
  pub block : ℕ
  pub open_facts : ℕ
  pub open_decisions : ℕ
  pub citations : ℕ

-- "person, kind, role, block mask, open facts mask (8), open decisions (2 bytes), citations mask (8)"
unfoldable pub line_bytes : Line → List ℕ
line_bytes l =
    l.person ∷ l.kind ∷ l.role ∷ (little_bytes 8 l.block ++ (little_bytes 8 l.open_facts ++ (little_bytes 2 l.open_decisions ++ little_bytes 8 l.citations)))

-- "29 bytes"
abbrev pub line_length : ℕ
line_length = 29

-- "Kinds 5 and 6: rest zero"
abbrev pub bare_line : ℕ → ℕ → Line
bare_line kind p = record { person = p; kind = kind; role = 0; block = 0; open_facts = 0; open_decisions = 0; citations = 0 }

-- "the kind of the first world that has one"
unfoldable pub first_kind : List View → ℕ
first_kind [] = 0
first_kind (v ∷ vs) = cond (eqb v.kind 0) (first_kind vs) v.kind

-- the numbers of the sets of a list that hold the person
unfoldable pub holding : List ℕ → ℕ → ℕ
holding sets p = union_below (length sets) (λ i. only (has (get_or sets i 0) p) (one i))

-- "Open fields: variables whose influence holds the person, zero for kind 0"
abbrev pub open_line : Influence → ℕ → ℕ → ℕ → ℕ → ℕ → Line
open_line I p kind role block citations = record {
  person = p;
  kind = kind;
  role = role;
  block = block;
  open_facts = holding I.facts p;
  open_decisions = holding I.decisions p;
  citations = citations;
}

-- the line where the block stands, by whether the roles agree; "Otherwise the kind of the first world that has one, else 1"
abbrev pub line_by : Influence → ℕ → Bool → Bool → View → ℕ → ℕ → Line
line_by I p true true v kind cs = record { person = p; kind = 0; role = v.role; block = v.block; open_facts = 0; open_decisions = 0; citations = cs }
line_by I p true false v kind cs = open_line I p 2 0 v.block cs
line_by I p false same v kind cs = open_line I p (cond (eqb kind 0) 1 kind) 0 0 0

-- "A block stands if equal in all worlds; if roles then differ, kind 2, role 0"; "Citations: over all worlds, zero without block"; with no
-- world, 6 inconsistent
unfoldable pub line_over : Influence → ℕ → List View → Line
line_over I p [] = bare_line 6 p
line_over I p (v ∷ vs) =
    line_by I p (not (eqb v.block 0) && all_of (λ u. eqb u.block v.block) vs) (all_of (λ u. eqb u.role v.role) vs) v
    (first_kind (v ∷ vs)) (union_of (λ u. u.citations) (v ∷ vs))

-- "Its lines have open fields zero": one world's line
unfoldable pub line_in : ℕ → View → Line
line_in p v = record { person = p; kind = v.kind; role = v.role; block = v.block; open_facts = 0; open_decisions = 0; citations = v.citations }
