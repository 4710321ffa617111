-- Reading a file kind by kind: what a pass over the records of one kind stands for. Contracts of src/plan/reading/ and src/case/reading/ cite it.
use Rattle.std.specs.Prelude.{◌≡◌, Bool, true, false, ◌||◌, cond, List, [], ℕ, suc, ◌-◌, length, eqb, ltb, leb}
use Rattle.records.specs.paper.Fields.{number, Read, got, and_then, byte_at, fields_at, Raw, Format, format_of, Verdict, refused, read_from}
use Rattle.records.specs.declared.fields.passing.Passing.{Passing}

-- a record of this kind, from its bit map on
abbrev pub raw_of : List Format → ℕ → List ℕ → ℕ → Read Raw
raw_of formats kind s at =
    and_then (byte_at s at number) (λ bits q.
    and_then (fields_at s q bits (format_of formats kind).fields) (λ values r. got (record { kind = kind; bits = bits; fields = values }) r))

-- a record with its bits
pub record WithBits (A : Type 0) : Type 0 where
  pub bits : ℕ
  pub item : A

abbrev pub with_bits : {A : Type 0} → (Raw → A) → Raw → WithBits A
with_bits make w = record { bits = w.bits; item = make w }

-- how a file is read: the first three as in `read_from`; `Clean headed a`: nothing is wrong with a, and it has a heading, or none
pub record Reading (F : Type 0) : Type 1 where
  pub formats : List Format
  pub add : Raw → F → F
  pub judge : Raw → F → ℕ
  pub Clean : Bool → F → Type 0

module _ {F : Type 0} (R : Reading F) where
  -- reading on, when k records were read
  abbrev pub read_on : List ℕ → ℕ → ℕ → F → ℕ → Verdict F
  read_on s at kind a k = read_from R.formats R.add R.judge (suc (length s - k)) s at kind a k

  -- something was refused, or reading goes on
  abbrev pub after : List ℕ → ℕ → ℕ → ℕ → ℕ → F → Verdict F
  after s kind n k at a = cond (eqb n 0) (read_on s at kind a k) (refused n k)

  -- the same of a state that is handed on
  abbrev pub reading : List ℕ → ℕ → Passing → F → Verdict F
  reading s kind p a = after s kind p.number p.«record» p.at a

  -- the pass over a kind: with whatever else was read, a refusal is handed on, or reading from its start is what it says
  abbrev pub Passed : {A : Type 0} → (F → List A → F) → ℕ → List ℕ → Passing → Passing → List A → Type 0
  Passed put kind s from to xs = (a : F) → R.Clean from.headed a → reading s kind from (put a []) ≡ reading s (suc kind) to (put a xs)

-- before the first record
abbrev pub at_start : Passing
at_start = record { number = 0; «record» = 0; at = 0; headed = false }

-- the number when the last kind was read: 1 if something comes after it, 3 if there was no record
abbrev pub end_number : List ℕ → Passing → ℕ
end_number s p = cond (eqb p.number 0) (cond (ltb p.at (length s)) 1 (cond (eqb p.«record» 0) 3 0)) p.number

-- "2 past a limit", when n of the kind came before, or past the plan's other limit; 3 if the record does not fit; 5 if it is not sound
abbrev pub full_judgement : ℕ → ℕ → Bool → Bool → Bool → ℕ
full_judgement n limit over fits sound = cond (leb limit n || over) 2 (cond fits (cond sound 0 5) 3)

-- of a kind that has no other limit, and no other rule that could be broken
abbrev pub judgement : ℕ → ℕ → Bool → ℕ
judgement n limit fits = full_judgement n limit false fits true
