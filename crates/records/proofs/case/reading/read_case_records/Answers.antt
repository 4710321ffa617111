-- A case out of its bytes is what the passes over its kinds say.
use mathlib.Core.Path.{refl}
use mathlib.Core.List.{List}
use Prim.Native.Nat.{ℕ}
use native.Mathlib.Omega.{arith}
use Rattle.records.specs.paper.Case.{Case, empty_case, case_records}
use Rattle.records.specs.code.Decoded.{case_of, case_heading_of, case_headings_of, families_of, booleans_of, relations_of, constraints_of}
use Rattle.records.specs.code.CaseRead.{case_read_of}
use Rattle.records.specs.code.CasePasses.{case_reading, with_case_headings, with_families, with_booleans, with_relations, with_constraints}
use Rattle.records.specs.declared.fields.passing.Passing.{Passing}
use Rattle.records.proofs.Passing.{Reached, next-pass, all_read}
use Rattle.records.proofs.CaseKinds.{case-kinds, first-pass}
use Rattle.records.proofs.case.reading.read_case_records.Lts as lts
use Rattle.records.proofs.case.reading.read_case_records.Reads as reads
use Rattle.records.proofs.case.reading.read_case_records.Tie as tie
use Rattle.records.proofs.case.reading.read_case_records.Goals as goal

abbrev Read : List ℕ → ℕ → Passing → Case → Type 0
Read s = Reached case_reading s (case_records s)

abbrev bytes : lts.After-read_case_heading tie.the-claims reads.Pre reads.Post → List ℕ
bytes c = c.args.s.now

-- ---- what was read, and what reading all gives, after each pass
abbrev case1 : lts.After-read_case_heading tie.the-claims reads.Pre reads.Post → Case
case1 c = let h = c.read_case_heading-h.result in with_case_headings empty_case (case_headings_of h.headings h.heading)

read1 : (c : lts.After-read_case_heading tie.the-claims reads.Pre reads.Post) → Read (bytes c) 2 c.read_case_heading-h.result.next (case1 c)
read1 c =
    let h = c.read_case_heading-h.result in
    let e = c.read_case_heading-h.ensures in
    first-pass (bytes c) h.next h.headings (case_heading_of h.heading) e.0 e.2 e.3

abbrev case2 : lts.After-read_families tie.the-claims reads.Pre reads.Post → Case
case2 c = with_families (case1 c.before.before) (families_of c.read_families-f.result.families)

read2 : (c : lts.After-read_families tie.the-claims reads.Pre reads.Post) → Read (bytes c.before.before) 3 c.read_families-f.result.next (case2 c)
read2 c =
    let w = read1 c.before.before in
    let r = c.read_families-f.result in
    let e = c.read_families-f.ensures in
    next-pass w with_families r.next (families_of r.families) refl e.0 e.2 w.clean

abbrev case3 : lts.After-read_booleans tie.the-claims reads.Pre reads.Post → Case
case3 c = with_booleans (case2 c.before.before) (booleans_of c.read_booleans-b.result.booleans)

read3 : (c : lts.After-read_booleans tie.the-claims reads.Pre reads.Post) → Read (bytes c.before.before.before.before) 4 c.read_booleans-b.result.next (case3 c)
read3 c =
    let w = read2 c.before.before in
    let r = c.read_booleans-b.result in
    let e = c.read_booleans-b.ensures in
    next-pass w with_booleans r.next (booleans_of r.booleans) refl e.0 e.2 w.clean

abbrev case4 : lts.After-read_relations tie.the-claims reads.Pre reads.Post → Case
case4 c = with_relations (case3 c.before.before) (relations_of c.read_relations-r.result.relations)

read4 : (c : lts.After-read_relations tie.the-claims reads.Pre reads.Post) → Read (bytes c.before.before.before.before.before.before) 5 c.read_relations-r.result.next (case4 c)
read4 c =
    let w = read3 c.before.before in
    let r = c.read_relations-r.result in
    let e = c.read_relations-r.ensures in
    next-pass w with_relations r.next (relations_of r.relations) refl e.0 e.2 w.clean

abbrev case5 : lts.After-read_constraints tie.the-claims reads.Pre reads.Post → Case
case5 c = with_constraints (case4 c.before.before) (constraints_of c.read_constraints-c.result.constraints)

read5 : (c : lts.After-read_constraints tie.the-claims reads.Pre reads.Post) → Read (bytes c.before.before.before.before.before.before.before.before) 6 c.read_constraints-c.result.next (case5 c)
read5 c =
    let w = read4 c.before.before in
    let r = c.read_constraints-c.result in
    let e = c.read_constraints-c.ensures in
    next-pass w with_constraints r.next (constraints_of r.constraints) refl e.0 e.2 w.clean

pub returns : goal.returns
unfolding case_read_of case_of
returns c = let e = c.ended-end.ensures in all_read (read5 c.before.before.before.before.before.before.before.before) (omega (arith, case-kinds)) e.0 e.1
