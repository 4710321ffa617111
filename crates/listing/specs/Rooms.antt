-- How many bytes of a plan or a case decide what is read of it. Document 01, "Plan record", "Case record": the limits of each kind, and the
-- most bytes of a record.
use Rattle.std.specs.Prelude.{cond, List, [], ◌∷◌, ℕ, ◌+◌, ◌*◌, length, ltb}
use Rattle.records.specs.paper.Fields.{Shape, bytes, list, most, Format}
use Rattle.records.specs.paper.Plan.{plan_formats}
use Rattle.records.specs.paper.Case.{case_formats}

abbrev pub shape_most : Shape → ℕ
shape_most (bytes rs) = length rs
shape_most (list n rs) = 1 + n * length rs
shape_most most = 2

abbrev pub shapes_most : List Shape → ℕ
shapes_most [] = 0
shapes_most (f ∷ fs) = shape_most f + shapes_most fs

-- kind, bit map, and every field
abbrev pub record_most : Format → ℕ
record_most f = 2 + shapes_most f.fields

-- as many records of each kind as there may be
abbrev pub records_most : List Format → ℕ
records_most [] = 0
records_most (f ∷ fs) = f.limit * record_most f + records_most fs

abbrev pub longest_record : List Format → ℕ
longest_record [] = 1
longest_record (f ∷ fs) = cond (ltb (longest_record fs) (record_most f)) (record_most f) (longest_record fs)

-- all records that can be without fault, and one behind them
abbrev pub room_for : List Format → ℕ
room_for fs = records_most fs + longest_record fs

-- 15,846 and 3,829
unfoldable pub plan_room : ℕ
plan_room = room_for plan_formats

unfoldable pub case_room : ℕ
case_room = room_for case_formats
