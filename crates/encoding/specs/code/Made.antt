-- What the code's answers stand for.
use Rattle.std.specs.Prelude.{ℕ}
use Rattle.records.specs.paper.Fields.{Verdict, fine, refused}
use Rattle.encoding.specs.declared.made.Made.{Made}
use Rattle.encoding.specs.declared.made.Made.TheVariants.{Written, Refused}

abbrev pub made_of : Made → Verdict ℕ
made_of (Written n) = fine n
made_of (Refused n k) = refused n k
