-- The answer of reading a case: number 0 and the case, or the refusal's number and record. Free, since document 01 says nothing of them: in a
-- refusal the case, which is some case of the code and stands for nothing; in a success the record, which is some number. No caller reads them.
use Rattle.std.specs.Prelude.{cond, eqb}
use Rattle.records.specs.paper.Fields.{Verdict, fine, refused}
use Rattle.records.specs.paper.Case.{Case}
use Rattle.records.specs.code.Decoded.{case_of}
use Rattle.records.specs.declared.case.reading.CaseRead.{CaseRead}

unfoldable pub case_read_of : CaseRead → Verdict Case
case_read_of r = cond (eqb r.number 0) (fine (case_of r.case)) (refused r.number r.«record»)
