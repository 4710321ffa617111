use lib.ListN.{length-take}
use native.Mathlib.Omega.{arith}
use Rattle.report.specs.code.Written.{line_from}
use Rattle.report.proofs.LinesAt.{line-length}
use Rattle.report.proofs.line.write_line.Goals as goal

pub copy_from_slice-requires : goal.copy_from_slice-requires
copy_from_slice-requires c = rw (c.encode.ensures, length-take) (omega (arith, line-length (line_from c.args.l)))
