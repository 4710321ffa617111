-- `finish::write_open`: the lines, by the sets of facts and those of decisions.
use lib.ListN.{length-take, length-drop}
use native.Mathlib.Omega.{arith}
use Rattle.report.proofs.NineLaws.{rest_is}
use Rattle.report.proofs.finish.write_open.Goals as goal

pub write_lines-requires : goal.write_lines-requires
write_lines-requires c =
    let p = c.requires in
    (p.0, simp length-take (omega arith), simp (length-take, length-drop) (omega arith))

pub returns : goal.returns
returns c = rw (← rest_is c.args.sets.now c.args.known) c.write_lines.ensures
