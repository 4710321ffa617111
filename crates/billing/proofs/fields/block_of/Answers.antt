-- `fields::block_of`: eight bytes as a number.
use mathlib.Core.Path.{◌≡◌, ap}
use native.Mathlib.Omega.{arith}
use lib.ListN.{take, drop}
use Rattle.records.specs.paper.Fields.{little}
use Rattle.records.specs.code.Readers.{bytes_from}
use Rattle.billing.proofs.ByteLaws.{bytes_taken}
use Rattle.billing.proofs.fields.block_of.Goals as goal

pub returns : goal.returns
unfolding little bytes_from
returns c =
    let s = c.args.line.now in
    let e : little (bytes_from s 3 8) ≡ little (take 8 (drop 3 s)) = ap little (bytes_taken s 3 8 c.requires) in
    omega (arith, e, c.from_le_bytes.ensures)
