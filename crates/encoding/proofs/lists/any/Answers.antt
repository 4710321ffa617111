-- `any`: a list has numbers where its count is not 0.
use mathlib.Core.Path.{sym}
use native.Mathlib.Omega.{arith}
use Rattle.records.specs.code.Decoded.{numbers_of}
use Rattle.encoding.proofs.ListBytes.{some_taken}
use Rattle.encoding.proofs.lists.any.Goals as goal

pub returns : goal.returns
unfolding numbers_of
returns c = sym (some_taken c.args.list.count c.args.list.items (omega (arith, c.well_formed)))
