-- `field::peek`: within the bytes, or behind them.
use mathlib.Core.Path.{sym}
use native.Mathlib.Omega.{arith}
use lib.ListN.{get_or-eq_default}
use Rattle.spreadsheet.proofs.field.peek.Goals as goal

pub returns : goal.returns
returns c = (sym (get_or-eq_default c.args.s.now 0 c.if-at-s.false), λ h. absurd (omega arith))
