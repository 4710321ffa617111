-- `number::leads_in`: no digit, one, or more.
use Rattle.spreadsheet.proofs.NumeralLaws.{leads-none, leads_one, leads-on}
use Rattle.spreadsheet.proofs.number.leads_in.Goals as goal

pub returns-then-from-to : goal.returns-then-from-to
returns-then-from-to c = let a = c.args in leads-none a.s.now a.from a.to c.if-from-to.true

pub returns-then-from-to-2 : goal.returns-then-from-to-2
returns-then-from-to-2 c = let a = c.args in leads_one a.s.now a.from a.to c.if-from-to.false c.if-from-to-2.true c.requires.1

pub returns : goal.returns
returns c = let a = c.args in leads-on a.s.now a.from a.to c.if-from-to-2.false c.requires.1
