-- Four bytes as a number.
use Rattle.records.proofs.Reading.{four_is, four_free}
use native.Mathlib.Omega.{arith}
use borrow.Author.Rules.{rules}
use Rattle.records.proofs.fields.word_at.Goals as goal

pub returns : goal.returns
returns c =
    let a = c.args in
    let s = a.s.now in (
      four_is s a.at c.from-a.ensures c.from-b.ensures c.from-c.ensures c.from-d.ensures,
      search rules,
      four_free s a.at c.requires (omega (arith, c.from-a.ensures)) (omega (arith, c.from-b.ensures)) (omega (arith, c.from-c.ensures)) (omega (arith, c.from-d.ensures)),
    )
