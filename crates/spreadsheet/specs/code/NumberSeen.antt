-- What the code's numbers stand for.
use Rattle.spreadsheet.specs.paper.Numerals as paper
use Rattle.spreadsheet.specs.declared.number.Number.{Number}
use Rattle.spreadsheet.specs.declared.number.Number.TheVariants.{Is, Not}

abbrev pub number_seen : Number → paper.Number
number_seen (Is n) = paper.is n
number_seen Not = paper.none
