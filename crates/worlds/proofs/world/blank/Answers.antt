-- `world::blank`: every entry is 0.
use Rattle.expressions.proofs.ListLaws.{filled_at}
use Rattle.worlds.proofs.world.blank.Goals as goal

pub returns : goal.returns
returns c = record { blocks = λ p. filled_at 64 p 0; roles = λ p. filled_at 64 p 0; kinds = λ p. filled_at 64 p 0 }
