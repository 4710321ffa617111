-- `little::mask_bytes`: std divides once where the definition divides again and again.
use Rattle.std.proofs.Math.Nat.{div-div-eq-div-mul}
use Rattle.page.specs.Little.{little_bytes}
use Rattle.page.proofs.little.mask_bytes.Goals as goal

pub returns : goal.returns
unfolding little_bytes
returns c = simp div-div-eq-div-mul c.to_le_bytes.ensures
