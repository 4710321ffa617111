-- `lukhveri_import`: what a table imported hands over.
use Rattle.exports.proofs.HandLaws.{hands_plan}
use Rattle.exports.proofs.lukhveri_import.Goals as goal

pub returns : goal.returns
returns c = let t = c.tell_made.ensures in hands_plan c.import-found.ensures t.0 t.1
