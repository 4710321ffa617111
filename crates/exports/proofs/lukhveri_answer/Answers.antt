-- `lukhveri_answer`: what a case answered hands over.
use Rattle.exports.proofs.HandLaws.{hands}
use Rattle.exports.proofs.lukhveri_answer.Goals as goal

pub returns : goal.returns
returns c = let t = c.tell.ensures in hands t.0 t.1 c.answer-answer.ensures
