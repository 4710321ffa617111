-- `answer_two`: both outcomes are those of answering, so demand 3 holds of the bytes written.
use Rattle.promises.proofs.Privacy.{private_lines}
use Rattle.promises.proofs.answer_two.Goals as goal

pub returns : goal.returns
returns c =
    let a = c.args in
    let one = c.answer-one.ensures in
    let other = c.answer-other.ensures in
    record { one = one; other = other; private = private_lines a.plan.now a.first.now a.second.now _ _ _ _ _ _ _ _ _ _ one other }
