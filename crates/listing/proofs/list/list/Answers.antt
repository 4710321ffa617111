-- `list::list`: the refusal's row, or the table of the lines that the answer has.
use mathlib.Core.Path.{ap}
use native.Mathlib.Omega.{arith}
use Rattle.report.specs.paper.Operations.{told}
use Rattle.listing.proofs.ListedLaws.{told-few, refused_named, listed-refused, listed-table}
use Rattle.listing.proofs.list.list.Goals as goal

pub put_table-requires-in-Answered : goal.put_table-requires-in-Answered
put_table-requires-in-Answered c =
    told-few _ _ c.args.lines.now c.args.events.now _ _ _ c.answer.ensures _ (ap (λ x. (told x).lines) c.in-Answered.is) c.answer.auto.lines

pub returns-in-Accepted : goal.returns-in-Accepted
returns-in-Accepted c =
    let w = c.put_table.ensures in
    listed-table _ _ _ _ _ _ _ c.answer.ensures _ _ _ 0 (ap (λ x. (told x).refusal) c.in-Accepted.is) (ap (λ x. (told x).lines) c.in-Accepted.is) w.out_after w.n_len_bound

pub returns-in-Answered : goal.returns-in-Answered
returns-in-Answered c =
    let w = c.put_table-in-Answered.ensures in
    listed-table _ _ _ _ _ _ _ c.answer.ensures _ _ _ c.in-Answered.n (ap (λ x. (told x).refusal) c.in-Answered.is) (ap (λ x. (told x).lines) c.in-Answered.is) w.out_after w.n_len_bound

pub returns-in-Refused : goal.returns-in-Refused
returns-in-Refused c =
    let w = c.put_refused.ensures in
    let v = c.in-Refused in
    listed-refused _ _ _ _ _ _ _ c.answer.ensures _ _ _ v.number v.k (ap (λ x. (told x).refusal) v.is) (ap (λ x. (told x).«record») v.is) (refused_named _ _ _ _ _ _ _ c.answer.ensures v.number v.k v.is) w.out_after w.k_len_bound

pub returns-in-TooManyWorlds : goal.returns-in-TooManyWorlds
returns-in-TooManyWorlds c =
    let w = c.put_refused-in-TooManyWorlds.ensures in
    listed-refused _ _ _ _ _ _ _ c.answer.ensures _ _ _ 11 0 (ap (λ x. (told x).refusal) c.in-TooManyWorlds.is) (ap (λ x. (told x).«record») c.in-TooManyWorlds.is) (λ z. omega arith) w.out_after w.k_len_bound
