-- `heading::rule_persons`: those of the sets in use and those of the statuses are the persons of all rules.
use mathlib.Core.Path.{sym, ap, ap₂, ◌∙◌}
use native.Mathlib.Omega.{arith}
use Rattle.sets.specs.paper.Sets.{union, union_of}
use Rattle.expressions.specs.code.Listed.{held_by_status}
use Rattle.records.proofs.UsedLaws.{used_take}
use Rattle.report.specs.code.Opening.{itself}
use Rattle.report.proofs.HeadingLaws.{persons_are}
use Rattle.report.proofs.heading.rule_persons.Goals as goal

pub returns : goal.returns
returns c =
    let g = c.args.groups in
    record {
      at = λ P e k.
          c.union.ensures
          ∙ ap₂ union (c.united.ensures ∙ ap (union_of itself) (used_take g.sets g.count 144 c.min.result (omega (arith, c.well_formed)) c.min.ensures ∙ e))
          (c.status_persons.ensures ∙ ap (union_of held_by_status) (sym k))
          ∙ persons_are P;
    }
