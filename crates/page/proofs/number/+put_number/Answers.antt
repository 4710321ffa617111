-- `number::put_number`: the digits of the tenth part, then the last; the number falls.
use mathlib.Core.Path.{sym, ap, ◌∙◌}
use Rattle.page.specs.Page.{puts}
use Rattle.page.proofs.PageLaws.{puts_one, put_last}
use Rattle.page.proofs.DecimalLaws.{decimal-low, decimal_high}
use Rattle.page.proofs.number.+put_number.Goals as goal

pub returns-then-n-lt10 : goal.returns-then-n-lt10
returns-then-n-lt10 t c = c.put.ensures ∙ sym (ap (puts _) (decimal-low _ c.if-n-lt10.true) ∙ puts_one _ _)

pub returns : goal.returns
returns t c = put_last _ _ _ _ _ c.put_number-next.ensures c.put-2.ensures ∙ sym (ap (puts _) (decimal_high _ c.if-n-lt10.false))
