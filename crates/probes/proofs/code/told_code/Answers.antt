-- `code::told_code`: the code itself, or 6.
use mathlib.Core.Path.{◌≡◌}
use mathlib.Core.Logic.{⊎_elim}
use native.Mathlib.Omega.{arith}
use Rattle.sets.proofs.SetLaws.{lt_or_le}
use Rattle.probes.proofs.CodeLaws.{code_below, code_from}
use Rattle.probes.proofs.code.told_code.Goals as goal

pub returns : goal.returns
returns c =
    ⊎_elim (λ l. let same : c.min.result ≡ c.args.code = omega arith in rw same (code_below c.args.code l))
    (λ l. let six : c.min.result ≡ 6 = omega arith in rw six (code_from c.args.code l)) (lt_or_le c.args.code 6)
