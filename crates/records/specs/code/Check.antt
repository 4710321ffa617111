-- The answers of the checks: which number and record each stands for.
use Rattle.records.specs.paper.Fields.{Verdict, fine, refused}
use Rattle.records.specs.declared.checked.Checked.{Checked}
use Rattle.records.specs.declared.checked.Checked.TheVariants.{Accepted, Refused}

-- what is accepted, whatever comes out, and what is refused
unfoldable pub checked_of : {A : Type 0} → Verdict A → Checked
checked_of (fine a) = Accepted
checked_of (refused n k) = Refused n k
