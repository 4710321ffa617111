-- An outcome handed over: its answer told, its bytes as they are.
use mathlib.Core.Path.{◌≡◌, ap, ap₂, ◌∙◌}
use mathlib.Core.List.{List}
use Prim.Native.Nat.{ℕ}
use Rattle.report.specs.paper.Operations.{told, Outcome}
use Rattle.report.specs.declared.Answer.{Answer}
use Rattle.records.specs.paper.Fields.{Verdict}
use Rattle.encoding.specs.paper.Placed.{Kept}
use Rattle.exports.specs.Handed.{numbers, Handed, handed, made_refusal, made_numbers, HandedPlan, handed_plan}

pub hands : {a : Answer} {ls es : List ℕ} {o : Outcome} {r : ℕ} {n : List ℕ} → r ≡ (told a).refusal → n ≡ numbers (told a) → ◌≡◌ {A = Outcome} (record { answer = a; lines = ls; events = es }) o → ◌≡◌ {A = Handed} (record { result = r; told = n; lines = ls; events = es }) (handed o)
hands {a} {ls} {es} f g e = ap₂ (λ (r : ℕ) (n : List ℕ). record { result = r; told = n; lines = ls; events = es }) f g ∙ ap handed e

-- plan bytes handed over
pub hands_plan : {a : Verdict ℕ} {t : List ℕ} {k : Kept} {r : ℕ} {n : List ℕ} → ◌≡◌ {A = Kept} (record { answer = a; bytes = t }) k → r ≡ made_refusal a → n ≡ made_numbers a → ◌≡◌ {A = HandedPlan} (record { result = r; made = n; plan = t }) (handed_plan k)
hands_plan {a} {t} e f g = ap₂ (λ (r : ℕ) (n : List ℕ). record { result = r; made = n; plan = t }) f g ∙ ap handed_plan e
