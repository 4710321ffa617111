-- `cite::unless_none`: by the test.
use mathlib.Core.Path.{sym, ap}
use mathlib.Core.Bool.{Bool, cond}
use Prim.Native.Nat.{ℕ}
use borrow.Author.Tests.{eq-eqb, ne_eqb}
use Rattle.worlds.proofs.cite.unless_none.Goals as goal

pub returns-then-concerned-eq0 : goal.returns-then-concerned-eq0
returns-then-concerned-eq0 c = sym (ap (λ (b : Bool). cond {A = ℕ} b 0 c.args.rules) (eq-eqb c.args.concerned 0 c.if-concerned-eq0.true))

pub returns-else-concerned-eq0 : goal.returns-else-concerned-eq0
returns-else-concerned-eq0 c = sym (ap (λ (b : Bool). cond {A = ℕ} b 0 c.args.rules) (ne_eqb c.args.concerned 0 c.if-concerned-eq0.false))
