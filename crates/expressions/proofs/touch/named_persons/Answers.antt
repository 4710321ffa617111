-- `touch::named_persons`: the persons of the tuple, taken in one after another.
use Prim.Native.Nat.{ℕ, ◌<◌, min}
use mathlib.Core.Path.{◌≡◌, sym, ap, ◌∙◌}
use mathlib.Core.List.{map}
use native.Mathlib.Omega.{arith}
use borrow.Author.Rules.{rules}
use lib.ListN.{length, take}
use Rattle.std.specs.List.{fold}
use Rattle.std.proofs.lemmas.Iterator.{YieldsList-from_slice}
use Rattle.std.proofs.lemmas.Iterator.Adapters.{serves_from_places}
use Rattle.sets.specs.paper.Sets.{union, one, set_of, All}
use Rattle.sets.proofs.LoopLaws.{all_at}
use Rattle.sets.proofs.UnionLaws.{set-union}
use Rattle.records.specs.code.Decoded.{fact_of}
use Rattle.records.specs.declared.plan.Fact.{Fact}
use Rattle.records.specs.promises.Sound.{Person}
use Rattle.records.proofs.UsedLaws.{used_take}
use Rattle.expressions.proofs.ListLaws.{folded-map}
use Rattle.expressions.proofs.touch.named_persons.Goals as goal

-- the tuple in use, at the front of its array
front : (t : Fact) (n m : ℕ) → length t.tuple ≡ 4 → n ≡ t.count → m ≡ min n 4 → take m t.tuple ≡ take t.count t.tuple
front t n m long e k = used_take t.tuple t.count 4 m long (rw (← e) k)

pub fold-requires-clause-can : goal.fold-requires-clause-can
unfolding fact_of
fold-requires-clause-can c =
    let t = c.args.fact in
    let each : All Person (take c.min.result t.tuple) = rw (front t _ _ (omega (arith, c.well_formed)) c.from.ensures c.min.ensures) c.requires in
    (tt, serves_from_places (YieldsList-from_slice (take c.min.result t.tuple) cc) (λ x q r. search rules) (λ x k h e. let small : x.now < 64 = rw e (all_at Person _ x.now k each h) in search rules))

pub returns : goal.returns
unfolding fact_of
returns c =
    let t = c.args.fact in
    let used = front t _ _ (omega (arith, c.well_formed)) c.from.ensures c.min.ensures in
    let all : c.fold.result ≡ fold union 0 (map one (take c.min.result t.tuple)) = search rules in
    all ∙ folded-map one _ ∙ sym (set-union _) ∙ ap set_of used
