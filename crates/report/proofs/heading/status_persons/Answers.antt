-- `heading::status_persons`: the persons of the statuses in use, taken in one after another.
use mathlib.Core.Path.{◌≡◌, sym, ap, ◌∙◌}
use mathlib.Core.List.{map}
use Prim.Native.Nat.{◌<◌}
use native.Mathlib.Omega.{arith}
use borrow.Author.Rules.{rules}
use lib.ListN.{take}
use Rattle.std.specs.List.{fold}
use Rattle.std.proofs.lemmas.Iterator.{YieldsList-from_slice}
use Rattle.std.proofs.lemmas.Iterator.Adapters.{serves_from_places}
use Rattle.sets.specs.paper.Sets.{union, union_of, one, All}
use Rattle.sets.proofs.Every.{all_of_map}
use Rattle.sets.proofs.LoopLaws.{all_at}
use Rattle.records.specs.code.Decoded.{status_of}
use Rattle.records.specs.declared.plan.Status.{Status}
use Rattle.records.proofs.UsedLaws.{used_take}
use Rattle.expressions.specs.code.Coded.{PersonFits}
use Rattle.expressions.specs.code.Listed.{held_by_status}
use Rattle.report.proofs.HeadingLaws.{folded-union, union-map}
use Rattle.report.proofs.heading.status_persons.Goals as goal

pub fold-requires-clause-can : goal.fold-requires-clause-can
unfolding status_of
fold-requires-clause-can c =
    let s = c.args.statuses in
    let used = used_take s.items s.count 32 c.min.result (omega (arith, c.well_formed)) c.min.ensures in
    let each : All (λ (x : Status). x.person < 64) (take c.min.result s.items) = rw used (all_of_map status_of PersonFits (take s.count s.items) c.requires) in (
      tt,
      serves_from_places (YieldsList-from_slice (take c.min.result s.items) cc) (λ x q r. search rules)
          (λ x k h e. let small : x.now.person < 64 = rw e (all_at (λ (x : Status). x.person < 64) _ x.now k each h) in search rules),
    )

pub returns : goal.returns
unfolding status_of
returns c =
    let s = c.args.statuses in
    let used = used_take s.items s.count 32 c.min.result (omega (arith, c.well_formed)) c.min.ensures in
    let all : c.fold.result ≡ fold union 0 (map (λ (x : Status). one x.person) (take c.min.result s.items)) = search rules in
    all ∙ folded-union (λ m. m) _ ∙ union-map (λ m. m) _ _ ∙ ap (union_of (λ (x : Status). one x.person)) used ∙ sym (union-map held_by_status status_of _)
