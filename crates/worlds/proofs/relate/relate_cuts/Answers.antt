use mathlib.Core.Path.{refl, ap, ◌∙◌}
use mathlib.Core.List.{List, [], ◌∷◌}
use Prim.Native.Nat.{ℕ}
use native.Mathlib.Omega.{arith}
use Rattle.sets.specs.paper.Sets.{has, any_of}
use Rattle.sets.proofs.SetLaws.{has-none}
use Rattle.worlds.specs.code.Related.{RelatedAt}
use Rattle.worlds.proofs.OverLaws.{turn-is}
use Rattle.worlds.proofs.RelateLaws.{done_next, related_before, related_after, same_then}
use Rattle.worlds.proofs.relate.relate_cuts.Goals as goal

pub loop-c-preserved : goal.loop-c-preserved
unfolding any_of
loop-c-preserved c =
    let s = c.in-Some.ensures.steps in
    let v = c.loop-c.invariant in
    let r = c.relate_cut in
    let ks : List ℕ = 2 ∷ 3 ∷ 4 ∷ 5 ∷ 6 ∷ 7 ∷ [] in (
      omega (arith, s.rest.1),
      same_then v.1 r.ensures.same,
      done_next (λ i. RelatedAt c.args.preceded.now i c.args.cuts c.args.combination c.args.t.now r.new.t) c.args.cuts _ _ _ (turn-is v.0 s)
          (related_before _ _ _ _ ks refl refl v.1 r.ensures.here)
          (λ i q h e. related_after _ _ _ _ (λ k. r.ensures.others k i q) (v.2 i h e)),
    )

pub returns : goal.returns
returns c = record { each = λ i h. c.loop-c.invariant.2 i h (ap (λ (m : ℕ). has m i) c.in-None.ensures.steps.0 ∙ has-none i); same = c.loop-c.invariant.1 }
