use mathlib.Core.Path.{refl, sym, ap, ◌∙◌}
use Prim.Native.Nat.{ℕ}
use native.Mathlib.Omega.{arith}
use Rattle.sets.specs.paper.Sets.{has, only, members}
use Rattle.sets.proofs.UnionLaws.{union-first, union_end}
use Rattle.worlds.specs.code.Over.{entry}
use Rattle.worlds.specs.code.Tables.{row}
use Rattle.worlds.specs.code.Citing.{own_of}
use Rattle.sets.proofs.TurnLaws.{members-none}
use Rattle.worlds.proofs.CiteLaws.{added_if}
use Rattle.worlds.proofs.cite.own_citations.Goals as goal

pub loop-c-init : goal.loop-c-init
loop-c-init c = rw c.into_iter-c-iterator.ensures.into_iter_gives (λ p. refl)

pub loop-c-preserved : goal.loop-c-preserved
unfolding own_of
loop-c-preserved c = λ p.
    let t = c.args.t.now in
    let i = c.in-Some.c in
    let turn = c.in-Some.ensures.steps in
    let x = entry c.loop-c.own p in
    union-first (λ k. only (has (row t 1 k) p) (row t 17 k)) x (entry c.give.new.table p) (only (has (row t 1 i) p) (row t 17 i))
    (members c.loop-c.c-iterator.0) (members c.next.new.self.0) _ turn.rest.0
    (c.give.ensures.at p ∙ added_if (has (row t 1 i) p) x (row t 17 i))
    (ap (λ (k : ℕ). only (has (row t 1 k) p) (row t 17 k)) turn.first.0)
    ∙ c.loop-c.invariant p

pub returns : goal.returns
unfolding own_of
returns c = λ p.
    let t = c.args.t.now in
    sym (union_end (λ k. only (has (row t 1 k) p) (row t 17 k)) (entry c.loop-c.own p) (members c.loop-c.c-iterator.0) (members-none c.loop-c.c-iterator.0 c.in-None.ensures.steps.0))
    ∙ c.loop-c.invariant p
