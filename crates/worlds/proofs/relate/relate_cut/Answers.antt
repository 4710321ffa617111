-- `relate::relate_cut`: the six rows of a cut, from what its members and the pairs of edges say.
use mathlib.Core.Path.{◌≡◌, ap, ◌∙◌}
use mathlib.Core.Bool.{Bool, ◌&&◌}
use Prim.Native.Nat.{ℕ, ◌-◌, ◌^◌}
use native.Mathlib.Omega.{arith}
use lib.Pow.{pow_pos}
use lib.Dec.{eqb, ltb}
use borrow.Author.Rules.{rules}
use Rattle.sets.specs.paper.Sets.{has, one, meets, rising_less}
use Rattle.worlds.specs.code.Over.{entry}
use Rattle.worlds.specs.code.Tables.{row}
use Rattle.worlds.proofs.OverLaws.{tested-has}
use Rattle.worlds.proofs.RelateLaws.{lower-has, dropping_has, clashing-has, six_here, six_beside, six_same}
use Rattle.worlds.proofs.relate.relate_cut.Goals as goal

pub overflow_sub-place : goal.overflow_sub-place
unfolding one
overflow_sub-place c = omega (arith, c.bit-place.ensures, pow_pos c.args.c)

pub returns : goal.returns
returns c =
    let t = c.args.t.now in
    let own = row t 1 c.args.c in
    let cuts = c.args.cuts in
    let here = six_here c.args.c c.lay.ensures c.lay-2.ensures c.lay-3.ensures c.lay-4.ensures c.lay-5.ensures c.lay-6.ensures in
    let sharing = c.meeting-sharing in
    let twins : (d : ℕ) → has c.those-twins.result d ≡ (has cuts d && eqb own (row t 1 d)) =
    tested-has (λ d. eqb own (row t 1 d)) cuts c.those-twins.result c.those-twins.ensures.outside (λ d e. let h = c.those-twins.ensures.inside d e in search rules) in
    let later : (d : ℕ) → has c.those-later.result d ≡ (has sharing.result d && rising_less own (row t 1 d)) =
    tested-has (λ d. rising_less own (row t 1 d)) sharing.result c.those-later.result c.those-later.ensures.outside (λ d e. let h = c.those-later.ensures.inside d e in search rules) in
    record {
      here = record {
        twins = λ d. ap (λ (x : ℕ). has x d) here.0 ∙ twins d;
        lower = λ d. ap (λ (x : ℕ). has x d) here.1 ∙ lower-has c.those-twins.result c.bit-place.result c.args.c c.bit-place.ensures d ∙ ap (λ (b : Bool). b && ltb d c.args.c) (twins d);
        droppers = λ d. ap (λ (x : ℕ). has x d) (here.2 ∙ c.minus-droppers.ensures)
            ∙ dropping_has (entry c.args.preceded.now d) (entry c.args.preceded.now c.args.c) c.args.c c.bit-place.ensures d c.meeting-preceding.result sharing.result (c.meeting-preceding.ensures d) (sharing.ensures d);
        clashing = λ d. ap (λ (x : ℕ). has x d) (here.3 ∙ c.minus.ensures)
            ∙ clashing-has sharing.result c.those-twins.result d (has cuts d) (meets (row t 1 d) own) (eqb own (row t 1 d)) (sharing.ensures d) (twins d);
        later = λ d. ap (λ (x : ℕ). has x d) here.4 ∙ later d ∙ ap (λ (b : Bool). b && rising_less own (row t 1 d)) (sharing.ensures d);
        crossing = λ e. ap (λ (x : ℕ). has x e) here.5 ∙ c.meeting-crossing.ensures e ∙ ap (λ (b : Bool). b && meets (row t 0 e) ((2 ^ 64 - 1) - own)) (c.meeting-inward.ensures e);
      };
      others = six_beside c.args.c c.lay.ensures c.lay-2.ensures c.lay-3.ensures c.lay-4.ensures c.lay-5.ensures c.lay-6.ensures;
      same = six_same c.args.c c.lay.ensures c.lay-2.ensures c.lay-3.ensures c.lay-4.ensures c.lay-5.ensures c.lay-6.ensures;
    }
