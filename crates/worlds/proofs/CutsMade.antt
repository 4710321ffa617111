-- Steps 3 to 5 whole: what is settled by sets of cuts is what the world says.
use mathlib.Core.Path.{◌≡◌, sym, ap, ap₂, ◌∙◌}
use mathlib.Core.Bool.{Bool, true, ◌&&◌, not}
use mathlib.Core.List.{List}
use mathlib.Core.Logic.{⊎_elim}
use Prim.Native.Nat.{ℕ, ◌^◌, ◌<◌}
use native.Mathlib.Omega.{arith}
use Rattle.sets.specs.paper.Sets.{has, one, meets, meet, minus, only, members, union_below, union_of}
use Rattle.records.specs.paper.Plan.{Plan}
use Rattle.sets.proofs.SetLaws.{Within, has-minus, has_high, antisym, lt_or_le}
use Rattle.sets.proofs.BelowLaws.{union_find, in_below, of_only, in_only, flag-set}
use Rattle.sets.proofs.Local.{clash}
use Rattle.expressions.specs.paper.Rules.{cut_count, cut}
use Rattle.expressions.specs.paper.Nodes.{on}
use Rattle.expressions.specs.paper.Variables.{Influence}
use Rattle.worlds.specs.paper.Active as paper
use Rattle.worlds.specs.paper.World.{kept_cut, kept_cuts, overlapping_cuts, standing, spread, overlap_seed, marks_of, after_marks, world_of}
use Rattle.worlds.specs.paper.Events.{blocks, least_of_merged, overlaps}
use Rattle.worlds.specs.code.Tables.{row, Stands}
use Rattle.worlds.specs.code.Cuts.{blockers, blocked_twins, Noted}
use Rattle.worlds.specs.code.Settled.{CutsSettled}
use Rattle.worlds.specs.declared.tables.Common.{Common}
use Rattle.worlds.specs.declared.tables.Active.{Active}
use Rattle.worlds.specs.declared.cuts.CutsDone.{CutsDone}
use Rattle.sets.proofs.TurnLaws.{union-has, has-union_of}
use Rattle.worlds.proofs.SpreadLaws.{spread-members}
use Rattle.worlds.proofs.Partition.{cut_on}
use Rattle.worlds.proofs.FindLaws.{union-members, few-low}
use Rattle.worlds.proofs.CutLaws.{cuts-few, kept-told, overlapping-told}
use Rattle.worlds.proofs.ApplyLaws.{overlap-parts, applied-told}
use Rattle.worlds.proofs.ClashLaws.{noted_added, blocks-told, clashes_told}

kept_low : (P : Plan) (a : paper.Active) (c : ℕ) → on (kept_cuts P a) c ≡ true → c < cut_count P
unfolding kept_cuts
kept_low P a c h = (flag-set (cut_count P) (kept_cut P a) c h).0

-- the marks of the cuts that overlap
module _ (P : Plan) (I : Influence) (k : Common) (t : List (List ℕ)) (S : Stands P I k t) (a : paper.Active) (cl : ℕ)
    (told : (c : ℕ) → has cl c ≡ on (overlapping_cuts P (kept_cuts P a)) c) where
  abbrev over : List Bool
  over = overlapping_cuts P (kept_cuts P a)

  abbrev part : ℕ → ℕ
  part c = only (on over c) (cut P c).members

  low : (c : ℕ) → has cl c ≡ true → c < cut_count P
  low c h = (overlap-parts P (kept_cuts P a) c (sym (told c) ∙ h)).0

  cl_low : cl < 2 ^ 64
  cl_low = few-low (cut_count P) cl (cuts-few P I k t S) low

  seed_is : union_of (row t 1) (members cl) ≡ overlap_seed P a
  unfolding overlap_seed
  seed_is = antisym (union_of (row t 1) (members cl)) (union_below (cut_count P) part) (record { at = there }) (record { at = back })
    where
      there : (q : ℕ) → has (union_of (row t 1) (members cl)) q ≡ true → has (union_below (cut_count P) part) q ≡ true
      there q e =
          let w = union-has (row t 1) cl q cl_low e in
          let c = w.0 in
          let l = low c w.1 in
          (in_below (cut_count P) part c l).at q
          ((in_only (on over c) (cut P c).members (sym (told c) ∙ w.1)).at q (sym (ap (λ (m : ℕ). has m q) (S.members c l)) ∙ w.2))

      back : (q : ℕ) → has (union_below (cut_count P) part) q ≡ true → has (union_of (row t 1) (members cl)) q ≡ true
      back q e =
          let w = union_find (cut_count P) part q e in
          let c = w.0 in
          let o = of_only (on over c) (cut P c).members q w.2 in
          has-union_of (row t 1) cl c q cl_low (told c ∙ o.0) (ap (λ (m : ℕ). has m q) (S.members c w.1) ∙ o.1)

  seed_on : Within (overlap_seed P a) k.roster
  unfolding overlap_seed
  seed_on = record {
    at = λ q e.
        let w = union_find (cut_count P) part q e in
        (cut_on P k.roster S.named w.0).at q (of_only (on over w.0) (cut P w.0).members q w.2).1;
  }

  seed_low : overlap_seed P a < 2 ^ 64
  seed_low =
      few-low 64 (overlap_seed P a) (omega arith)
      (λ q h. ⊎_elim (λ l. l) (λ l. clash (seed_on.at q h) (has_high 64 k.roster q S.roster l)) (lt_or_le q 64))

  overlap-told : union_of (row t 15) (members (union_of (row t 1) (members cl))) ≡ spread P I (overlap_seed P a)
  overlap-told =
      ap (λ (m : ℕ). union_of (row t 15) (members m)) seed_is
      ∙ union-members (row t 15) (λ p. spread P I (one p)) (overlap_seed P a) seed_low (λ p h. S.spreads p (seed_on.at p h))
      ∙ sym (spread-members P I (overlap_seed P a) seed_low)

pub cuts-made : (t : List (List ℕ)) (f : Active) (r : CutsDone) (b₀ b₁ c₀ c₁ : List ℕ) (left cl lo st out united : ℕ)
    → ((c : ℕ) → has left c ≡ (has f.cuts c && not (meets (row t 4 c) f.cuts)))
    → ((c : ℕ) → has cl c ≡ (has left c && meets (row t 5 c) left))
    → ((c : ℕ) → has lo c ≡ (has cl c && not (meets (row t 3 c) cl)))
    → st ≡ minus left cl
    → Noted lo (λ c. meet (row t 6 c) lo) c₀ c₁
    → Noted st (blockers t f.frozen f.decisions) b₀ b₁
    → out ≡ blocked_twins t f.frozen f.decisions (members st)
    → united ≡ union_of (row t 1) (members cl)
    → r.overlap ≡ union_of (row t 15) (members united)
    → r.applied ≡ minus st out
    → CutsSettled t f r b₀ b₁ c₀ c₁
unfolding world_of after_marks marks_of blocks overlaps least_of_merged
cuts-made t f r b₀ b₁ c₀ c₁ left cl lo st out united hk ho hl hs nc nb et eu eo ea = record {
  at = λ P I k a S T.
      let kept = kept_cuts P a in
      let low = kept_low P a in
      let kt = kept-told P I k t S a f T left hk in
      let ot = overlapping-told P I k t S kept left kt low cl ho in
      let st-told : (c : ℕ) → has st c ≡ standing kept (overlapping_cuts P kept) c =
      λ c. ap (λ (m : ℕ). has m c) hs ∙ has-minus left cl c ∙ ap₂ (λ (x y : Bool). x && not y) (kt c) (ot c) in
      record {
        overlap = eo ∙ ap (λ (m : ℕ). union_of (row t 15) (members m)) eu ∙ overlap-told P I k t S a cl ot;
        applied = applied-told P I k t S a f T kept low st st-told r.applied (ea ∙ ap (minus st) et);
        blocked = noted_added st (blockers t f.frozen f.decisions) _ b₀ b₁ nb (blocks-told P I k t S kept low a f T st st-told);
        clashed = noted_added lo (λ c. meet (row t 6 c) lo) _ c₀ c₁ nc (clashes_told P I k t S kept low cl ot lo hl);
      };
}
