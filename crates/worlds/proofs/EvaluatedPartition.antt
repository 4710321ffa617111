-- Document 01, "Proved: each roster person is marked, or is in just one block whose members all report it", of the state that `evaluate_world` returns.
use mathlib.Core.Path.{◌≡◌, sym, ap, ◌∙◌}
use mathlib.Core.Bool.{Bool, true, false, cond}
use mathlib.Core.Logic.{◌⊎◌, inl, inr, ⊎_elim}
use mathlib.Core.List.{List}
use Prim.Native.Nat.{ℕ}
use native.Mathlib.Omega.{arith}
use Rattle.sets.specs.paper.Sets.{has}
use Rattle.records.specs.paper.Plan.{Plan}
use Rattle.expressions.specs.paper.Variables.{Influence}
use Rattle.worlds.specs.paper.Active as paper
use Rattle.worlds.specs.paper.World.{marked, block_of, world_of}
use Rattle.worlds.specs.paper.View.{View}
use Rattle.worlds.specs.code.Over.{entry}
use Rattle.worlds.specs.code.Tables.{Stands, TellsActive}
use Rattle.worlds.specs.code.Settled.{SettledAs}
use Rattle.worlds.specs.code.Blocks.{SeenBy}
use Rattle.worlds.specs.declared.tables.Common.{Common}
use Rattle.worlds.specs.declared.tables.Active.{Active}
use Rattle.worlds.specs.declared.tables.Settled.{Settled}
use Rattle.worlds.specs.declared.world.World.{World}
use Rattle.worlds.proofs.PlaceLaws.{view_by}
use Rattle.worlds.proofs.Partition.{InNoBlock, InOneBlock, partition}

-- the person has a mark, no block, and is in nobody's
pub record IsMarked (r : World) (p : ℕ) : Type 0 where
  pub mark : entry r.kinds p ≡ 0 → ⊥
  pub none : entry r.blocks p ≡ 0
  pub nowhere : (q : ℕ) → has (entry r.blocks q) p ≡ false

-- the person has no mark and is in the block that the state gives
pub record IsPlaced (roster : ℕ) (r : World) (p : ℕ) : Type 0 where
  pub unmarked : entry r.kinds p ≡ 0
  pub holds : has (entry r.blocks p) p ≡ true
  -- its members are on the roster and not marked, and all report it
  pub members : (q : ℕ) → has (entry r.blocks p) q ≡ true → (has roster q ≡ true) × (entry r.kinds q ≡ 0) × (entry r.blocks q ≡ entry r.blocks p)
  -- and there is no other: any block that holds the person is this one
  pub only : (q : ℕ) → has (entry r.blocks q) p ≡ true → entry r.blocks q ≡ entry r.blocks p

three_or_four : (b : Bool) → cond {A = ℕ} b 3 4 ≡ 0 → ⊥
three_or_four true e = omega arith
three_or_four false e = omega arith

-- DOCUMENT 01, "PROVED", OF THE CODE'S STATE
pub evaluated_partition : (t : List (List ℕ)) (k : Common) (f : Active) (s : Settled) (r : World) → SeenBy t k f s r → (P : Plan) (I : Influence) (a : paper.Active)
    → Stands P I k t → TellsActive P a f → SettledAs P (world_of P k.roster I a) s → (p : ℕ) → has k.roster p ≡ true → IsMarked r p ⊎ IsPlaced k.roster r p
evaluated_partition t k f s r seen P I a S T D p here = ⊎_elim (λ x. inl (out x.0 x.1)) (λ x. inr (placed x)) (partition P k.roster S.roster S.named I a p here)
  where
    is : (q : ℕ) → entry r.blocks q ≡ block_of (world_of P k.roster I a).state q
    is = seen.blocks P I a S T D

    holds_is : (q u : ℕ) → has (entry r.blocks q) u ≡ has (block_of (world_of P k.roster I a).state q) u
    holds_is q u = ap (λ (m : ℕ). has m u) (is q)

    -- no kind without a mark, and a kind with one
    kind-none : (q : ℕ) → has k.roster q ≡ true → has (marked (world_of P k.roster I a).marks) q ≡ false → entry r.kinds q ≡ 0
    kind-none q h e = (seen.at P I a S T D q h).of_kind ∙ ap (λ (v : View). v.kind) (view_by P (world_of P k.roster I a) q false e)

    kind-some : has (marked (world_of P k.roster I a).marks) p ≡ true → entry r.kinds p ≡ 0 → ⊥
    kind-some e z =
        three_or_four (has (world_of P k.roster I a).marks.overlap p)
        (sym (ap (λ (v : View). v.kind) (view_by P (world_of P k.roster I a) p true e)) ∙ sym (seen.at P I a S T D p here).of_kind ∙ z)

    out : has (marked (world_of P k.roster I a).marks) p ≡ true → InNoBlock (world_of P k.roster I a).state p → IsMarked r p
    out e N = record { mark = kind-some e; none = is p ∙ N.none; nowhere = λ q. holds_is q p ∙ N.nowhere q }

    placed : InOneBlock k.roster (marked (world_of P k.roster I a).marks) (world_of P k.roster I a).state p → IsPlaced k.roster r p
    placed B = record {
      unmarked = kind-none p here (B.members p B.holds).1;
      holds = holds_is p p ∙ B.holds;
      members = λ q h.
          let m = B.members q (sym (holds_is p q) ∙ h) in
          (m.0, kind-none q m.0 m.1, is q ∙ m.2 ∙ sym (is p));
      only = λ q h. is q ∙ B.only q (sym (holds_is q p) ∙ h) ∙ sym (is p);
    }
