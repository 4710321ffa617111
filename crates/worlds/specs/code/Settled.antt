-- What the code settles of a world by sets, tied to document 01's steps 2 to 8.
use Rattle.std.specs.Prelude.{◌≡◌, Bool, true, ◌||◌, List, ℕ, ◌<◌}
use Rattle.sets.specs.paper.Sets.{has}
use Rattle.records.specs.paper.Plan.{Plan}
use Rattle.expressions.specs.paper.Nodes.{on}
use Rattle.expressions.specs.paper.Variables.{Influence}
use Rattle.worlds.specs.paper.Active as paper
use Rattle.worlds.specs.paper.World.{World, world_of, base_sets, loose_component, bar_holds}
use Rattle.worlds.specs.paper.Events.{blocks, overlaps}
use Rattle.worlds.specs.code.Over.{entry}
use Rattle.worlds.specs.code.Tables.{Stands, TellsActive}
use Rattle.worlds.specs.code.Discretion.{Renewed}
use Rattle.worlds.specs.declared.tables.Common.{Common}
use Rattle.worlds.specs.declared.tables.Active.{Active}
use Rattle.worlds.specs.declared.tables.Settled.{Settled}
use Rattle.worlds.specs.declared.cuts.CutsDone.{CutsDone}

-- a table of sets that took in the pairs for which a test holds
pub record Added (test : ℕ → ℕ → Bool) (before after : List ℕ) : Type 0 where
  pub at : (c d : ℕ) → has (entry after c) d ≡ (has (entry before c) d || test c d)

-- steps 3 to 5
pub record CutsAre (P : Plan) (w : World) (r : CutsDone) (blockings₀ blockings₁ clashes₀ clashes₁ : List ℕ) : Type 0 where
  pub overlap : r.overlap ≡ w.marks.overlap
  pub applied : (c : ℕ) → has r.applied c ≡ on w.applied c
  pub blocked : Added (blocks P w) blockings₀ blockings₁
  pub clashed : Added (overlaps P w) clashes₀ clashes₁

-- for every plan, influence and valuation that tables and masks stand for
pub record CutsSettled (t : List (List ℕ)) (f : Active) (r : CutsDone) (blockings₀ blockings₁ clashes₀ clashes₁ : List ℕ) : Type 0 where
  pub at : (P : Plan) (I : Influence) (k : Common) (a : paper.Active) → Stands P I k t → TellsActive P a f
      → CutsAre P (world_of P k.roster I a) r blockings₀ blockings₁ clashes₀ clashes₁

-- the components at discretion, each at one of its persons
pub record PartsAre (P : Plan) (roster : ℕ) (a : paper.Active) (heads : ℕ) (parts : List ℕ) : Type 0 where
  pub sound : (h : ℕ) → has heads h ≡ true
      → (entry parts h ≡ 0 → ⊥) × ((p : ℕ) × (p < 64) × (loose_component P roster (base_sets P a) p ≡ entry parts h))
  pub complete : (p : ℕ) → p < 64 → (loose_component P roster (base_sets P a) p ≡ 0 → ⊥)
      → (h : ℕ) × (has heads h ≡ true) × (entry parts h ≡ loose_component P roster (base_sets P a) p)

-- what is settled of a world
pub record SettledAs (P : Plan) (w : World) (s : Settled) : Type 0 where
  pub discretion : s.discretion ≡ w.marks.discretion
  pub overlap : s.overlap ≡ w.marks.overlap
  pub applied : (c : ℕ) → has s.applied c ≡ on w.applied c
  pub moved : s.moved ≡ w.state.moved
  pub attached : s.attached ≡ w.state.attached
  pub barring : (i : ℕ) → has s.barring i ≡ bar_holds P w.active w.state.attached i
  pub barred : s.barred ≡ w.barred
  pub excluded : s.excluded ≡ w.excluded

-- the whole of it, with the tables of events that it adds to
pub record Settles (t : List (List ℕ)) (k : Common) (f : Active) (s : Settled) (parts₀ parts₁ blockings₀ blockings₁ clashes₀ clashes₁ : List ℕ) : Type 0 where
  pub at : (P : Plan) (I : Influence) (a : paper.Active) → Stands P I k t → TellsActive P a f → SettledAs P (world_of P k.roster I a) s
  pub components : (P : Plan) (I : Influence) (a : paper.Active) → Stands P I k t → TellsActive P a f → PartsAre P k.roster a s.heads parts₁
  pub renewed : Renewed s.heads s.fresh parts₀ parts₁
  pub blocked : (P : Plan) (I : Influence) (a : paper.Active) → Stands P I k t → TellsActive P a f → Added (blocks P (world_of P k.roster I a)) blockings₀ blockings₁
  pub clashed : (P : Plan) (I : Influence) (a : paper.Active) → Stands P I k t → TellsActive P a f → Added (overlaps P (world_of P k.roster I a)) clashes₀ clashes₁
