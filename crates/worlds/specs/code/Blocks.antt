-- What the steps on the state do to it, tied to document 01's steps 2, 4, 6, 7, 8 and to the view of each roster person.
use Rattle.std.specs.Prelude.{◌≡◌, true, false, cond, List, ℕ, ◌<◌}
use Rattle.sets.specs.paper.Sets.{has, meet, minus, union, subset, union_of, members}
use Rattle.records.specs.paper.Plan.{Plan}
use Rattle.expressions.specs.paper.Rules.{edge_count}
use Rattle.expressions.specs.paper.Nodes.{on}
use Rattle.expressions.specs.paper.Variables.{Influence}
use Rattle.worlds.specs.paper.Active as paper
use Rattle.worlds.specs.paper.World as world
use Rattle.worlds.specs.paper.View.{View, view}
use Rattle.worlds.specs.code.Over.{entry, Marked}
use Rattle.worlds.specs.code.Tables.{Stands, TellsActive}
use Rattle.worlds.specs.code.Settled.{SettledAs}
use Rattle.worlds.specs.declared.tables.Common.{Common}
use Rattle.worlds.specs.declared.tables.Active.{Active}
use Rattle.worlds.specs.declared.tables.Settled.{Settled}
use Rattle.worlds.specs.declared.world.World.{World}

-- nobody has a block, a role or a mark
pub record Blanked (w : World) : Type 0 where
  pub blocks : (p : ℕ) → entry w.blocks p ≡ 0
  pub roles : (p : ℕ) → entry w.roles p ≡ 0
  pub kinds : (p : ℕ) → entry w.kinds p ≡ 0

-- the placed members of each of these cuts as blocks; the placed persons in none of them
pub record CutInto (table : List ℕ) (applied placed : ℕ) (before after : List ℕ) (rest : ℕ) : Type 0 where
  pub left : rest ≡ minus placed (union_of (λ c. meet (entry table c) placed) (members applied))
  pub others : (p : ℕ) → ((c : ℕ) → has applied c ≡ true → has (meet (entry table c) placed) p ≡ false) → entry after p ≡ entry before p
  pub held : (p c : ℕ) → has applied c ≡ true → has (meet (entry table c) placed) p ≡ true
      → ((d : ℕ) → has applied d ≡ true → has (meet (entry table d) placed) p ≡ true → meet (entry table d) placed ≡ meet (entry table c) placed)
      → entry after p ≡ meet (entry table c) placed

-- of these persons, those of the target have it, the others lose the movers
pub record Regrouped (persons target movers : ℕ) (before after : List ℕ) : Type 0 where
  pub at : (p : ℕ) → entry after p ≡ cond (has persons p) (cond (has target p) target (minus (entry before p) movers)) (entry before p)

-- the live persons in blocks that everybody in them reports
pub record Parted (live : ℕ) (blocks : List ℕ) : Type 0 where
  pub self : (p : ℕ) → has live p ≡ true → has (entry blocks p) p ≡ true
  pub owner : (p q : ℕ) → has (entry blocks p) q ≡ true → has live p ≡ true
  pub alive : (p q : ℕ) → has (entry blocks p) q ≡ true → has live q ≡ true
  pub agreed : (p q : ℕ) → has (entry blocks p) q ≡ true → entry blocks q ≡ entry blocks p

-- the movers are in no block but the given one with them
pub record MovedTo (block movers : ℕ) (before after : List ℕ) : Type 0 where
  pub at : (live anchor : ℕ) → Parted live before → block ≡ entry before anchor → subset movers live ≡ true
      → (p : ℕ) → entry after p ≡ cond (has (union block movers) p) (union block movers) (minus (entry before p) movers)

-- ---- the steps

pub record Frozen (discretion : ℕ) (w r : World) : Type 0 where
  pub blocks : r.blocks ≡ w.blocks
  pub roles : r.roles ≡ w.roles
  pub kinds : Marked discretion 4 w.kinds r.kinds

-- masks of a world for the steps that place persons
pub record Placing (P : Plan) (I : Influence) (k : Common) (a : paper.Active) (t : List (List ℕ)) (frozen applied placed : ℕ) : Type 0 where
  pub stands : Stands P I k t
  pub edges : (e : ℕ) → has frozen e ≡ on a.frozen e
  pub below : (e : ℕ) → on a.frozen e ≡ true → e < edge_count P
  pub cuts : (c : ℕ) → has applied c ≡ on (world.world_of P k.roster I a).applied c
  pub unmarked : placed ≡ minus k.roster (world.marked (world.world_of P k.roster I a).marks)

-- the state that step 6 makes, and step 7 starts from
unfoldable pub start_of : Plan → ℕ → Influence → paper.Active → world.State
start_of P roster I a =
    world.first_state P roster (world.marked (world.world_of P roster I a).marks) a (world.world_of P roster I a).applied

pub record Cut (t : List (List ℕ)) (frozen overlap applied placed : ℕ) (w r : World) : Type 0 where
  pub kinds : Marked overlap 3 w.kinds r.kinds
  pub roles : Marked placed 1 w.roles r.roles
  pub blocks : (P : Plan) (I : Influence) (k : Common) (a : paper.Active) → Placing P I k a t frozen applied placed → ((p : ℕ) → entry w.blocks p ≡ 0)
      → (p : ℕ) → entry r.blocks p ≡ world.block_of (start_of P k.roster I a) p

pub record Attached (t : List (List ℕ)) (moved placed : ℕ) (w r : World) : Type 0 where
  pub roles : r.roles ≡ w.roles
  pub kinds : r.kinds ≡ w.kinds
  pub blocks : (P : Plan) (I : Influence) (k : Common) (a : paper.Active) → Stands P I k t → moved ≡ (world.world_of P k.roster I a).state.moved
      → ((i : ℕ) → on a.attachments i ≡ true → i < Rattle.expressions.specs.paper.Rules.attachment_count P)
      → placed ≡ minus k.roster (world.marked (world.world_of P k.roster I a).marks)
      → ((p : ℕ) → entry w.blocks p ≡ world.block_of (start_of P k.roster I a) p)
      → (p : ℕ) → entry r.blocks p ≡ world.block_of (world.world_of P k.roster I a).state p

-- ---- the view of every roster person

pub record SeenAt (v : View) (block role kind : ℕ) : Type 0 where
  pub in_block : block ≡ v.block
  pub in_role : role ≡ v.role
  pub of_kind : kind ≡ v.kind

pub record SeenBy (t : List (List ℕ)) (k : Common) (f : Active) (s : Settled) (r : World) : Type 0 where
  pub blocks : (P : Plan) (I : Influence) (a : paper.Active) → Stands P I k t → TellsActive P a f → SettledAs P (world.world_of P k.roster I a) s
      → (p : ℕ) → entry r.blocks p ≡ world.block_of (world.world_of P k.roster I a).state p
  pub at : (P : Plan) (I : Influence) (a : paper.Active) → Stands P I k t → TellsActive P a f → SettledAs P (world.world_of P k.roster I a) s
      → (p : ℕ) → has k.roster p ≡ true
      → SeenAt (view P (world.world_of P k.roster I a) p) (entry r.blocks p) (entry r.roles p) (entry r.kinds p)
