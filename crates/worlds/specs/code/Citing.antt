-- Citations as the code gathers them: at the lowest person of each block, then handed out.
use Rattle.std.specs.Prelude.{◌≡◌, true, false, ◌&&◌, not, cond, List, ℕ, ◌<◌, ◌^◌, get_or, eqb}
use Rattle.sets.specs.paper.Sets.{has, union, minus, only, lowest, union_of, members}
use Rattle.records.specs.paper.Plan.{Plan}
use Rattle.expressions.specs.paper.Rules.{edge_count}
use Rattle.expressions.specs.paper.Nodes.{on}
use Rattle.expressions.specs.paper.Variables.{Influence}
use Rattle.worlds.specs.paper.Active as paper
use Rattle.worlds.specs.paper.World.{world_of, marked, block_of}
use Rattle.worlds.specs.paper.View.{view}
use Rattle.worlds.specs.code.Over.{entry}
use Rattle.worlds.specs.code.Tables.{row, Stands}
use Rattle.worlds.specs.code.Settled.{SettledAs}
use Rattle.worlds.specs.code.Blocks.{Parted}
use Rattle.worlds.specs.declared.tables.Common.{Common}
use Rattle.worlds.specs.declared.tables.Settled.{Settled}

-- what a block cites is added at its lowest person
pub record CitesIn (blocks : List ℕ) (cites : ℕ → ℕ) (before after : List ℕ) : Type 0 where
  pub at : (live : ℕ) → live < 2 ^ 64 → Parted live blocks → (p : ℕ) → has live p ≡ true
      → entry after (lowest (entry blocks p)) ≡ union (entry before (lowest (entry blocks p))) (cites (entry blocks p))

-- the other person of a pair; the same where it is one person
unfoldable pub far : ℕ → ℕ
far s = get_or (members s) 1 (lowest s)

-- what the far end of a frozen edge gives to the block of the near one
unfoldable pub through : List ℕ → ℕ → (ℕ → ℕ) → ℕ → ℕ
through pairs frozen own b =
    union_of (λ e. union (only (has b (lowest (entry pairs e))) (own (far (entry pairs e)))) (only (has b (far (entry pairs e))) (own (lowest (entry pairs e)))))
    (members frozen)

-- the citations of the applied cuts that hold a person
unfoldable pub own_of : List (List ℕ) → ℕ → ℕ → ℕ
own_of t applied p = union_of (λ c. only (has (row t 1 c) p) (row t 17 c)) (members applied)

-- each of these persons who has a block gets what it cites, and the person's own
pub record CitedFor (blocks cited own : List ℕ) (persons : ℕ) (before after : List ℕ) : Type 0 where
  pub at : (p : ℕ) → entry after p
      ≡ cond (has persons p && not (eqb (entry blocks p) 0)) (union (union (entry before p) (entry cited (lowest (entry blocks p)))) (entry own p)) (entry before p)

-- the citations of the view are added for each of these persons who has a block
pub record Cites (t : List (List ℕ)) (k : Common) (frozen : ℕ) (s : Settled) (blocks : List ℕ) (persons : ℕ) (before after : List ℕ) : Type 0 where
  pub at : (P : Plan) (I : Influence) (a : paper.Active) → Stands P I k t
      → ((e : ℕ) → has frozen e ≡ on a.frozen e) → ((e : ℕ) → on a.frozen e ≡ true → e < edge_count P)
      → SettledAs P (world_of P k.roster I a) s → ((p : ℕ) → entry blocks p ≡ block_of (world_of P k.roster I a).state p)
      → (p : ℕ) → has persons p ≡ true → has (minus k.roster (marked (world_of P k.roster I a).marks)) p ≡ true
      → entry after p ≡ union (entry before p) (view P (world_of P k.roster I a) p).citations
  pub others : (p : ℕ) → has persons p ≡ false → entry after p ≡ entry before p
