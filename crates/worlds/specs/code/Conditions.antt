-- The code's tables of conditions, and the activity of rules as masks.
use Rattle.std.specs.Prelude.{◌≡◌, Bool, true, false, List, [], ℕ, ◌<◌, get_or, take}
use Rattle.sets.specs.paper.Sets.{has}
use Rattle.records.specs.paper.Plan.{Plan}
use Rattle.records.specs.promises.Sound.{Sound}
use Rattle.expressions.specs.paper.Rules.{edge_count, cut_count, attachment_count, bar_count, status_count, edge, cut, attachment, bar, status}
use Rattle.expressions.specs.paper.Nodes.{on}
use Rattle.expressions.specs.paper.Variables.{Values}
use Rattle.worlds.specs.paper.Active as paper
use Rattle.worlds.specs.code.Tables.{row, TellsActive}
use Rattle.worlds.specs.code.Valued.{Valued}
use Rattle.worlds.specs.declared.tables.Active.{Active}

-- the condition of each rule and the defeaters of each edge, rows as src/active.rt numbers them
pub record Conditioned (P : Plan) (conditions defeaters : List (List ℕ)) : Type 0 where
  pub edges : (i : ℕ) → i < edge_count P → row conditions 0 i ≡ (edge P i).condition
  pub cuts : (i : ℕ) → i < cut_count P → row conditions 1 i ≡ (cut P i).condition
  pub attachments : (i : ℕ) → i < attachment_count P → row conditions 2 i ≡ (attachment P i).condition
  pub bars : (i : ℕ) → i < bar_count P → row conditions 3 i ≡ (bar P i).condition
  pub statuses : (i : ℕ) → i < status_count P → row conditions 4 i ≡ (status P i).condition
  pub against : (i : ℕ) → i < edge_count P → take (row conditions 5 i) (get_or defeaters i []) ≡ (edge P i).defeaters

-- a mask of rules that is right for all that are not asked, and leaves those out that are
pub record Split (n : ℕ) (answers : ℕ → Bool) (known asked : ℕ) : Type 0 where
  pub rest : (i : ℕ) → has asked i ≡ false → has known i ≡ answers i
  pub out : (i : ℕ) → has asked i ≡ true → (has known i ≡ false) × (i < n)

pub record Known (P : Plan) (a : paper.Active) (known asked : Active) : Type 0 where
  pub edges : Split (edge_count P) (on a.frozen) known.frozen asked.frozen
  pub cuts : Split (cut_count P) (on a.cuts) known.cuts asked.cuts
  pub attachments : Split (attachment_count P) (on a.attachments) known.attachments asked.attachments
  pub bars : Split (bar_count P) (on a.bars) known.bars asked.bars
  pub statuses : Split (status_count P) (on a.statuses) known.statuses asked.statuses

-- in every world of a plan whose nodes have these values
pub record ActiveBy (conditions defeaters : List (List ℕ)) (known asked : Active) (decisions : ℕ) (vs : List Bool) (r : Active) : Type 0 where
  pub at : (P : Plan) (v : Values) → Sound P → Conditioned P conditions defeaters → Valued P v.facts vs → v.decisions ≡ decisions
      → Known P (paper.active P v) known asked → TellsActive P (paper.active P v) r
