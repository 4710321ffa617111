-- What is made once for a case and lent to its worlds, and what of one world stands in masks.
use Rattle.std.specs.Prelude.{◌≡◌, Bool, true, ◌&&◌, not, List, [], ℕ, ◌<◌, ◌^◌, get_or, eqb, ltb}
use Rattle.sets.specs.paper.Sets.{has, one, meets, subset, rising_less}
use Rattle.records.specs.paper.Plan.{Plan, one_end}
use Rattle.records.specs.promises.Sound.{Sound}
use Rattle.expressions.specs.paper.Rules.{edge_count, cut_count, attachment_count, bar_count, status_count, edge, cut, attachment, bar, status, pair, chained, rule_persons}
use Rattle.expressions.specs.paper.Nodes.{on}
use Rattle.expressions.specs.paper.Influence.{says, decision_count, open_decision}
use Rattle.expressions.specs.paper.Variables.{Influence}
use Rattle.worlds.specs.paper.Active as paper
use Rattle.worlds.specs.paper.World.{spread, precedes, same_members}
use Rattle.worlds.specs.declared.tables.Common.{Common}
use Rattle.worlds.specs.declared.tables.Active.{Active}

-- the entry i of the row k
abbrev pub row : List (List ℕ) → ℕ → ℕ → ℕ
row t k i = get_or (get_or t k []) i 0

module _ (P : Plan) where
  -- two cuts that share a person
  abbrev pub sharing : ℕ → ℕ → Bool
  sharing c d = meets (cut P c).members (cut P d).members

-- the plan is accepted and its rules name persons of the roster; the tables hold what the plan says, rows as src/tables.rt numbers them
pub record Stands (P : Plan) (I : Influence) (k : Common) (t : List (List ℕ)) : Type 0 where
  pub sound : Sound P
  pub roster : k.roster < 2 ^ 64
  pub named : subset (rule_persons P) k.roster ≡ true
  pub base : (e : ℕ) → has k.base e ≡ (ltb e (edge_count P) && (not (edge P e).combination && not (chained P)))
  pub attachments : (i : ℕ) → has k.attachments i ≡ ltb i (attachment_count P)
  pub bars : (i : ℕ) → has k.bars i ≡ ltb i (bar_count P)
  pub statuses : (i : ℕ) → has k.statuses i ≡ ltb i (status_count P)
  pub pairs : (e : ℕ) → e < edge_count P → row t 0 e ≡ pair P e
  pub members : (c : ℕ) → c < cut_count P → row t 1 c ≡ (cut P c).members
  pub twins : (c d : ℕ) → c < cut_count P → has (row t 2 c) d ≡ (ltb d (cut_count P) && same_members P c d)
  pub lower : (c d : ℕ) → c < cut_count P → has (row t 3 c) d ≡ (ltb d c && same_members P c d)
  pub droppers : (c d : ℕ) → c < cut_count P → has (row t 4 c) d ≡ (ltb d (cut_count P) && (sharing P c d && (precedes P d c && not (precedes P c d))))
  pub clashing : (c d : ℕ) → c < cut_count P → has (row t 5 c) d ≡ (ltb d (cut_count P) && (sharing P c d && not (same_members P c d)))
  pub later : (c d : ℕ) → c < cut_count P → has (row t 6 c) d ≡ (ltb d (cut_count P) && (sharing P c d && rising_less (cut P c).members (cut P d).members))
  pub crossing : (c e : ℕ) → c < cut_count P → has (row t 7 c) e ≡ (ltb e (edge_count P) && ((edge P e).combination && one_end (cut P c) (edge P e)))
  pub said : (c e : ℕ) → c < cut_count P → has (row t 8 c) e ≡ says P c e 1
  pub opens : (c d : ℕ) → c < cut_count P → has (row t 9 c) d ≡ (ltb d (decision_count P) && eqb (open_decision P d).cut c)
  pub open_edges : (d : ℕ) → d < decision_count P → row t 10 d ≡ one (open_decision P d).edge
  pub movers : (i : ℕ) → i < attachment_count P → row t 11 i ≡ (attachment P i).members
  pub anchors : (i : ℕ) → i < attachment_count P → row t 12 i ≡ one (attachment P i).anchor
  pub barred : (i : ℕ) → i < bar_count P → row t 13 i ≡ (bar P i).members
  pub persons : (i : ℕ) → i < status_count P → row t 14 i ≡ one (status P i).person
  pub spreads : (p : ℕ) → has k.roster p ≡ true → row t 15 p ≡ spread P I (one p)
  pub edge_cites : (e : ℕ) → e < edge_count P → row t 16 e ≡ one (edge P e).citation
  pub cut_cites : (c : ℕ) → c < cut_count P → row t 17 c ≡ one (cut P c).citation
  pub attachment_cites : (i : ℕ) → i < attachment_count P → row t 18 i ≡ one (attachment P i).citation
  pub bar_cites : (i : ℕ) → i < bar_count P → row t 19 i ≡ one (bar P i).citation
  pub status_cites : (i : ℕ) → i < status_count P → row t 20 i ≡ one (status P i).citation

-- masks that say what the lists say; no rule past its count is active
pub record TellsActive (P : Plan) (a : paper.Active) (f : Active) : Type 0 where
  pub frozen : (e : ℕ) → has f.frozen e ≡ on a.frozen e
  pub cuts : (c : ℕ) → has f.cuts c ≡ on a.cuts c
  pub attachments : (i : ℕ) → has f.attachments i ≡ on a.attachments i
  pub bars : (i : ℕ) → has f.bars i ≡ on a.bars i
  pub statuses : (i : ℕ) → has f.statuses i ≡ on a.statuses i
  pub decisions : f.decisions ≡ a.decisions
  pub edges_below : (e : ℕ) → on a.frozen e ≡ true → e < edge_count P
  pub cuts_below : (c : ℕ) → on a.cuts c ≡ true → c < cut_count P
  pub attachments_below : (i : ℕ) → on a.attachments i ≡ true → i < attachment_count P
  pub bars_below : (i : ℕ) → on a.bars i ≡ true → i < bar_count P
  pub statuses_below : (i : ℕ) → on a.statuses i ≡ true → i < status_count P
