-- What the code's structs stand for.
use Rattle.std.specs.Prelude.{◌≡◌, false, List, ◌++◌, map, ℕ, ◌-◌, ◌≤◌, length, take, replicate}
use Rattle.report.specs.paper.Line as paper
use Rattle.billing.specs.paper.Pools.{UnitPool}
use Rattle.billing.specs.declared.fields.Fields.{Fields}
use Rattle.billing.specs.declared.units.Units.{Units}
use Rattle.billing.specs.declared.pools.Pools.{Pools}

pub record Shows (l : paper.Line) (r : Fields) : Type 0 where
  pub person : r.person ≡ l.person
  pub kind : r.kind ≡ l.kind
  pub role : r.role ≡ l.role
  pub block : r.block ≡ l.block

-- a line with the block that it is given
abbrev pub with_block : (paper.Line → ℕ) → paper.Line → paper.Line
with_block block l = record l { block = block l }

pub record IsUnits (us : List ℕ) (r : Units) : Type 0 where
  pub blocks : take r.count r.blocks ≡ us
  pub few : r.count ≤ 64
  pub long : length r.blocks ≡ 64

-- 64 places: the entries, then zeros, or whatever stands for none
abbrev pub padded : {A : Type 0} → A → List A → List A
padded none xs = xs ++ replicate (64 - length xs) none

-- the units and the unplaced sum, "zero past the count"
unfoldable pub laid : List UnitPool → ℕ → Pools
laid us left = record {
  count = length us;
  blocks = padded 0 (map (λ u. u.block) us);
  cents = padded 0 (map (λ u. u.cents) us);
  marks = padded false (map (λ u. u.marked) us);
  unplaced = left;
}
