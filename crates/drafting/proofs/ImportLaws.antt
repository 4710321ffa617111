-- An import, by what was read of the table.
use mathlib.Core.Path.{◌≡◌, ap, sym, ◌∙◌}
use mathlib.Core.List.{List}
use Prim.Native.Nat.{ℕ}
use lib.ListN.{replicate}
use borrow.Author.Tests.{eq-eqb, ne_eqb}
use Rattle.records.specs.paper.Fields.{fine, refused}
use Rattle.records.specs.promises.Sound.{Sound}
use Rattle.records.specs.code.Decoded.{plan_of}
use Rattle.records.specs.code.PlanRead.{plan_read_of}
use Rattle.records.specs.declared.plan.reading.PlanRead.{PlanRead}
use Rattle.spreadsheet.specs.paper.Table.{tabled}
use Rattle.encoding.specs.paper.Encoded.{plan_bytes}
use Rattle.encoding.specs.paper.Placed.{Kept, kept, placed}
use Rattle.drafting.specs.paper.Importing.{imported}
use Rattle.drafting.proofs.TabledSound.{tabled-sound}

module _ (s : List ℕ) (r : PlanRead) (e : plan_read_of r ≡ tabled s) where
  drafted-read : r.number ≡ 0 → tabled s ≡ fine (plan_of r.plan)
  unfolding plan_read_of
  drafted-read z = sym e ∙ rw (eq-eqb r.number 0 z)

  pub read-sound : r.number ≡ 0 → Sound (plan_of r.plan)
  read-sound z = tabled-sound s (plan_of r.plan) (drafted-read z)

  pub drafted-placed : r.number ≡ 0 → (room : ℕ) → kept room 17 (plan_bytes (plan_of r.plan)) ≡ imported s room
  unfolding imported placed
  drafted-placed z room = ap (placed room 17) (sym (drafted-read z))

  pub undrafted : (r.number ≡ 0 → ⊥) → (room : ℕ) (out : List ℕ) → out ≡ replicate room 0
      → ◌≡◌ {A = Kept} (record { answer = refused r.number r.«record»; bytes = out }) (imported s room)
  unfolding imported placed plan_read_of
  undrafted z room out h =
      let f : tabled s ≡ refused r.number r.«record» = sym e ∙ rw (ne_eqb r.number 0 z) in
      rw (h, f)
