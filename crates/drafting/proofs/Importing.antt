-- What an import promises. Document 02, Ticket 2.
use mathlib.Core.Path.{◌≡◌, ap, sym, ◌∙◌}
use mathlib.Core.List.{List, [], ◌++◌}
use mathlib.Core.Logic.{◌⊎◌, inl, inr, ⊎_elim}
use Prim.Native.Nat.{ℕ, ◌-◌, ◌≤◌, ◌<◌}
use lib.ListN.{length, take, drop, replicate}
use native.Mathlib.Omega.{arith}
use lib.Seq.{take-append_seam, drop-append_seam}
use Rattle.records.specs.paper.Fields.{fine, refused}
use Rattle.records.specs.paper.Plan.{Plan, checked_plan}
use Rattle.spreadsheet.specs.paper.Table.{drafted, tabled}
use Rattle.encoding.specs.paper.Encoded.{plan_bytes}
use Rattle.encoding.specs.paper.Placed.{placed, turned_away}
use Rattle.drafting.specs.paper.Importing.{imported}
use Rattle.drafting.specs.promises.RowByRow.{RowRule, Headed, edges_in, statuses_in, FirstFault}
use Rattle.encoding.proofs.ReadBack.{read_back}
use Rattle.drafting.proofs.TabledSound.{tabled-sound}
use Rattle.drafting.proofs.TabledRows.{tabled-rows, tabled-first}
use Rattle.drafting.proofs.DraftedLength.{headed_bare, drafted-short}
use Rattle.encoding.proofs.PlacedLaws.{kept-not, PlanStands, placed-stands, placed-refused, refused-zero}
use Rattle.encoding.specs.promises.TooLong.{TooLong}

module _ (table : List ℕ) (room : ℕ) where
  stands : (n : ℕ) → (imported table room).answer ≡ fine n → PlanStands room 17 (tabled table) n
  unfolding imported
  stands n e = placed-stands room 17 (tabled table) n e

  whole : (n : ℕ) (e : (imported table room).answer ≡ fine n) → (imported table room).bytes ≡ plan_bytes (stands n e).plan ++ replicate (room - n) 0
  unfolding imported
  whole n e = (stands n e).bytes

  front : (n : ℕ) (e : (imported table room).answer ≡ fine n) → take n (imported table room).bytes ≡ plan_bytes (stands n e).plan
  front n e = let k = stands n e in ap (take n) (whole n e) ∙ ap (λ (m : ℕ). take m (plan_bytes k.plan ++ replicate (room - n) 0)) k.long ∙ take-append_seam (plan_bytes k.plan) (replicate (room - n) 0)

  -- "Every accepted table gives a plan that the check passes": what an accepted table gives are the bytes of the plan that its rows say, with a rule for
  -- each of them and nothing else, no empty list among them; and the check makes that plan of them
  pub imported-plan : (n : ℕ) → (imported table room).answer ≡ fine n
      → (rs : List RowRule) × Headed table rs [] × (take n (imported table room).bytes ≡ plan_bytes (drafted (edges_in rs) (statuses_in rs)))
      × (checked_plan (take n (imported table room).bytes) ≡ fine (drafted (edges_in rs) (statuses_in rs)))
  imported-plan n e =
      let k = stands n e in
      let (rs, headed, is, _, _) = tabled-rows table k.plan k.is in
      (rs, headed, front n e ∙ ap plan_bytes is, ap checked_plan (front n e) ∙ read_back k.plan (tabled-sound table k.plan k.is) ∙ ap fine is)

  -- "The plan's length comes back and bytes past it are zero"
  pub imported-length : (n : ℕ) → (imported table room).answer ≡ fine n → (n ≤ room) × (length (take n (imported table room).bytes) ≡ n) × (drop n (imported table room).bytes ≡ replicate (room - n) 0)
  imported-length n e =
      let k = stands n e in (
        k.fits,
        ap length (front n e) ∙ sym k.long,
        ap (drop n) (whole n e) ∙ ap (λ (m : ℕ). drop m (plan_bytes k.plan ++ replicate (room - n) 0)) k.long ∙ drop-append_seam (plan_bytes k.plan) (replicate (room - n) 0),
      )

  -- 64 edges and 32 statuses at most
  short : (P : Plan) → tabled table ≡ fine P → length (plan_bytes P) ≤ 550
  short P e =
      let (rs, headed, is, few, fewer) = tabled-rows table P e in
      rw is (drafted-short (edges_in rs) (statuses_in rs) (headed_bare table rs [] headed) few fewer)

  pub imported-short : (n : ℕ) → (imported table room).answer ≡ fine n → n ≤ 550
  imported-short n e =
      let k = stands n e in
      let l = short k.plan k.is in
      let m = k.long in
      omega arith

  -- "Turned away: 16, the first row that breaks …, with its row; 17, the plan does not fit the lent buffer": in no other situation, and all is zero
  pub imported-refused : (k r : ℕ) → (imported table room).answer ≡ refused k r
      → (((k ≡ 16) × FirstFault table r) ⊎ ((k ≡ 17) × (r ≡ 0) × TooLong room (tabled table))) × ((imported table room).bytes ≡ replicate room 0)
  unfolding imported
  imported-refused k r e = (
    ⊎_elim (λ (f : tabled table ≡ refused k r). inl (tabled-first table k r f)) (λ (z : (k ≡ 17) × (r ≡ 0) × TooLong room (tabled table)). inr z) (placed-refused room 17 (tabled table) k r e),
    refused-zero room 17 (tabled table) k r e,
  )

  -- so 17 never comes of a buffer of 550 bytes
  pub imported-room : 550 ≤ room → (k r : ℕ) → (imported table room).answer ≡ refused k r → k ≡ 16
  imported-room l k r e = pick (imported-refused k r e).0
    where
      pick : ((k ≡ 16) × FirstFault table r) ⊎ ((k ≡ 17) × (r ≡ 0) × TooLong room (tabled table)) → k ≡ 16
      pick (inl (z, _)) = z
      pick (inr (_, _, long)) = absurd (let m = short long.plan long.is in let n = long.long in omega arith)

  -- "17, the plan does not fit the lent buffer": wherever it does not
  pub imported-long : (P : Plan) → tabled table ≡ fine P → room < length (plan_bytes P) → imported table room ≡ turned_away room 17 0
  unfolding imported placed
  imported-long P e l = ap (placed room 17) e ∙ kept-not room 17 (plan_bytes P) l

  -- "16 is checked first": whatever the room
  pub sixteen-first : (r : ℕ) → tabled table ≡ refused 16 r → imported table room ≡ turned_away room 16 r
  unfolding imported placed
  sixteen-first r e = ap (placed room 17) e
