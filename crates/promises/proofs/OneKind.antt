-- One line of kind 5 or 6 makes all lines of that kind: whether the roster is complete, and whether a world is admissible, is asked once for all.
use mathlib.Core.Path.{◌≡◌, refl, sym, ap, ◌∙◌, subst}
use mathlib.Core.Bool.{Bool, true, false, cond}
use mathlib.Core.List.{List, [], ◌∷◌, map}
use mathlib.Core.Logic.{◌⊎◌, ⊎_elim}
use Prim.Native.Nat.{ℕ, ◌≤◌, ◌<◌}
use native.Mathlib.Omega.{arith}
use lib.ListN.{length, get_or}
use lib.Dec.{eqb}
use Rattle.sets.specs.paper.Sets.{members}
use Rattle.records.specs.paper.Plan.{Plan}
use Rattle.records.specs.paper.Case.{Case, case_heading}
use Rattle.expressions.specs.paper.Bindings.{bindings, frame_of}
use Rattle.expressions.specs.paper.Variables.{Influence, worlds, influence}
use Rattle.worlds.specs.paper.Active.{active}
use Rattle.worlds.specs.paper.World.{World, world_of}
use Rattle.worlds.specs.paper.View.{view}
use Rattle.report.specs.paper.Line.{line_bytes, bare_line, line_over}
use Rattle.report.specs.paper.LineAt.{decoded}
use Rattle.report.specs.paper.Operations.{told, answer}
use Rattle.report.proofs.OpenedLaws.{answered_read}
use Rattle.report.proofs.Answered.{line_of, line_for}
use Rattle.promises.specs.Partitioned.{kind_at}
use Rattle.promises.proofs.LineRanges.{views_range, some_range}
use Rattle.promises.proofs.Privacy.{line-bytes}
use Rattle.promises.proofs.Blocks.{answered_partition}

-- of an incomplete roster, or without an admissible world
abbrev pub Bare : ℕ → Type 0
Bare kind = (kind ≡ 5) ⊎ (kind ≡ 6)

low-kind : (kind : ℕ) → kind ≤ 4 → Bare kind → ⊥
low-kind kind l b = ⊎_elim (λ e. omega arith) (λ e. omega arith) b

-- ---- the lines of two persons

over_together : (I : Influence) (P : Plan) (ws : List World) (p q : ℕ) → Bare (line_over I p (map (λ w. view P w p) ws)).kind
    → (line_over I q (map (λ w. view P w q) ws)).kind ≡ (line_over I p (map (λ w. view P w p) ws)).kind
unfolding line_over
over_together I P [] p q b = refl
over_together I P (w ∷ ws) p q b = absurd (low-kind _ (some_range I p (view P w p) (map (λ w. view P w p) ws) (views_range P (w ∷ ws) p)).0 b)

line_together : (P : Plan) (C : Case) (p q : ℕ) → Bare (line_for P C p).kind → (line_for P C q).kind ≡ (line_for P C p).kind
unfolding line_for line_of
line_together P C p q = go (eqb (length (case_heading C).complete) 0)
  where
    go : (b : Bool) → Bare (cond b (bare_line 5 p) (line_of (frame_of P C) (bindings P C) p)).kind
        → (cond b (bare_line 5 q) (line_of (frame_of P C) (bindings P C) q)).kind ≡ (cond b (bare_line 5 p) (line_of (frame_of P C) (bindings P C) p)).kind
    go true b = refl
    go false b =
        over_together (influence (frame_of P C) (bindings P C)) P
        (map (λ v. world_of P (case_heading C).roster (influence (frame_of P C) (bindings P C)) (active P v)) (worlds (frame_of P C) (bindings P C))) p q b

-- ---- OF AN ANSWERED CASE

module _ (plan case : List ℕ) (line_room event_room : ℕ) where
  -- the bytes of the lines, and their number
  abbrev lines : List ℕ
  lines = (answer plan case line_room event_room).lines

  abbrev count : ℕ
  count = (told (answer plan case line_room event_room).answer).lines

  pub bare_together : (told (answer plan case line_room event_room).answer).refusal ≡ 0 → (i j : ℕ) → i < count → j < count
      → (kind_at lines i ≡ 5) ⊎ (kind_at lines i ≡ 6) → kind_at lines j ≡ kind_at lines i
  unfolding kind_at decoded line_bytes
  bare_together given i j l m b = its_kind j m ∙ line_together P C (person i) (person j) (subst Bare (its_kind i l) b) ∙ sym (its_kind i l)
    where
      P : Plan
      P = (answered_read plan case line_room event_room given).0

      C : Case
      C = (answered_read plan case line_room event_room given).1

      person : ℕ → ℕ
      person k = get_or (members (case_heading C).roster) k 64

      its_kind : (k : ℕ) → k < count → kind_at lines k ≡ (line_for P C (person k)).kind
      its_kind k l =
          let t = answered_read plan case line_room event_room given in
          let parts = answered_partition plan case line_room event_room given P C t.2 t.3 in
          ap (λ (s : List ℕ). (decoded s).kind) (line-bytes plan case line_room event_room P C t.2 t.3 given k (subst (λ (n : ℕ). k < n) parts.count l))
