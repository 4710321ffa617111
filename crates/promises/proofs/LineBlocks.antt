-- What all worlds together say of the roster persons' blocks, as each of them does: a person with a block is in it, and everybody in it has that
-- block.
use mathlib.Core.Path.{◌≡◌, refl, sym, ap, ap₂, ◌∙◌}
use mathlib.Core.Bool.{Bool, true, false, ◌&&◌, not, cond}
use mathlib.Core.List.{List, [], ◌∷◌, map}
use mathlib.Core.Logic.{◌⊎◌, inl, inr, ⊎_elim}
use Prim.Native.Nat.{ℕ, ◌≤◌}
use native.Mathlib.Omega.{arith}
use lib.Dec.{eqb}
use borrow.Author.Tests.{eqb-true, eqb-false, eq-eqb}
use Rattle.sets.specs.paper.Sets.{has, all_of, union_of, All}
use Rattle.records.specs.paper.Plan.{Plan}
use Rattle.sets.proofs.SetLaws.{and_parts}
use Rattle.sets.proofs.Local.{clash}
use Rattle.expressions.specs.paper.Variables.{Influence}
use Rattle.worlds.specs.paper.World.{World}
use Rattle.worlds.specs.paper.View.{View, view}
use Rattle.report.specs.paper.Line.{Line, line_by, line_over, first_kind}
use Rattle.report.proofs.WorldBlocks.{With, Without, Parted, PartedIn, holds_with, view-kind}
use Rattle.promises.specs.Partitioned.{InOne, InAll}

-- the block stands over the worlds
abbrev stands : ℕ → List View → Bool
stands b vs = not (eqb b 0) && all_of (λ u. eqb u.block b) vs

module _ (I : Influence) (p : ℕ) (v : View) (vs : List View) where
  abbrev line : Line
  line = line_over I p (v ∷ vs)

  stood : stands v.block vs ≡ true → (line.block ≡ v.block) × InAll line.kind
  unfolding line_over
  stood = go (stands v.block vs) (all_of (λ u. eqb u.role v.role) vs) (first_kind (v ∷ vs)) (union_of (λ u. u.citations) (v ∷ vs))
    where
      go : (b c : Bool) (k cs : ℕ) → b ≡ true → ((line_by I p b c v k cs).block ≡ v.block) × InAll (line_by I p b c v k cs).kind
      go true true k cs e = (refl, inl refl)
      go true false k cs e = (refl, inr refl)
      go false c k cs e = clash e refl

  fell : stands v.block vs ≡ false → (first_kind (v ∷ vs) ≡ 0) ⊎ (3 ≤ first_kind (v ∷ vs)) → (line.block ≡ 0) × (InAll line.kind → ⊥)
  unfolding line_over
  fell = go (stands v.block vs) (all_of (λ u. eqb u.role v.role) vs) (first_kind (v ∷ vs)) (union_of (λ u. u.citations) (v ∷ vs))
    where
      other : (k : ℕ) (z : Bool) → eqb k 0 ≡ z → (k ≡ 0) ⊎ (3 ≤ k) → InAll (cond z 1 k) → ⊥
      other k true e h (inl x) = omega arith
      other k true e h (inr x) = omega arith
      other k false e (inl h) x = eqb-false k 0 e h
      other k false e (inr h) (inl x) = omega arith
      other k false e (inr h) (inr x) = omega arith

      go : (b c : Bool) (k cs : ℕ) → b ≡ false → (k ≡ 0) ⊎ (3 ≤ k) → ((line_by I p b c v k cs).block ≡ 0) × (InAll (line_by I p b c v k cs).kind → ⊥)
      go true c k cs e h = clash refl e
      go false c k cs e h = (refl, other k (eqb k 0) refl h)

module _ (P : Plan) (roster : ℕ) where
  abbrev views : List World → ℕ → List View
  views ws p = map (λ w. view P w p) ws

  first_kind_lem : (ws : List World) (p : ℕ) → (first_kind (views ws p) ≡ 0) ⊎ (3 ≤ first_kind (views ws p))
  unfolding first_kind
  first_kind_lem [] p = inl refl
  first_kind_lem (w ∷ ws) p = pick (eqb (view P w p).kind 0) refl (view-kind P w p) (first_kind_lem ws p)
    where
      pick : (b : Bool) → eqb (view P w p).kind 0 ≡ b → ((view P w p).kind ≡ 0) ⊎ (3 ≤ (view P w p).kind) → (first_kind (views ws p) ≡ 0) ⊎ (3 ≤ first_kind (views ws p))
          → (cond b (first_kind (views ws p)) (view P w p).kind ≡ 0) ⊎ (3 ≤ cond b (first_kind (views ws p)) (view P w p).kind)
      pick true e h ih = ih
      pick false e h ih = h

  -- a block that a person has in all worlds, its members have in all worlds
  carried : (b p q : ℕ) → has roster p ≡ true → has b q ≡ true → (ws : List World) → All (PartedIn P roster) ws
      → all_of (λ u. eqb u.block b) (views ws p) ≡ true → all_of (λ u. eqb u.block b) (views ws q) ≡ true
  unfolding all_of
  carried b p q here h [] g e = refl
  carried b p q here h (w ∷ ws) g e =
      let t = and_parts (eqb (view P w p).block b) (all_of (λ u. eqb u.block b) (views ws p)) e in
      let same = eqb-true (view P w p).block b t.0 in
      let inside = ap (λ (x : ℕ). has x q) same ∙ h in
      let m = (holds_with InOne roster (λ p. (view P w p).kind) (λ p. (view P w p).block) g.0 p here q inside).members q inside in
      ap₂ ◌&&◌ (eq-eqb (view P w q).block b (m.1 ∙ same)) (carried b p q here h ws g.1 t.1)

  pub over_parted : (I : Influence) (ws : List World) → All (PartedIn P roster) ws
      → Parted InAll roster (λ p. (line_over I p (views ws p)).kind) (λ p. (line_over I p (views ws p)).block)
  unfolding line_over
  over_parted I [] g p here = inl (record { none = refl; other = ⊎_elim (λ e. omega arith) (λ e. omega arith) })
  over_parted I (w ∷ ws) g p here = pick (stands (block p) (views ws p)) refl
    where
      block : ℕ → ℕ
      block p = (view P w p).block

      line : ℕ → Line
      line p = line_over I p (view P w p ∷ views ws p)

      pick : (b : Bool) → stands (block p) (views ws p) ≡ b → Without InAll roster (λ p. (line p).kind) (λ p. (line p).block) p ⊎ With InAll roster (λ p. (line p).kind) (λ p. (line p).block) p
      pick false e =
          let r = fell I p (view P w p) (views ws p) e (first_kind_lem (w ∷ ws) p) in
          inl (record { none = r.0; other = r.1 })
      pick true e =
          let r = stood I p (view P w p) (views ws p) e in
          let t = and_parts (not (eqb (block p) 0)) (all_of (λ u. eqb u.block (block p)) (views ws p)) e in
          let first = ⊎_elim (λ o. clash t.0 (ap (λ (b : ℕ). not (eqb b 0)) o.none)) (λ x. x) (g.0 p here) in
          inr (record {
            such = r.1;
            own = ap (λ (b : ℕ). has b p) r.0 ∙ first.own;
            members = λ q h.
                let inside = sym (ap (λ (b : ℕ). has b q) r.0) ∙ h in
                let m = first.members q inside in
                let same = ap (λ (b : ℕ). stands b (views ws q)) m.1 ∙ ap₂ ◌&&◌ t.0 (carried (block p) p q here inside ws g.1 t.1) in
                (m.0, (stood I q (view P w q) (views ws q) same).0 ∙ m.1 ∙ sym r.0);
          })
