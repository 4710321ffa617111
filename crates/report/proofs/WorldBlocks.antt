-- What one world says of the roster persons' blocks: a person with a block is in it, and everybody in it has that block.
use mathlib.Core.Path.{◌≡◌, refl, sym, ap, ◌∙◌}
use mathlib.Core.Bool.{Bool, true, false, cond}
use mathlib.Core.Logic.{◌⊎◌, inl, inr, ⊎_elim}
use Prim.Native.Nat.{ℕ, ◌≤◌, ◌<◌, ◌^◌}
use native.Mathlib.Omega.{arith}
use Rattle.sets.specs.paper.Sets.{has, subset}
use Rattle.records.specs.paper.Plan.{Plan}
use Rattle.sets.proofs.SetLaws.{has-none}
use Rattle.sets.proofs.Local.{clash}
use Rattle.expressions.specs.paper.Rules.{rule_persons}
use Rattle.expressions.specs.paper.Variables.{Influence}
use Rattle.worlds.specs.paper.Active.{Active}
use Rattle.worlds.specs.paper.World.{World, marked, block_of, world_of}
use Rattle.worlds.specs.paper.View.{view}
use Rattle.worlds.proofs.Partition.{InNoBlock, InOneBlock, partition}

-- ---- kinds and blocks of the roster persons

module _ (Blocked : ℕ → Type 0) (roster : ℕ) (kind block : ℕ → ℕ) where
  pub record Without (p : ℕ) : Type 0 where
    pub none : block p ≡ 0
    pub other : Blocked (kind p) → ⊥

  pub record With (p : ℕ) : Type 0 where
    pub such : Blocked (kind p)
    pub own : has (block p) p ≡ true
    pub members : (q : ℕ) → has (block p) q ≡ true → (has roster q ≡ true) × (block q ≡ block p)

  abbrev pub Parted : Type 0
  Parted = (p : ℕ) → has roster p ≡ true → Without p ⊎ With p

  -- whose block holds anybody has one
  pub holds_with : Parted → (p : ℕ) → has roster p ≡ true → (q : ℕ) → has (block p) q ≡ true → With p
  holds_with parts p here q h =
      ⊎_elim (λ o. clash h (ap (λ (b : ℕ). has b q) o.none ∙ has-none q)) (λ w. w) (parts p here)

-- ---- one world

module _ (P : Plan) (w : World) (p : ℕ) where
  marked-view : has (marked w.marks) p ≡ true → ((view P w p).block ≡ 0) × (3 ≤ (view P w p).kind)
  unfolding view
  marked-view e = rw e (refl, least (has w.marks.overlap p))
    where
      least : (b : Bool) → 3 ≤ cond {A = ℕ} b 3 4
      least true = omega arith
      least false = omega arith

  plain-view : has (marked w.marks) p ≡ false → ((view P w p).block ≡ block_of w.state p) × ((view P w p).kind ≡ 0)
  unfolding view
  plain-view e = rw e (refl, refl)

  pub view-kind : ((view P w p).kind ≡ 0) ⊎ (3 ≤ (view P w p).kind)
  view-kind = pick (has (marked w.marks) p) refl
    where
      pick : (b : Bool) → has (marked w.marks) p ≡ b → ((view P w p).kind ≡ 0) ⊎ (3 ≤ (view P w p).kind)
      pick true e = inr (marked-view e).1
      pick false e = inl (plain-view e).1

-- in one world kind 0 has a block
abbrev InOne : ℕ → Type 0
InOne kind = kind ≡ 0

-- what a world says of everybody
abbrev pub PartedIn : Plan → ℕ → World → Type 0
PartedIn P roster w = Parted InOne roster (λ p. (view P w p).kind) (λ p. (view P w p).block)

pub world_parted : (P : Plan) (roster : ℕ) → roster < 2 ^ 64 → subset (rule_persons P) roster ≡ true → (I : Influence) (a : Active) → PartedIn P roster (world_of P roster I a)
world_parted P roster fits on-roster I a p here = ⊎_elim outside inside (partition P roster fits on-roster I a p here)
  where
    w : World
    w = world_of P roster I a

    Goal : Type 0
    Goal = Without InOne roster (λ p. (view P w p).kind) (λ p. (view P w p).block) p ⊎ With InOne roster (λ p. (view P w p).kind) (λ p. (view P w p).block) p

    outside : (has (marked w.marks) p ≡ true) × InNoBlock w.state p → Goal
    outside m =
        let v = marked-view P w p m.0 in
        let high = v.1 in
        inl (record { none = v.0; other = λ e. omega arith })

    inside : InOneBlock roster (marked w.marks) w.state p → Goal
    inside o =
        let v = plain-view P w p (o.members p o.holds).1 in
        inr (record {
          such = v.1;
          own = ap (λ (b : ℕ). has b p) v.0 ∙ o.holds;
          members = λ q h.
              let m = o.members q (sym (ap (λ (b : ℕ). has b q) v.0) ∙ h) in
              (m.0, (plain-view P w q m.1).0 ∙ m.2 ∙ sym v.0);
        })
