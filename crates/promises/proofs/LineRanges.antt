-- The kinds and roles that a line can have, in one world and over all.
use mathlib.Core.Bool.{Bool, true, false, not, cond, ◌&&◌}
use mathlib.Core.List.{List, [], ◌∷◌, map}
use Prim.Native.Nat.{ℕ, ◌≤◌, zero-le}
use native.Mathlib.Omega.{arith}
use lib.Dec.{eqb}
use Rattle.sets.specs.paper.Sets.{has, all_of, union_of, All}
use Rattle.sets.proofs.Every.{all_map}
use Rattle.records.specs.paper.Plan.{Plan}
use Rattle.expressions.specs.paper.Variables.{Influence}
use Rattle.worlds.specs.paper.World.{World, marked, block_of}
use Rattle.worlds.specs.paper.View.{View, view, role_of, citations}
use Rattle.report.specs.paper.Line.{line_by, line_over, first_kind}

-- ---- one world

pub record SeenRange (v : View) : Type 0 where
  pub kind : v.kind ≤ 4
  pub role : v.role ≤ 3

role-most : (w : World) (p : ℕ) → role_of w p ≤ 3
unfolding role_of
role-most w p = pick (has w.excluded p) (has w.barred p)
  where
    pick : (b c : Bool) → cond {A = ℕ} b 2 (cond c 3 1) ≤ 3
    pick true c = omega arith
    pick false true = omega arith
    pick false false = omega arith

pub view_range : (P : Plan) (w : World) (p : ℕ) → SeenRange (view P w p)
unfolding view
view_range P w p = pick (has (marked w.marks) p) (has w.marks.overlap p)
  where
    pick : (b c : Bool)
        → SeenRange (cond b (record { block = 0; role = 0; kind = cond c 3 4; citations = 0 })
        (record { block = block_of w.state p; role = role_of w p; kind = 0; citations = citations P w p (block_of w.state p) }))
    pick true true = record { kind = omega arith; role = zero-le }
    pick true false = record { kind = omega arith; role = zero-le }
    pick false c = record { kind = zero-le; role = role-most w p }

pub views_range : (P : Plan) (ws : List World) (p : ℕ) → All SeenRange (map (λ w. view P w p) ws)
views_range P ws p = all_map (λ w. view P w p) SeenRange (λ w. view_range P w p) ws

-- ---- over all worlds

pub first-most : (vs : List View) → All SeenRange vs → first_kind vs ≤ 4
unfolding first_kind
first-most [] h = zero-le
first-most (v ∷ vs) h = pick (eqb v.kind 0) (first-most vs h.1)
  where
    pick : (b : Bool) → first_kind vs ≤ 4 → cond b (first_kind vs) v.kind ≤ 4
    pick true k = k
    pick false k = h.0.kind

module _ (I : Influence) (p : ℕ) where
  by_range : (stands roles : Bool) (v : View) (k c : ℕ) → SeenRange v → k ≤ 4
      → ((line_by I p stands roles v k c).kind ≤ 4) × ((line_by I p stands roles v k c).role ≤ 3)
  by_range true true v k c h l = (zero-le, h.role)
  by_range true false v k c h l = (omega arith, zero-le)
  by_range false roles v k c h l = (pick (eqb k 0), zero-le)
    where
      pick : (b : Bool) → cond b 1 k ≤ 4
      pick true = omega arith
      pick false = omega arith

  -- with a world no kind is 5 or 6
  pub some_range : (v : View) (vs : List View) → All SeenRange (v ∷ vs) → ((line_over I p (v ∷ vs)).kind ≤ 4) × ((line_over I p (v ∷ vs)).role ≤ 3)
  unfolding line_over
  some_range v vs h =
      by_range (not (eqb v.block 0) && all_of (λ u. eqb u.block v.block) vs) (all_of (λ u. eqb u.role v.role) vs) v (first_kind (v ∷ vs))
      (union_of (λ u. u.citations) (v ∷ vs)) h.0 (first-most (v ∷ vs) h)

  pub over_range : (vs : List View) → All SeenRange vs → ((line_over I p vs).kind ≤ 6) × ((line_over I p vs).role ≤ 3)
  unfolding line_over
  over_range [] h = (omega arith, zero-le)
  over_range (v ∷ vs) h = let r = some_range v vs h in let l = r.0 in (omega (arith, l), r.1)
