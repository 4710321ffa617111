-- Steps 3 to 5 read off the tables: the kept cuts, those that overlap, and what blocks a cut.
use mathlib.Core.Path.{◌≡◌, refl, sym, ap, ap₂, ◌∙◌}
use mathlib.Core.Bool.{Bool, true, false, ◌&&◌, ◌||◌, not, false≢true}
use mathlib.Core.List.{List}
use mathlib.Core.Logic.{⊎_elim}
use Prim.Native.Nat.{ℕ, ◌^◌, ◌≤◌, ◌<◌}
use native.Mathlib.Omega.{arith}
use lib.Dec.{eqb, ltb}
use borrow.Author.Tests.{ltb-true, lt-ltb}
use Rattle.sets.specs.paper.Sets.{has, meets, union, meet, minus, members, below, any_below, union_of}
use Rattle.records.specs.paper.Plan.{Plan, one_end}
use Rattle.sets.proofs.SetLaws.{has-union, has_meet, has-minus, has_one, and_parts, lt_or_le}
use Rattle.sets.proofs.LoopLaws.{get_or-below, get_d_past}
use Rattle.expressions.specs.paper.Rules.{edge_count, cut_count, edge, cut}
use Rattle.expressions.specs.paper.Nodes.{on}
use Rattle.expressions.specs.paper.Influence.{decision_count, open_decision}
use Rattle.expressions.specs.paper.Variables.{Influence}
use Rattle.expressions.proofs.OpenLaws.{open_few}
use Rattle.worlds.specs.paper.Active as paper
use Rattle.worlds.specs.paper.World.{about, precedes, same_members, kept_cut, kept_cuts, overlapping_cut, overlapping_cuts, blocked_by}
use Rattle.worlds.specs.code.Tables.{row, sharing, Stands, TellsActive}
use Rattle.worlds.specs.code.Cuts.{blockers}
use Rattle.worlds.specs.declared.tables.Common.{Common}
use Rattle.worlds.specs.declared.tables.Active.{Active}
use Rattle.worlds.proofs.FindLaws.{not_so, meets_any, union_any, few-low}

-- an answer for each number below n, by a set that holds no other
pub tells_below : (n r : ℕ) (f : ℕ → Bool) → ((c : ℕ) → has r c ≡ true → c < n) → ((c : ℕ) → c < n → has r c ≡ f c) → (c : ℕ) → has r c ≡ on (below n f) c
tells_below n r f low h c = ⊎_elim
    (λ l. h c l ∙ sym (get_or-below n f false c l))
    (λ l. not_so (has r c) (λ e. let z = low c e in omega arith) ∙ sym (get_d_past n f false c l)) (lt_or_le c n)

moved_in : (l s p o : Bool) → ((l && (s && p)) && o) ≡ (l && (s && (o && p)))
moved_in true true true true = refl
moved_in true true true false = refl
moved_in true true false true = refl
moved_in true true false false = refl
moved_in true false p o = refl
moved_in false s p o = refl

parted : (l x y z : Bool) → (((l && x) && not y) && z) ≡ (l && ((x && z) && not y))
parted true true true true = refl
parted true true true false = refl
parted true true false true = refl
parted true true false false = refl
parted true false y z = refl
parted false x y z = refl

module _ (P : Plan) (I : Influence) (k : Common) (t : List (List ℕ)) (S : Stands P I k t) where
  abbrev n : ℕ
  n = cut_count P

  abbrev ms : ℕ → ℕ
  ms c = (cut P c).members

  pub cuts-few : n ≤ 64
  cuts-few = let l = S.sound.cut_limit in omega arith

  -- "the one preceded drops"
  pub kept-told : (a : paper.Active) (f : Active) → TellsActive P a f → (r : ℕ) → ((c : ℕ) → has r c ≡ (has f.cuts c && not (meets (row t 4 c) f.cuts)))
      → (c : ℕ) → has r c ≡ on (kept_cuts P a) c
  unfolding kept_cuts kept_cut about
  kept-told a f T r h =
      tells_below n r (kept_cut P a) (λ c e. T.cuts_below c (sym (T.cuts c) ∙ (and_parts (has f.cuts c) (not (meets (row t 4 c) f.cuts)) (sym (h c) ∙ e)).0))
      (λ c l. h c ∙ ap₂ (λ (x y : Bool). x && not y) (T.cuts c) (meets_any (row t 4 c) f.cuts n _ (dropper c l)))
    where
      dropper : (c : ℕ) → c < n → (d : ℕ) → (has (row t 4 c) d && has f.cuts d) ≡ (ltb d n && (sharing P c d && (on a.cuts d && (precedes P d c && not (precedes P c d)))))
      dropper c l d = ap₂ ◌&&◌ (S.droppers c d l) (T.cuts d) ∙ moved_in (ltb d n) (sharing P c d) (precedes P d c && not (precedes P c d)) (on a.cuts d)

  module _ (kept : List Bool) (left : ℕ) (told : (c : ℕ) → has left c ≡ on kept c) (low : (c : ℕ) → on kept c ≡ true → c < n) where
    -- "cuts still overlapping"
    pub overlapping-told : (r : ℕ) → ((c : ℕ) → has r c ≡ (has left c && meets (row t 5 c) left)) → (c : ℕ) → has r c ≡ on (overlapping_cuts P kept) c
    unfolding overlapping_cuts overlapping_cut about
    overlapping-told r h =
        tells_below n r (overlapping_cut P kept) (λ c e. low c (sym (told c) ∙ (and_parts (has left c) (meets (row t 5 c) left) (sym (h c) ∙ e)).0))
        (λ c l. h c ∙ ap₂ ◌&&◌ (told c) (meets_any (row t 5 c) left n _ (other c l)))
      where
        other : (c : ℕ) → c < n → (d : ℕ) → (has (row t 5 c) d && has left d) ≡ (ltb d n && (sharing P c d && (on kept d && not (same_members P c d))))
        other c l d = ap₂ ◌&&◌ (S.clashing c d l) (told d) ∙ moved_in (ltb d n) (sharing P c d) (not (same_members P c d)) (on kept d)

  -- ---- what blocks a cut

  decisions-few : decision_count P ≤ 64
  decisions-few = let l = S.sound.decision_limit in let m = open_few P in omega arith

  module _ (a : paper.Active) (f : Active) (T : TellsActive P a f) where
    -- the decisions of the cut that are not true
    abbrev undecided : ℕ → ℕ
    undecided c = minus (row t 9 c) f.decisions

    undecided_low : (c : ℕ) → c < n → undecided c < 2 ^ 64
    undecided_low c l =
        few-low (decision_count P) (undecided c) decisions-few (λ d e. ltb-true d (decision_count P)
        (and_parts (ltb d (decision_count P)) (eqb (open_decision P d).cut c) (sym (S.opens c d l)
        ∙ (and_parts (has (row t 9 c) d) (not (has f.decisions d)) (sym (has-minus (row t 9 c) f.decisions d) ∙ e)).0)).0)

    open_says : (c e : ℕ) → c < n → has (union_of (row t 10) (members (undecided c))) e
        ≡ any_below (decision_count P) (λ d. (eqb (open_decision P d).cut c && eqb (open_decision P d).edge e) && not (has a.decisions d))
    open_says c e l = union_any (row t 10) (undecided c) e (decision_count P) _ (undecided_low c l) each
      where
        each : (d : ℕ) → (has (undecided c) d && has (row t 10 d) e)
            ≡ (ltb d (decision_count P) && ((eqb (open_decision P d).cut c && eqb (open_decision P d).edge e) && not (has a.decisions d)))
        each d =
            ap (λ (b : Bool). b && has (row t 10 d) e)
            (has-minus (row t 9 c) f.decisions d ∙ ap₂ (λ (x y : Bool). x && not y) (S.opens c d l) (ap (λ (m : ℕ). has m d) T.decisions))
            ∙ pick (ltb d (decision_count P)) refl
          where
            pick : (b : Bool) → ltb d (decision_count P) ≡ b
                → (((ltb d (decision_count P) && eqb (open_decision P d).cut c) && not (has a.decisions d)) && has (row t 10 d) e)
                ≡ (ltb d (decision_count P) && ((eqb (open_decision P d).cut c && eqb (open_decision P d).edge e) && not (has a.decisions d)))
            pick true z =
                ap (λ (b : Bool). ((ltb d (decision_count P) && eqb (open_decision P d).cut c) && not (has a.decisions d)) && b)
                (ap (λ (m : ℕ). has m e) (S.open_edges d (ltb-true d (decision_count P) z)) ∙ has_one (open_decision P d).edge e)
                ∙ parted (ltb d (decision_count P)) (eqb (open_decision P d).cut c) (has a.decisions d) (eqb (open_decision P d).edge e)
            pick false z =
                ap (λ (b : Bool). ((b && eqb (open_decision P d).cut c) && not (has a.decisions d)) && has (row t 10 d) e) z
                ∙ sym (ap (λ (b : Bool). b && ((eqb (open_decision P d).cut c && eqb (open_decision P d).edge e) && not (has a.decisions d))) z)

    -- "a frozen Combination edge with one end in a cut"
    pub blockers-told : (c e : ℕ) → c < n → has (blockers t f.frozen f.decisions c) e ≡ blocked_by P a c e
    unfolding blockers blocked_by paper.blocks_edge
    blockers-told c e l =
        has_meet (meet f.frozen (row t 7 c)) (union (row t 8 c) (union_of (row t 10) (members (undecided c)))) e
        ∙ ap₂ ◌&&◌ (has_meet f.frozen (row t 7 c) e ∙ ap₂ ◌&&◌ (T.frozen e) (S.crossing c e l))
        (has-union (row t 8 c) (union_of (row t 10) (members (undecided c))) e ∙ ap₂ ◌||◌ (S.said c e l) (open_says c e l))
        ∙ frozen-low (on a.frozen e) (ltb e (edge_count P)) (edge P e).combination (one_end (cut P c) (edge P e)) _ (λ h. lt-ltb e (edge_count P) (T.edges_below e h))
      where
        frozen-low : (o l x y z : Bool) → (o ≡ true → l ≡ true) → ((o && (l && (x && y))) && z) ≡ ((o && x) && (y && z))
        frozen-low true true true y z h = refl
        frozen-low true true false y z h = refl
        frozen-low true false x y z h = absurd (false≢true (h refl))
        frozen-low false l x y z h = refl
