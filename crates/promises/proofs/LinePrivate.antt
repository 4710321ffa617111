-- One person's line over two bindings that are alike at what touches the person's circle.
use mathlib.Core.Path.{◌≡◌, sym, ap, ◌∙◌, subst}
use mathlib.Core.Bool.{Bool, true, false, cond}
use mathlib.Core.List.{List, [], ◌∷◌, ◌++◌, map, map-append}
use Prim.Native.Nat.{ℕ}
use Rattle.sets.specs.paper.Sets.{has}
use Rattle.records.specs.paper.Plan.{Plan}
use Rattle.expressions.specs.paper.Influence.{Frame}
use Rattle.expressions.specs.paper.Bindings.{Bound}
use Rattle.expressions.specs.paper.Variables.{Values, choice, slots, worlds, influence, admissible}
use Rattle.expressions.proofs.Circles.{Circle, in_circle, uncrossed}
use Rattle.expressions.proofs.Similar.{Similar, similar_start, BoundAlike, sorted, worlds-near, admissible-same, facts-twins, decisions-twins, influence-twins}
use Rattle.worlds.specs.paper.Active.{active}
use Rattle.worlds.specs.paper.World.{World, world_of}
use Rattle.worlds.specs.paper.View.{View, view}
use Rattle.worlds.proofs.ViewSeen.{world_seen, view-same}
use Rattle.report.proofs.SameViews.{SameViews, same_refl, join, left, right, line_same, holding-same}
use Rattle.report.proofs.Answered.{views_of, line_of}

module _ (F : Frame) (p : ℕ) (person : has F.roster p ≡ true) (bs cs : List Bound) (alike : BoundAlike F p bs cs) where
  abbrev C : ℕ → Bool
  C = Circle F p

  abbrev P : Plan
  P = F.plan

  abbrev seen_by_lem : List Bound → Values → View
  seen_by_lem bs v = view P (world_of P F.roster (influence F bs) (active P v)) p

  -- one world
  views_same : (v w : Values) → Similar F C v w → seen_by_lem bs v ≡ seen_by_lem cs w
  views_same v w S =
      view-same C P (uncrossed F p) _ _ (world_seen F C (uncrossed F p) (influence F bs) (influence F cs) (influence-twins F p bs cs alike) v w S) p (in_circle F p)

  -- all worlds
  abbrev Views : List Values → List Values → Type 0
  Views vs ws = SameViews (views_of F bs vs p) (views_of F cs ws p)

  parted : (ds : List Bound) (vs ws : List Values) → views_of F ds (vs ++ ws) p ≡ views_of F ds vs p ++ views_of F ds ws p
  parted ds vs ws =
      ap (map (λ (w : World). view P w p)) (map-append in_world vs ws) ∙ map-append (λ (w : World). view P w p) (map in_world vs) (map in_world ws)
    where
      in_world : Values → World
      in_world v = world_of P F.roster (influence F ds) (active P v)

  all_same : Views (worlds F bs) (worlds F cs)
  unfolding worlds
  all_same =
      worlds-near Views
      (λ a c b d h k. subst (λ x. SameViews x (views_of F cs (b ++ d) p)) (sym (parted bs a c)) (subst (SameViews _) (sym (parted cs b d)) (join _ _ _ _ h k)))
      (λ a c b h k. subst (λ x. SameViews x (views_of F cs b p)) (sym (parted bs a c)) (left _ _ _ h k))
      (λ a b d h k. subst (SameViews (views_of F bs a p)) (sym (parted cs b d)) (right _ _ _ h k))
      (Similar F C) (choice bs) (choice cs) _ _ (sorted F p bs cs alike)
      (λ v w S. one_same v w (views_same v w S) (admissible F v) (admissible F w) (admissible-same F p bs cs alike person v w S))
      (slots P) _ _ (similar_start F C _)
    where
      one_same : (v w : Values) → seen_by_lem bs v ≡ seen_by_lem cs w → (x y : Bool) → x ≡ y → Views (cond x (v ∷ []) []) (cond y (w ∷ []) [])
      one_same v w e x y z =
          subst (λ (y : Bool). Views (cond x (v ∷ []) []) (cond y (w ∷ []) [])) z (go x)
        where
          go : (x : Bool) → Views (cond x (v ∷ []) []) (cond x (w ∷ []) [])
          go true = subst (λ (u : View). SameViews (seen_by_lem bs v ∷ []) (u ∷ [])) e (same_refl (seen_by_lem bs v ∷ []))
          go false = same_refl []

  pub line_private : line_of F bs p ≡ line_of F cs p
  unfolding line_of
  line_private =
      line_same (influence F bs) (influence F cs) p
      (holding-same C (influence F bs).facts (influence F cs).facts p (in_circle F p) (facts-twins F p bs cs alike))
      (holding-same C (influence F bs).decisions (influence F cs).decisions p (in_circle F p) (decisions-twins F p bs cs alike))
      (views_of F bs (worlds F bs) p) (views_of F cs (worlds F cs) p) all_same
