-- `conditions::lay_conditions`: each row is laid once, by the rules of its kind that are in use.
use Prim.Native.Nat.{ℕ, ◌<◌, min}
use mathlib.Core.Path.{◌≡◌, sym, ap, ap₂, ◌∙◌, subst}
use mathlib.Core.List.{List, [], ◌∷◌, map}
use native.Mathlib.Omega.{arith}
use lib.ListN.{length, get_or, set, take, length-map}
use borrow.Author.Rules.{rules}
use Rattle.std.proofs.lemmas.List.{get_or-map}
use Rattle.std.proofs.lemmas.Grind.{common_steps}
use Rattle.records.specs.code.Decoded.{plan_of, numbers_of, edge_of, cut_of, attachment_of, bar_of, status_of}
use Rattle.records.proofs.UsedLaws.{used_take}
use Rattle.expressions.specs.paper.Rules.{edge, cut, attachment, bar, status}
use Rattle.worlds.proofs.conditions.lay_conditions.Goals as goal

-- the rows as they are laid
module _ (t : List (List ℕ)) (long : length t ≡ 6) (edges against cuts attachments bars statuses : List ℕ) where
  abbrev laid : List (List ℕ)
  laid = set (set (set (set (set (set t 0 edges) 5 against) 1 cuts) 2 attachments) 3 bars) 4 statuses

  edges-laid : get_or laid 0 [] ≡ edges
  edges-laid = grind (arith, common_steps)

  cuts-laid : get_or laid 1 [] ≡ cuts
  cuts-laid = grind (arith, common_steps)

  attachments-laid : get_or laid 2 [] ≡ attachments
  attachments-laid = grind (arith, common_steps)

  bars-laid : get_or laid 3 [] ≡ bars
  bars-laid = grind (arith, common_steps)

  statuses-laid : get_or laid 4 [] ≡ statuses
  statuses-laid = grind (arith, common_steps)

  against-laid : get_or laid 5 [] ≡ against
  against-laid = grind (arith, common_steps)

-- what is laid of the rules in use, as the plan has them
of_used : {A B C : Type 0} (f : A → B) (g : B → C) (xs : List A) (count most n : ℕ) → length xs ≡ most → n ≡ min count most → (v : ℕ → C)
    → ((none : A) (i : ℕ) → i < length (take n xs) → v i ≡ g (f (get_or (take n xs) i none))) → (none : B) (i : ℕ) → i < length (map f (take count xs))
    → v i ≡ g (get_or (map f (take count xs)) i none)
of_used {A} {B} {C} f g xs count most n long some v h none =
    subst (λ (ys : List A). (i : ℕ) → i < length (map f ys) → v i ≡ g (get_or (map f ys) i none)) (used_take xs count most n long some) (each (take n xs) h)
  where
    each : (ys : List A) → ((none : A) (i : ℕ) → i < length ys → v i ≡ g (f (get_or ys i none))) → (i : ℕ) → i < length (map f ys) → v i ≡ g (get_or (map f ys) i none)
    each [] h i l = absurd (omega arith)
    each (y ∷ ys) h i l =
        let inside : i < length (y ∷ ys) = omega (arith, length-map (y ∷ ys) f) in
        h y i inside ∙ ap g (sym (get_or-map f (y ∷ ys) i y none inside))

pub returns : goal.returns
unfolding plan_of numbers_of edge_of cut_of attachment_of bar_of status_of edge cut attachment bar status
returns c =
    let t = c.args.conditions.now in
    let P = c.args.plan in
    record {
      edges = λ i l. ap (λ (r : List ℕ). get_or r i 0) (edges-laid t c.told-conditions _ _ _ _ _ _)
          ∙ of_used edge_of (λ x. x.condition) P.edges.items P.edges.count 64 _ (omega (arith, c.well_formed)) c.min.ensures (λ k. get_or c.lay_each.new.table k 0)
          (λ none k h. let is = c.lay_each.ensures none 0 k h in search rules) _ i l;
      cuts = λ i l. ap (λ (r : List ℕ). get_or r i 0) (cuts-laid t c.told-conditions _ _ _ _ _ _)
          ∙ of_used cut_of (λ x. x.condition) P.cuts.items P.cuts.count 16 _ (omega (arith, c.well_formed)) c.min-2.ensures (λ k. get_or c.lay_each-4.new.table k 0)
          (λ none k h. let is = c.lay_each-4.ensures none 0 k h in search rules) _ i l;
      attachments = λ i l. ap (λ (r : List ℕ). get_or r i 0) (attachments-laid t c.told-conditions _ _ _ _ _ _)
          ∙ of_used attachment_of (λ x. x.condition) P.attachments.items P.attachments.count 32 _ (omega (arith, c.well_formed)) c.min-3.ensures (λ k. get_or c.lay_each-5.new.table k 0)
          (λ none k h. let is = c.lay_each-5.ensures none 0 k h in search rules) _ i l;
      bars = λ i l. ap (λ (r : List ℕ). get_or r i 0) (bars-laid t c.told-conditions _ _ _ _ _ _)
          ∙ of_used bar_of (λ x. x.condition) P.bars.items P.bars.count 32 _ (omega (arith, c.well_formed)) c.min-4.ensures (λ k. get_or c.lay_each-6.new.table k 0)
          (λ none k h. let is = c.lay_each-6.ensures none 0 k h in search rules) _ i l;
      statuses = λ i l. ap (λ (r : List ℕ). get_or r i 0) (statuses-laid t c.told-conditions _ _ _ _ _ _)
          ∙ of_used status_of (λ x. x.condition) P.statuses.items P.statuses.count 32 _ (omega (arith, c.well_formed)) c.min-5.ensures (λ k. get_or c.lay_each-7.new.table k 0)
          (λ none k h. let is = c.lay_each-7.ensures none 0 k h in search rules) _ i l;
      against = λ i l. ap (λ (r : List ℕ). take (get_or r i 0) (get_or c.lay_each-3.new.table i [])) (against-laid t c.told-conditions _ _ _ _ _ _)
          ∙ of_used edge_of (λ x. x.defeaters) P.edges.items P.edges.count 64 _ (omega (arith, c.well_formed)) c.min.ensures
          (λ k. take (get_or c.lay_each-2.new.table k 0) (get_or c.lay_each-3.new.table k []))
          (λ none k h.
          let edges = take c.min.result P.edges.items in
          let count : get_or c.lay_each-2.new.table k 0 ≡ (get_or edges k none).defeaters.count = (let is = c.lay_each-2.ensures none 0 k h in search rules) in
          let items : get_or c.lay_each-3.new.table k [] ≡ (get_or edges k none).defeaters.items = (let is = c.lay_each-3.ensures none [] k h in search rules) in
          ap₂ take count items) _ i l;
    }
