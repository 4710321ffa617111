-- Citations of cuts: the person's own, and those through the frozen edges of the block.
use mathlib.Core.Path.{◌≡◌, ap₂}
use mathlib.Core.Bool.{Bool, true, ◌&&◌, ◌||◌}
use mathlib.Core.Logic.{◌⊎◌, inl, inr, ⊎_elim}
use Prim.Native.Nat.{ℕ, ◌<◌}
use Rattle.sets.specs.paper.Sets.{has, one, union, meets, only, union_below}
use Rattle.records.specs.paper.Plan.{Plan}
use Rattle.sets.proofs.SetLaws.{antisym, in_union_l, in_union_r, of_union, and_parts}
use Rattle.sets.proofs.Closing.{in_one}
use Rattle.sets.proofs.BelowLaws.{union_find, in_below, of_only, in_only}
use Rattle.expressions.specs.paper.Rules.{edge_count, cut_count, edge, cut, pair}
use Rattle.expressions.specs.paper.Nodes.{on}
use Rattle.worlds.specs.paper.World.{World, about}
use Rattle.worlds.specs.paper.View.{leads, cut_citations}
use Rattle.worlds.proofs.CiteLaws.{meets_in}
use Rattle.worlds.proofs.CiteRules.{either, or_in, any_in, any_of_lem}

module _ (P : Plan) (w : World) where
  abbrev pub own_cuts : ℕ → ℕ
  own_cuts x = union_below (cut_count P) (λ c. only (on w.applied c && has (cut P c).members x) (one (cut P c).citation))

  abbrev pub end_cuts : ℕ → ℕ → ℕ
  end_cuts b e = union (only (has b (edge P e).left) (own_cuts (edge P e).right)) (only (has b (edge P e).right) (own_cuts (edge P e).left))

  module _ (p b : ℕ) where
    through-edges : ℕ → Bool
    through-edges c = about (edge_count P) (pair P) b (λ e. on w.active.frozen e && leads P w b (cut P c).members e)

    cut_in : (q c : ℕ) → c < cut_count P → on w.applied c ≡ true → has (one (cut P c).citation) q ≡ true → (has (cut P c).members p || through-edges c) ≡ true
        → has (cut_citations P w p b) q ≡ true
    unfolding cut_citations through-edges
    cut_in q c l x h k =
        (in_below (cut_count P) _ c l).at q ((in_only (on w.applied c && (has (cut P c).members p || through-edges c)) (one (cut P c).citation) (ap₂ ◌&&◌ x k)).at q h)

    own_in : (q c x : ℕ) → c < cut_count P → on w.applied c ≡ true → has (one (cut P c).citation) q ≡ true → has (cut P c).members x ≡ true → has (own_cuts x) q ≡ true
    own_in q c x l y h k =
        (in_below (cut_count P) (λ c. only (on w.applied c && has (cut P c).members x) (one (cut P c).citation)) c l).at q
        ((in_only (on w.applied c && has (cut P c).members x) (one (cut P c).citation) (ap₂ ◌&&◌ y k)).at q h)

    record Own (x q : ℕ) : Type 0 where
      which : ℕ
      below : which < cut_count P
      applied : on w.applied which ≡ true
      cites : has (one (cut P which).citation) q ≡ true
      holds : has (cut P which).members x ≡ true

    own_of_lem : (x q : ℕ) → has (own_cuts x) q ≡ true → Own x q
    own_of_lem x q e =
        let r = union_find (cut_count P) (λ c. only (on w.applied c && has (cut P c).members x) (one (cut P c).citation)) q e in
        let t = of_only (on w.applied r.0 && has (cut P r.0).members x) (one (cut P r.0).citation) q r.2 in
        let u = and_parts (on w.applied r.0) (has (cut P r.0).members x) t.0 in
        record { which = r.0; below = r.1; applied = u.0; cites = t.1; holds = u.1 }

    -- an edge that leads from the block to a cut
    led : (c e x : ℕ) → e < edge_count P → on w.active.frozen e ≡ true → has (pair P e) x ≡ true → has b x ≡ true → leads P w b (cut P c).members e ≡ true → through-edges c ≡ true
    unfolding through-edges about
    led c e x l f h k z = any_in (edge_count P) _ e l (ap₂ ◌&&◌ (meets_in b (pair P e) x k h) (ap₂ ◌&&◌ f z))

    end_left : (e : ℕ) → has (pair P e) (edge P e).left ≡ true
    unfolding pair
    end_left e = (in_union_l (one (edge P e).left) (one (edge P e).right)).at (edge P e).left (in_one (edge P e).left)

    end_right : (e : ℕ) → has (pair P e) (edge P e).right ≡ true
    unfolding pair
    end_right e = (in_union_r (one (edge P e).left) (one (edge P e).right)).at (edge P e).right (in_one (edge P e).right)

    leads-out : (m e : ℕ) → (has b (edge P e).left ≡ true) × (has m (edge P e).right ≡ true) → leads P w b m e ≡ true
    unfolding leads
    leads-out m e h = or_in _ _ (inl (ap₂ ◌&&◌ h.0 h.1))

    leads_back : (m e : ℕ) → (has b (edge P e).right ≡ true) × (has m (edge P e).left ≡ true) → leads P w b m e ≡ true
    unfolding leads
    leads_back m e h = or_in (has b (edge P e).left && has m (edge P e).right) _ (inr (ap₂ ◌&&◌ h.0 h.1))

    leads_of : (m e : ℕ) → leads P w b m e ≡ true
        → ((has b (edge P e).left ≡ true) × (has m (edge P e).right ≡ true)) ⊎ ((has b (edge P e).right ≡ true) × (has m (edge P e).left ≡ true))
    unfolding leads
    leads_of m e h = ⊎_elim (λ x. inl (and_parts _ _ x)) (λ x. inr (and_parts _ _ x)) (either (has b (edge P e).left && has m (edge P e).right) _ h)

    cut_of_lem : (q : ℕ) → has (cut_citations P w p b) q ≡ true
        → (c : ℕ) × (c < cut_count P) × (on w.applied c ≡ true) × (has (one (cut P c).citation) q ≡ true) × ((has (cut P c).members p || through-edges c) ≡ true)
    unfolding cut_citations through-edges
    cut_of_lem q h =
        let r = union_find (cut_count P) _ q h in
        let c = r.0 in
        let t = of_only (on w.applied c && (has (cut P c).members p || through-edges c)) (one (cut P c).citation) q r.2 in
        let u = and_parts (on w.applied c) (has (cut P c).members p || through-edges c) t.0 in
        (c, r.1, u.0, t.1, u.1)

    edge_of_lem : (c : ℕ) → through-edges c ≡ true → (e : ℕ) × (e < edge_count P) × (on w.active.frozen e ≡ true) × (leads P w b (cut P c).members e ≡ true)
    unfolding through-edges about
    edge_of_lem c h =
        let r = any_of_lem (edge_count P) _ h in
        let e = r.0 in
        let t = and_parts (meets b (pair P e)) (on w.active.frozen e && leads P w b (cut P c).members e) r.2 in
        let u = and_parts (on w.active.frozen e) (leads P w b (cut P c).members e) t.1 in
        (e, r.1, u.0, u.1)

    pub cut_split : union (own_cuts p) (union_below (edge_count P) (λ e. only (on w.active.frozen e) (end_cuts b e))) ≡ cut_citations P w p b
    cut_split = antisym (union (own_cuts p) ends) (cut_citations P w p b) (record { at = λ q h. ⊎_elim (mine q) (other q) (of_union (own_cuts p) ends q h) }) (record { at = back })
      where
        end : ℕ → ℕ
        end e = only (on w.active.frozen e) (end_cuts b e)

        ends : ℕ
        ends = union_below (edge_count P) end

        mine : (q : ℕ) → has (own_cuts p) q ≡ true → has (cut_citations P w p b) q ≡ true
        mine q h = let o = own_of_lem p q h in cut_in q o.which o.below o.applied o.cites (or_in _ _ (inl o.holds))

        via : (q : ℕ) (c : ℕ) → through-edges c ≡ true → c < cut_count P → on w.applied c ≡ true → has (one (cut P c).citation) q ≡ true → has (cut_citations P w p b) q ≡ true
        via q c t l x h = cut_in q c l x h (or_in (has (cut P c).members p) (through-edges c) (inr t))

        other : (q : ℕ) → has ends q ≡ true → has (cut_citations P w p b) q ≡ true
        other q h =
            let r = union_find (edge_count P) end q h in
            let e = r.0 in
            let t = of_only (on w.active.frozen e) (end_cuts b e) q r.2 in
            ⊎_elim
            (λ x.
            let u = of_only (has b (edge P e).left) (own_cuts (edge P e).right) q x in
            let o = own_of_lem (edge P e).right q u.1 in
            via q o.which (led o.which e (edge P e).left r.1 t.0 (end_left e) u.0 (leads-out (cut P o.which).members e (u.0, o.holds))) o.below o.applied o.cites)
            (λ x.
            let u = of_only (has b (edge P e).right) (own_cuts (edge P e).left) q x in
            let o = own_of_lem (edge P e).left q u.1 in
            via q o.which (led o.which e (edge P e).right r.1 t.0 (end_right e) u.0 (leads_back (cut P o.which).members e (u.0, o.holds))) o.below o.applied o.cites)
            (of_union (only (has b (edge P e).left) (own_cuts (edge P e).right)) (only (has b (edge P e).right) (own_cuts (edge P e).left)) q t.1)

        back : (q : ℕ) → has (cut_citations P w p b) q ≡ true → has (union (own_cuts p) ends) q ≡ true
        back q h =
            let r = cut_of_lem q h in
            let c = r.0 in
            let own = own_in q c in
            ⊎_elim (λ x. (in_union_l (own_cuts p) ends).at q (own p r.1 r.2 r.3 x))
            (λ x.
            let d = edge_of_lem c x in
            let e = d.0 in
            let left = only (has b (edge P e).left) (own_cuts (edge P e).right) in
            let right = only (has b (edge P e).right) (own_cuts (edge P e).left) in
            (in_union_r (own_cuts p) ends).at q ((in_below (edge_count P) end e d.1).at q ((in_only (on w.active.frozen e) (end_cuts b e) d.2).at q (⊎_elim
            (λ y. (in_union_l left right).at q ((in_only (has b (edge P e).left) (own_cuts (edge P e).right) y.0).at q (own (edge P e).right r.1 r.2 r.3 y.1)))
            (λ y. (in_union_r left right).at q ((in_only (has b (edge P e).right) (own_cuts (edge P e).left) y.0).at q (own (edge P e).left r.1 r.2 r.3 y.1)))
            (leads_of (cut P c).members e d.3)))))
            (either (has (cut P c).members p) (through-edges c) r.4)
