-- Step 2 on masks is document 01's: the components by the frozen Base edges that are at discretion, and the marks that spread from them.
use mathlib.Core.Path.{◌≡◌, refl, sym, ap, ap₂, ◌∙◌, subst, fun_ext}
use mathlib.Core.Bool.{Bool, true, false, ◌&&◌, ◌||◌, not, or-true, false≢true}
use mathlib.Core.Logic.{⊎_elim}
use mathlib.Core.List.{List, [], ◌∷◌, map}
use Prim.Native.Nat.{ℕ, zero, suc, ◌^◌, ◌<◌}
use native.Mathlib.Omega.{arith}
use lib.Dec.{eqb, ltb}
use lib.ListN.{get_or}
use borrow.Author.Tests.{eqb-true, eq-eqb, ltb-true, lt-ltb, not-true}
use Rattle.sets.specs.paper.Sets.{has, one, union, meet, only, subset, size, numbers, below, union_below, all_of, any_of, union_of, members, close_of}
use Rattle.records.specs.paper.Plan.{Plan}
use Rattle.sets.proofs.SetLaws.{Within, has-none, has_meet, has_high, antisym, in_union_l, subset-true, and_parts, lt_or_le}
use Rattle.sets.proofs.Closing.{Takes, Closed, close_within, close_least, in_one, one-within}
use Rattle.sets.proofs.BelowLaws.{union_find, in_below, of_only, closed-below}
use Rattle.sets.proofs.LoopLaws.{get_or-below}
use Rattle.sets.proofs.Local.{which, clash}
use Rattle.expressions.proofs.ListLaws.{below_last}
use Rattle.sets.proofs.UnionLaws.{union_append, union-none}
use Rattle.expressions.specs.paper.Rules.{edge_count, edge, pair, chained, rule_persons}
use Rattle.expressions.specs.paper.Nodes.{on}
use Rattle.expressions.specs.paper.Variables.{Influence}
use Rattle.worlds.specs.paper.Active as paper
use Rattle.worlds.specs.paper.World.{base_set, base_sets, clique, loose, loose_component, loose_components, spread, discretion_seed, marks_of}
use Rattle.worlds.specs.code.Over.{entry}
use Rattle.worlds.specs.code.Discretion.{near, clique_by, loose_by, LooseParts}
use Rattle.worlds.specs.code.Tables.{Stands, TellsActive}
use Rattle.worlds.specs.code.Settled.{PartsAre}
use Rattle.worlds.specs.declared.tables.Common.{Common}
use Rattle.worlds.specs.declared.tables.Active.{Active}
use Rattle.sets.proofs.TurnLaws.{has-members, union-has, has-union_of}
use Rattle.worlds.proofs.FindLaws.{not_so, union-members, set-low, few-low}
use Rattle.worlds.proofs.SpreadLaws.{spread-members}
use Rattle.worlds.proofs.ClassLaws.{close_alike, closed-inside}
use Rattle.worlds.proofs.LooseLaws.{one_tight, close_alone, pairs-inside}

-- ---- lists of sets, by number

-- a closed set takes in each set of the list; past its end there is nobody
pub closed_at : (ss : List ℕ) (m i : ℕ) → Closed ss m → Takes (get_or ss i 0) m
closed_at [] m i c = λ p x y. clash x (has-none p)
closed_at (s ∷ ss) m zero c = c.0
closed_at (s ∷ ss) m (suc i) c = closed_at ss m i c.1

-- of the list of a set's numbers: each of the set
pub closed-members : (f : ℕ → ℕ) (es m e : ℕ) → es < 2 ^ 64 → Closed (map f (members es)) m → has es e ≡ true → Takes (f e) m
unfolding any_of
closed-members f es m e b c h = from (members es) c (sym (has-members es e b) ∙ h)
  where
    from : (xs : List ℕ) → Closed (map f xs) m → any_of (λ (x : ℕ). eqb x e) xs ≡ true → Takes (f e) m
    from [] c h = absurd (false≢true h)
    from (x ∷ xs) c h = ⊎_elim
        (λ z. subst (λ (y : ℕ). Takes (f y) m) (eqb-true x e z) c.0)
        (λ z. from xs c.1 (ap (λ (b : Bool). b || any_of (λ (x : ℕ). eqb x e) xs) (sym z) ∙ h)) (which (eqb x e))

pub members-closed : (f : ℕ → ℕ) (es m : ℕ) → es < 2 ^ 64 → ((e : ℕ) → has es e ≡ true → Takes (f e) m) → Closed (map f (members es)) m
unfolding any_of
members-closed f es m b h = from (members es) (λ e z. h e (has-members es e b ∙ z))
  where
    from : (xs : List ℕ) → ((e : ℕ) → any_of (λ (x : ℕ). eqb x e) xs ≡ true → Takes (f e) m) → Closed (map f xs) m
    from [] h = tt
    from (x ∷ xs) h = (h x (ap (λ (b : Bool). b || any_of (λ (y : ℕ). eqb y x) xs) (eq-eqb x x refl)), from xs (λ e z. h e (ap (λ (b : Bool). eqb x e || b) z ∙ or-true (eqb x e))))

-- a set that comes in only where a test holds
pub takes_only : (b : Bool) (s m : ℕ) → (b ≡ true → Takes s m) → Takes (only b s) m
takes_only b s m h p x y =
    let w = of_only b s p x in
    record { at = λ q z. (h w.0 p w.1 y).at q (of_only b s q z).1 }

-- a union over a list made by number
pub union-below : (F : ℕ → ℕ) (n : ℕ) (f : ℕ → ℕ) → union_of F (below n f) ≡ union_below n (λ i. F (f i))
unfolding below numbers union_of union_below
union-below F zero f = refl
union-below F (suc n) f = ap (union_of F) (below_last n f) ∙ union_append F (below n f) (f n ∷ []) ∙ ap₂ union (union-below F n f) (union-none (F (f n)))

-- ---- the frozen Base edges

module _ (P : Plan) (I : Influence) (k : Common) (t : List (List ℕ)) (a : paper.Active) (f : Active) (S : Stands P I k t) (T : TellsActive P a f) where
  abbrev pairs : List ℕ
  pairs = get_or t 0 []

  abbrev edges : ℕ
  edges = meet f.frozen k.base

  abbrev sets : List ℕ
  sets = map (entry pairs) (members edges)

  -- frozen, and no Combination edge
  abbrev free : ℕ → Bool
  free e = on a.frozen e && not (edge P e).combination

  edge-has : (e : ℕ) → has edges e ≡ (on a.frozen e && (ltb e (edge_count P) && (not (edge P e).combination && not (chained P))))
  edge-has e = has_meet f.frozen k.base e ∙ ap₂ ◌&&◌ (T.frozen e) (S.base e)

  record Base (e : ℕ) : Type 0 where
    low : e < edge_count P
    stands : free e ≡ true
    unchained : chained P ≡ false

  edge-base : (e : ℕ) → has edges e ≡ true → Base e
  edge-base e h =
      let x = and_parts (on a.frozen e) (ltb e (edge_count P) && (not (edge P e).combination && not (chained P))) (sym (edge-has e) ∙ h) in
      let y = and_parts (ltb e (edge_count P)) (not (edge P e).combination && not (chained P)) x.1 in
      let z = and_parts (not (edge P e).combination) (not (chained P)) y.1 in
      record { low = ltb-true e (edge_count P) y.0; stands = ap₂ ◌&&◌ x.0 z.0; unchained = not-true (chained P) z.1 }

  base-edge : chained P ≡ false → (e : ℕ) → free e ≡ true → has edges e ≡ true
  base-edge c e h =
      let x = and_parts (on a.frozen e) (not (edge P e).combination) h in
      edge-has e ∙ ap₂ ◌&&◌ x.0 (ap₂ ◌&&◌ (lt-ltb e (edge_count P) (T.edges_below e x.0)) (ap₂ ◌&&◌ x.1 (ap not c)))

  edges-low : edges < 2 ^ 64
  edges-low = few-low (edge_count P) edges S.sound.edge_limit (λ e h. (edge-base e h).low)

  -- the sets of both lists, where there is no base chain
  base_is : chained P ≡ false → (i : ℕ) → base_set P a i ≡ only (has edges i) (entry pairs i)
  unfolding base_set
  base_is c i = ⊎_elim
      (λ h. let b = edge-base i h in ap (λ (x : Bool). only x (pair P i)) b.stands ∙ sym (S.pairs i b.low) ∙ ap (λ (x : Bool). only x (entry pairs i)) (sym h))
      (λ h. ap (λ (x : Bool). only x (pair P i)) (not_so (free i) (λ e. clash (base-edge c i e) h)) ∙ ap (λ (x : Bool). only x (entry pairs i)) (sym h))
      (which (has edges i))

  -- their persons are on the roster
  edges-on : Within (union_of (entry pairs) (members edges)) k.roster
  unfolding rule_persons
  edges-on = record {
    at = λ q h.
        let w = union-has (entry pairs) edges q edges-low h in
        let l = (edge-base w.0 w.1).low in
        (subset-true (rule_persons P) k.roster S.named).at q
        ((in_union_l (union_below (edge_count P) (pair P)) _).at q ((in_below (edge_count P) (pair P) w.0 l).at q (ap (λ (m : ℕ). has m q) (sym (S.pairs w.0 l)) ∙ w.2)));
  }

  -- ---- the components by them

  abbrev own : ℕ → ℕ
  own p = close_of sets (one p)

  abbrev own_loose : ℕ → Bool
  own_loose p = loose_by (near pairs edges) (own p)

  -- a component at discretion is on the roster
  sets-on : all_of (λ s. subset s k.roster) sets ≡ true
  sets-on = pairs-inside pairs k.roster (members edges) edges-on

  loose-on : (p : ℕ) → own_loose p ≡ true → has k.roster p ≡ true
  loose-on p h = ⊎_elim (λ e. e) (λ e. clash h (ap (loose_by (near pairs edges)) (close_alone sets k.roster p sets-on e) ∙ one_tight (near pairs edges) p)) (which (has k.roster p))

  own_on : (p : ℕ) → own_loose p ≡ true → Within (own p) k.roster
  own_on p h = close_least sets (one p) k.roster (one-within p k.roster (loose-on p h)) (closed-inside sets k.roster sets-on)

  -- with a base chain there is none
  chained_tight : chained P ≡ true → (p : ℕ) → own_loose p ≡ false
  chained_tight c p =
      ap (loose_by (near pairs edges)) (close_alone sets 0 p (pairs-inside pairs 0 (members edges) (record {
        at = λ q h. let w = union-has (entry pairs) edges q edges-low h in clash c (edge-base w.0 w.1).unchained;
      })) (has-none p)) ∙ one_tight (near pairs edges) p

  closes : chained P ≡ false → (m : ℕ) → close_of (base_sets P a) m ≡ close_of sets m
  unfolding base_sets
  closes c = close_alike (base_sets P a) sets
      (λ m z. members-closed (entry pairs) edges m edges-low (λ e h.
      let same = get_or-below (edge_count P) (base_set P a) 0 e (edge-base e h).low ∙ base_is c e ∙ ap (λ (b : Bool). only b (entry pairs e)) h in
      subst (λ (s : ℕ). Takes s m) same (closed_at (base_sets P a) m e z)))
      (λ m z. closed-below (edge_count P) (base_set P a) m (λ i.
      subst (λ (s : ℕ). Takes s m) (sym (base_is c i)) (takes_only (has edges i) (entry pairs i) m (λ h. closed-members (entry pairs) edges m i edges-low z h))))

  leads : chained P ≡ false → (q : ℕ) → union_of (λ s. only (has s q) s) (base_sets P a) ≡ near pairs edges q
  unfolding base_sets near
  leads c q = union-below joined (edge_count P) (base_set P a) ∙ antisym (union_below (edge_count P) (λ i. joined (base_set P a i))) (near pairs edges q) (record { at = there }) (record { at = back })
    where
      joined : ℕ → ℕ
      joined s = only (has s q) s

      there : (r : ℕ) → has (union_below (edge_count P) (λ i. joined (base_set P a i))) r ≡ true → has (near pairs edges q) r ≡ true
      there r h =
          let w = union_find (edge_count P) (λ i. joined (base_set P a i)) r h in
          let z = sym (ap (λ (s : ℕ). has (joined s) r) (base_is c w.0)) ∙ w.2 in
          let s = only (has edges w.0) (entry pairs w.0) in
          let o = of_only (has edges w.0) (entry pairs w.0) r (of_only (has s q) s r z).1 in
          has-union_of (λ e. joined (entry pairs e)) edges w.0 r edges-low o.0 (sym (ap (λ (b : Bool). has (joined (only b (entry pairs w.0))) r) o.0) ∙ z)

      back : (r : ℕ) → has (near pairs edges q) r ≡ true → has (union_below (edge_count P) (λ i. joined (base_set P a i))) r ≡ true
      back r h =
          let w = union-has (λ e. joined (entry pairs e)) edges r edges-low h in
          (in_below (edge_count P) (λ i. joined (base_set P a i)) w.0 (edge-base w.0 w.1).low).at r
          (ap (λ (s : ℕ). has (joined s) r) (base_is c w.0 ∙ ap (λ (b : Bool). only b (entry pairs w.0)) w.1) ∙ w.2)

  loose_is : chained P ≡ false → (m : ℕ) → loose P (base_sets P a) m ≡ loose_by (near pairs edges) m
  unfolding loose loose_by clique clique_by
  loose_is c m =
      ap (λ (b : Bool). not b && (ltb 2 (size m) && not (clique (base_sets P a) m))) c
      ∙ ap (λ (g : ℕ → ℕ). ltb 2 (size m) && not (all_of (λ q. subset m (union (one q) (g q))) (members m))) (fun_ext (leads c))

  component_is : (p : ℕ) → loose_component P k.roster (base_sets P a) p ≡ only (own_loose p) (own p)
  unfolding loose_component loose
  component_is p = ⊎_elim chain free (which (chained P))
    where
      theirs : ℕ
      theirs = close_of (base_sets P a) (one p)

      none : (x : Bool) → (x && false) ≡ false
      none true = refl
      none false = refl

      known : (x y : Bool) → (y ≡ true → x ≡ true) → (x && y) ≡ y
      known true y h = refl
      known false true h = h refl
      known false false h = refl

      chain : chained P ≡ true → only (has k.roster p && loose P (base_sets P a) theirs) theirs ≡ only (own_loose p) (own p)
      chain c =
          ap (λ (b : Bool). only (has k.roster p && (not b && (ltb 2 (size theirs) && not (clique (base_sets P a) theirs)))) theirs) c
          ∙ ap (λ (b : Bool). only b theirs) (none (has k.roster p)) ∙ ap (λ (b : Bool). only b (own p)) (sym (chained_tight c p))

      free : chained P ≡ false → only (has k.roster p && loose P (base_sets P a) theirs) theirs ≡ only (own_loose p) (own p)
      free c =
          ap₂ (λ (b : Bool) (m : ℕ). only (has k.roster p && b) m) (loose_is c theirs ∙ ap (loose_by (near pairs edges)) (closes c (one p))) (closes c (one p))
          ∙ ap (λ (b : Bool). only b (own p)) (known (has k.roster p) (own_loose p) (loose-on p))

  -- ---- what the code found of them

  module _ (heads : ℕ) (parts : List ℕ) (L : LooseParts pairs edges heads parts) where
    head_loose : (h : ℕ) → has heads h ≡ true → own_loose h ≡ true
    head_loose h e = ap (loose_by (near pairs edges)) (sym (L.sound h e).0) ∙ (L.sound h e).1

    head_low : (h : ℕ) → has heads h ≡ true → h < 64
    head_low h e = ⊎_elim (λ l. l) (λ l. clash (loose-on h (head_loose h e)) (has_high 64 k.roster h S.roster l)) (lt_or_le h 64)

    -- THE COMPONENTS AT DISCRETION
    pub parts_are : PartsAre P k.roster a heads parts
    parts_are = record {
      sound = λ h e. (
        λ z. clash ((close_within sets (one h)).at h (in_one h)) (ap (λ (m : ℕ). has m h) (sym (L.sound h e).0 ∙ z) ∙ has-none h),
        (h, head_low h e, component_is h ∙ ap (λ (b : Bool). only b (own h)) (head_loose h e) ∙ sym (L.sound h e).0),
      );
      complete = λ p l n. ⊎_elim
          (λ e. let w = L.complete p e in (w.0, w.1, w.2 ∙ sym (component_is p ∙ ap (λ (b : Bool). only b (own p)) e)))
          (λ e. absurd (n (component_is p ∙ ap (λ (b : Bool). only b (own p)) e))) (which (own_loose p));
    }

    seed_is : union_of (entry parts) (members heads) ≡ discretion_seed P k.roster a
    unfolding discretion_seed loose_components
    seed_is =
        antisym (union_of (entry parts) (members heads)) (union_below 64 component) (record { at = there }) (record { at = back })
        ∙ sym (union-below (λ m. m) 64 component)
      where
        component : ℕ → ℕ
        component = loose_component P k.roster (base_sets P a)

        low : heads < 2 ^ 64
        low = few-low 64 heads (omega arith) head_low

        there : (q : ℕ) → has (union_of (entry parts) (members heads)) q ≡ true → has (union_below 64 component) q ≡ true
        there q h =
            let w = union-has (entry parts) heads q low h in
            let c = (parts_are.sound w.0 w.1).1 in
            (in_below 64 component c.0 c.1).at q (ap (λ (m : ℕ). has m q) c.2 ∙ w.2)

        back : (q : ℕ) → has (union_below 64 component) q ≡ true → has (union_of (entry parts) (members heads)) q ≡ true
        back q h =
            let w = union_find 64 component q h in
            let c = parts_are.complete w.0 w.1 (λ z. clash w.2 (ap (λ (m : ℕ). has m q) z ∙ has-none q)) in
            has-union_of (entry parts) heads c.0 q low c.1 (ap (λ (m : ℕ). has m q) c.2 ∙ w.2)

    seed_on : (q : ℕ) → has (union_of (entry parts) (members heads)) q ≡ true → has k.roster q ≡ true
    seed_on q h =
        let w = union-has (entry parts) heads q (few-low 64 heads (omega arith) head_low) h in
        (own_on w.0 (head_loose w.0 w.1)).at q (ap (λ (m : ℕ). has m q) (sym (L.sound w.0 w.1).0) ∙ w.2)

    -- THE MARKS OF DISCRETION
    pub discretion_is : union_of (entry (get_or t 15 [])) (members (union_of (entry parts) (members heads))) ≡ (marks_of P k.roster I a).discretion
    unfolding marks_of
    discretion_is =
        let seed = union_of (entry parts) (members heads) in
        let low : seed < 2 ^ 64 = set-low 64 seed (λ p l. not_so (has seed p) (λ e. clash (seed_on p e) (has_high 64 k.roster p S.roster l))) in
        union-members (entry (get_or t 15 [])) (λ p. spread P I (one p)) seed low (λ p h. S.spreads p (seed_on p h))
        ∙ sym (spread-members P I seed low) ∙ ap (spread P I) seed_is
