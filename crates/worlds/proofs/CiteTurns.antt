-- A turn of each loop over rules: what the code adds for one rule is what the rule cites in each block.
use mathlib.Core.Path.{◌≡◌, refl, sym, ap, ap₂, ◌∙◌, subst}
use mathlib.Core.Bool.{Bool, true, false, cond, not, ◌&&◌, ◌||◌, true≢false}
use mathlib.Core.Logic.{⊎_elim}
use mathlib.Core.List.{List, ◌∷◌}
use Prim.Native.Nat.{ℕ, ◌^◌, ◌<◌}
use lib.ListN.{length, set, get_or}
use lib.Seq.{get_or-set_same, get_or-set_other}
use lib.Dec.{eqb}
use lib.Count.{count_trailing_zeros}
use borrow.Author.Tests.{eqb-true, eqb-false, eq-eqb, ne_eqb}
use Rattle.sets.specs.paper.Sets.{has, union, meets, subset, only, lowest, members}
use Rattle.sets.proofs.SetLaws.{has-none, has-union, empty, in_union_l, in_union_r, ext, and_parts, subset-true}
use Rattle.sets.proofs.Local.{which}
use Rattle.sets.proofs.UnionLaws.{union-none}
use Rattle.worlds.specs.code.Over.{entry}
use Rattle.worlds.specs.code.Blocks.{Parted}
use Rattle.worlds.specs.code.Citing.{CitesIn, far, CitedFor}
use Rattle.sets.proofs.TurnLaws.{members-next, members-none}
use Rattle.worlds.proofs.CiteLaws.{both_ways, none_of, meets_in, meets_of, lowest_in, nobody, cites-none, cites-add, cites-both, cites_as}

-- ---- tests of sets

pub low_of : (s q : ℕ) → (q ≡ lowest s) × (q < 64) → has s q ≡ true
low_of s q h = ap (has s) h.0 ∙ lowest_in s (subst (λ (x : ℕ). x < 64) h.0 h.1)

pub meets-sym : (a b : ℕ) → meets a b ≡ meets b a
meets-sym a b =
    both_ways (meets a b) (meets b a)
    (λ e. let w = meets_of a b e in meets_in b a w.0 w.2 w.1)
    (λ e. let w = meets_of b a e in meets_in a b w.0 w.2 w.1)

pub meets-none : (a b : ℕ) → a ≡ 0 → meets a b ≡ false
meets-none a b e = none_of (meets a b) (λ h. let w = meets_of a b h in true≢false (sym w.1 ∙ ap (λ (x : ℕ). has x w.0) e ∙ has-none w.0))

none-low : lowest 0 ≡ 64
unfolding lowest count_trailing_zeros
none-low = refl

-- ---- an edge within a block

abbrev pub edge-cites : ℕ → ℕ → ℕ → ℕ
edge-cites pair what b = only (meets pair b && subset pair b) what

module _ (blocks cited : List ℕ) (pair q what : ℕ) where
  pub edge-filled : (q ≡ lowest pair) × (q < 64) → subset pair (entry blocks q) ≡ true → entry blocks q ≡ 0 → ⊥
  edge-filled low h e =
      true≢false (sym ((subset-true pair (entry blocks q) h).at q (low_of pair q low)) ∙ ap (λ (x : ℕ). has x q) e ∙ has-none q)

  -- who cites an edge is the block of its lower end
  edge_here : (q ≡ lowest pair) × (q < 64) → (live : ℕ) → Parted live blocks → (p : ℕ) → (meets pair (entry blocks p) && subset pair (entry blocks p)) ≡ true
      → entry blocks q ≡ entry blocks p
  edge_here low live B p h =
      B.agreed p q ((subset-true pair (entry blocks p) (and_parts (meets pair (entry blocks p)) (subset pair (entry blocks p)) h).1).at q (low_of pair q low))

  pub edge_added : (k v : ℕ) → length cited ≡ 64 → (q ≡ lowest pair) × (q < 64) → subset pair (entry blocks q) ≡ true → (k ≡ lowest (entry blocks q)) × (k < 64)
      → v ≡ union (entry cited k) what → CitesIn blocks (edge-cites pair what) cited (set cited k v)
  edge_added k v long low h head e =
      cites-add blocks cited q k v what (λ b. meets pair b && subset pair b) long head e (edge-filled low h)
      (λ live B l. ap₂ ◌&&◌ (meets_in pair (entry blocks q) q (low_of pair q low) (B.self q l)) h)
      (λ live B p l x. edge_here low live B p x)

  pub edge_apart : (q ≡ lowest pair) × (q < 64) → subset pair (entry blocks q) ≡ false → CitesIn blocks (edge-cites pair what) cited cited
  edge_apart low h =
      cites-none blocks (edge-cites pair what) cited (λ live fits B p l.
      ap (λ (x : Bool). only x what) (none_of (meets pair (entry blocks p) && subset pair (entry blocks p)) (λ x.
      true≢false (sym (and_parts (meets pair (entry blocks p)) (subset pair (entry blocks p)) x).1 ∙ ap (subset pair) (sym (edge_here low live B p x)) ∙ h))))

  pub edge_none : pair ≡ 0 → CitesIn blocks (edge-cites pair what) cited cited
  edge_none e = cites-none blocks (edge-cites pair what) cited (λ live fits B p l. ap (λ (x : Bool). only (x && subset pair (entry blocks p)) what) (meets-none pair (entry blocks p) e))

-- ---- an attachment with its anchor and a member in the block

abbrev pub anchor-cites : ℕ → ℕ → ℕ → ℕ → ℕ
anchor-cites anchor movers what b = only (has b (lowest anchor) && meets movers b) what

module _ (blocks cited : List ℕ) (anchor movers q what : ℕ) where
  anchor-here : (q ≡ lowest anchor) × (q < 64) → (live : ℕ) → Parted live blocks → (p : ℕ) → (has (entry blocks p) (lowest anchor) && meets movers (entry blocks p)) ≡ true
      → entry blocks q ≡ entry blocks p
  anchor-here low live B p h =
      B.agreed p q (ap (has (entry blocks p)) low.0 ∙ (and_parts (has (entry blocks p) (lowest anchor)) (meets movers (entry blocks p)) h).0)

  pub anchor-filled : meets (entry blocks q) movers ≡ true → entry blocks q ≡ 0 → ⊥
  anchor-filled h e = true≢false (sym h ∙ meets-none (entry blocks q) movers e)

  pub anchor_added : (k v : ℕ) → length cited ≡ 64 → (q ≡ lowest anchor) × (q < 64) → meets (entry blocks q) movers ≡ true → (k ≡ lowest (entry blocks q)) × (k < 64)
      → v ≡ union (entry cited k) what → CitesIn blocks (anchor-cites anchor movers what) cited (set cited k v)
  anchor_added k v long low h head e =
      cites-add blocks cited q k v what (λ b. has b (lowest anchor) && meets movers b) long head e (anchor-filled h)
      (λ live B l. ap₂ ◌&&◌ (ap (has (entry blocks q)) (sym low.0) ∙ B.self q l) (meets-sym movers (entry blocks q) ∙ h))
      (λ live B p l x. anchor-here low live B p x)

  pub anchor_apart : (q ≡ lowest anchor) × (q < 64) → meets (entry blocks q) movers ≡ false → CitesIn blocks (anchor-cites anchor movers what) cited cited
  anchor_apart low h =
      cites-none blocks (anchor-cites anchor movers what) cited (λ live fits B p l.
      ap (λ (x : Bool). only x what) (none_of (has (entry blocks p) (lowest anchor) && meets movers (entry blocks p)) (λ x.
      true≢false (sym (and_parts (has (entry blocks p) (lowest anchor)) (meets movers (entry blocks p)) x).1
      ∙ meets-sym movers (entry blocks p) ∙ ap (λ (b : ℕ). meets b movers) (sym (anchor-here low live B p x)) ∙ h))))

  pub anchor-none : anchor ≡ 0 → CitesIn blocks (anchor-cites anchor movers what) cited cited
  anchor-none e =
      cites-none blocks (anchor-cites anchor movers what) cited (λ live fits B p l.
      ap (λ (x : Bool). only (x && meets movers (entry blocks p)) what) (ap (has (entry blocks p)) (ap lowest e ∙ none-low) ∙ nobody blocks live fits B p))

-- ---- at one person

module _ (blocks cited : List ℕ) (p what : ℕ) where
  pub one_added : (k v : ℕ) → length cited ≡ 64 → (k ≡ lowest (entry blocks p)) × (k < 64) → v ≡ union (entry cited k) what → (entry blocks p ≡ 0 → ⊥)
      → CitesIn blocks (λ b. only (has b p) what) cited (set cited k v)
  one_added k v long head e n = cites-add blocks cited p k v what (λ b. has b p) long head e n (λ live B l. B.self p l) (λ live B q l x. B.agreed q p x)

  pub one_none : entry blocks p ≡ 0 → CitesIn blocks (λ b. only (has b p) what) cited cited
  one_none e = cites-none blocks (λ b. only (has b p) what) cited (λ live fits B q l.
      ap (λ (x : Bool). only x what) (none_of (has (entry blocks q) p) (λ h. true≢false (sym h ∙ ap (λ (x : ℕ). has x p) (sym (B.agreed q p h) ∙ e) ∙ has-none p))))

-- ---- a rule that names some persons

pub named_none : (blocks cited : List ℕ) (held what : ℕ) → held ≡ 0 → CitesIn blocks (λ b. only (meets held b) what) cited cited
named_none blocks cited held what e = cites-none blocks (λ b. only (meets held b) what) cited (λ live fits B p l. ap (λ (x : Bool). only x what) (meets-none held (entry blocks p) e))

-- ---- the two ends of a frozen edge

far-next : (s more d : ℕ) → members s ≡ lowest s ∷ members more → far s ≡ get_or (members more) 0 (lowest s)
unfolding far
far-next s more d e = ap (λ (xs : List ℕ). get_or xs 1 (lowest s)) e

-- the far end where there are two
pub far_other : (s more r : ℕ) → members s ≡ lowest s ∷ members more → more < 2 ^ 64 → (more ≡ 0 → ⊥) → r ≡ lowest more → r ≡ far s
far_other s more r e fits n z = z ∙ sym (far-next s more r e ∙ ap (λ (xs : List ℕ). get_or xs 0 (lowest s)) (members-next more fits n))

-- and where there is one
pub far-same : (s more r : ℕ) → members s ≡ lowest s ∷ members more → more ≡ 0 → r ≡ lowest s → r ≡ far s
far-same s more r e n z = z ∙ sym (far-next s more r e ∙ ap (λ (xs : List ℕ). get_or xs 0 (lowest s)) (members-none more n))

none-far : far 0 ≡ 64
unfolding far members Rattle.sets.specs.paper.Sets.members_from lowest count_trailing_zeros
none-far = refl

abbrev pub ends_cite : ℕ → (ℕ → ℕ) → ℕ → ℕ
ends_cite pair own b = union (only (has b (lowest pair)) (own (far pair))) (only (has b (far pair)) (own (lowest pair)))

module _ (blocks : List ℕ) (pair : ℕ) (own : ℕ → ℕ) where
  pub ends_added : (l r : ℕ) {a b c : List ℕ} → l ≡ lowest pair → r ≡ far pair → CitesIn blocks (λ s. only (has s l) (own r)) a b
      → CitesIn blocks (λ s. only (has s r) (own l)) b c → CitesIn blocks (ends_cite pair own) a c
  ends_added l r e k C D = cites_as (ends_cite pair own) (λ s. ap₂ union (is s e k) (is s k e)) (cites-both C D)
    where
      is : (s : ℕ) {x y m f : ℕ} → x ≡ m → y ≡ f → only (has s x) (own y) ≡ only (has s m) (own f)
      is s u v = ap₂ (λ (i j : ℕ). only (has s i) (own j)) u v

  -- ends that no applied cut holds
  pub ends_idle : (l r : ℕ) (cited : List ℕ) → l ≡ lowest pair → r ≡ far pair → union (own l) (own r) ≡ 0 → CitesIn blocks (ends_cite pair own) cited cited
  ends_idle l r cited e k z = cites-none blocks (ends_cite pair own) cited (λ live fits B p h.
      ap₂ (λ (x y : ℕ). union (only (has (entry blocks p) (lowest pair)) x) (only (has (entry blocks p) (far pair)) y)) (ap own (sym k) ∙ nothing (own r) (λ q. (in_union_r (own l) (own r)).at q)) (ap own (sym e) ∙ nothing (own l) (λ q. (in_union_l (own l) (own r)).at q))
      ∙ ap₂ union (only_nobody (has (entry blocks p) (lowest pair))) (only_nobody (has (entry blocks p) (far pair))) ∙ union-none 0)
    where
      nothing : (m : ℕ) → ((q : ℕ) → has m q ≡ true → has (union (own l) (own r)) q ≡ true) → m ≡ 0
      nothing m h = empty m (λ q x. true≢false (sym (h q x) ∙ ap (λ (y : ℕ). has y q) z ∙ has-none q))

      only_nobody : (b : Bool) → only b 0 ≡ 0
      only_nobody true = refl
      only_nobody false = refl

  pub ends-none : (cited : List ℕ) → pair ≡ 0 → CitesIn blocks (ends_cite pair own) cited cited
  ends-none cited e = cites-none blocks (ends_cite pair own) cited (λ live fits B p l.
      let out = nobody blocks live fits B p in
      ap₂ (λ (x y : Bool). union (only x (own (far pair))) (only y (own (lowest pair))))
      (ap (has (entry blocks p)) (ap lowest e ∙ none-low) ∙ out) (ap (has (entry blocks p)) (ap far e ∙ none-far) ∙ out) ∙ union-none 0)

-- ---- handing out, to the persons of m

module _ (blocks cited own : List ℕ) where
  abbrev pub handed : ℕ → List ℕ → ℕ → ℕ
  handed m table p =
      cond (has m p && not (eqb (entry blocks p) 0)) (union (union (entry table p) (entry cited (lowest (entry blocks p)))) (entry own p)) (entry table p)

  -- adding twice is adding once
  twice : (a b : ℕ) (t : Bool) (x : ℕ) → cond t (union (union (union (union x a) b) a) b) (union (union x a) b) ≡ union (union x a) b
  twice a b false x = refl
  twice a b true x = ext _ _ (λ q.
      deep (union (union x a) b) q ∙ ap (λ (z : Bool). (z || has a q) || has b q) (deep x q) ∙ same (has x q) (has a q) (has b q) ∙ sym (deep x q))
    where
      deep : (y q : ℕ) → has (union (union y a) b) q ≡ ((has y q || has a q) || has b q)
      deep y q = has-union (union y a) b q ∙ ap (λ (z : Bool). z || has b q) (has-union y a q)

      same : (x y z : Bool) → ((((x || y) || z) || y) || z) ≡ ((x || y) || z)
      same true y z = refl
      same false true z = refl
      same false false true = refl
      same false false false = refl

  module _ (m r t : ℕ) (table : List ℕ) (turn : (i : ℕ) → has m i ≡ (eqb t i || has r i)) where
    -- a person who is not the one of the turn
    other : (p : ℕ) → eqb t p ≡ false → handed r table p ≡ handed m table p
    other p e = ap (λ (x : Bool). cond (x && not (eqb (entry blocks p) 0)) (union (union (entry table p) (entry cited (lowest (entry blocks p)))) (entry own p)) (entry table p))
        (sym (turn p ∙ ap (λ (x : Bool). x || has r p) e))

    pub hand_skip : entry blocks t ≡ 0 → (p : ℕ) → handed r table p ≡ handed m table p
    hand_skip z p = ⊎_elim none (other p) (which (eqb t p))
      where
        by : (b : Bool) → not (eqb (entry blocks p) 0) ≡ false
            → cond (b && not (eqb (entry blocks p) 0)) (union (union (entry table p) (entry cited (lowest (entry blocks p)))) (entry own p)) (entry table p) ≡ entry table p
        by true e = ap (λ (x : Bool). cond x (union (union (entry table p) (entry cited (lowest (entry blocks p)))) (entry own p)) (entry table p)) e
        by false e = refl

        none : eqb t p ≡ true → handed r table p ≡ handed m table p
        none e =
            let out = ap not (eq-eqb (entry blocks p) 0 (ap (entry blocks) (sym (eqb-true t p e)) ∙ z)) in
            by (has r p) out ∙ sym (by (has m p) out)

    pub hand_next : (v : ℕ) → t < length table → (entry blocks t ≡ 0 → ⊥) → v ≡ union (union (entry table t) (entry cited (lowest (entry blocks t)))) (entry own t)
        → (p : ℕ) → handed r (set table t v) p ≡ handed m table p
    hand_next v l n k p = ⊎_elim here (λ e. ap (λ (x : ℕ). cond (has r p && not (eqb (entry blocks p) 0)) (union (union x (entry cited (lowest (entry blocks p)))) (entry own p)) x)
        (get_or-set_other table t p v 0 (λ z. eqb-false t p e (sym z))) ∙ other p e) (which (eqb t p))
      where
        here : eqb t p ≡ true → handed r (set table t v) p ≡ handed m table p
        here e = subst (λ (j : ℕ). handed r (set table t v) j ≡ handed m table j) (eqb-true t p e)
            (ap (λ (x : ℕ). cond (has r t && not (eqb (entry blocks t) 0)) (union (union x (entry cited (lowest (entry blocks t)))) (entry own t)) x) (get_or-set_same table t v 0 l ∙ k)
            ∙ twice (entry cited (lowest (entry blocks t))) (entry own t) (has r t && not (eqb (entry blocks t) 0)) (entry table t)
            ∙ sym (ap₂ (λ (x y : Bool). cond (x && not y) (union (union (entry table t) (entry cited (lowest (entry blocks t)))) (entry own t)) (entry table t))
            (turn t ∙ ap (λ (x : Bool). x || has r t) (eq-eqb t t refl)) (ne_eqb (entry blocks t) 0 n)))

  pub hand_end : (m : ℕ) (table : List ℕ) → m ≡ 0 → (p : ℕ) → handed m table p ≡ entry table p
  hand_end m table e p = ap (λ (x : Bool). cond (x && not (eqb (entry blocks p) 0)) (union (union (entry table p) (entry cited (lowest (entry blocks p)))) (entry own p)) (entry table p))
      (ap (λ (x : ℕ). has x p) e ∙ has-none p)

-- the others keep what they have
pub kept : {blocks cited own : List ℕ} {persons : ℕ} {before after : List ℕ} → CitedFor blocks cited own persons before after → (p : ℕ) → has persons p ≡ false
    → entry after p ≡ entry before p
kept {blocks} {cited} {own} {persons} {before} {after} H p e =
    H.at p
    ∙ ap (λ (x : Bool). cond (x && not (eqb (entry blocks p) 0)) (union (union (entry before p) (entry cited (lowest (entry blocks p)))) (entry own p)) (entry before p)) e
