-- Who is placed where before attachments: cuts as blocks and the rest joined by frozen edges are the blocks of step 6; and what a world's state says of a roster person.
use mathlib.Core.Path.{◌≡◌, refl, sym, ap, ap₂, ◌∙◌, subst}
use mathlib.Core.Bool.{Bool, true, false, ◌&&◌, ◌||◌, not, cond, and-true, and-false, or-true, true≢false, false≢true}
use mathlib.Core.Logic.{⊎_elim}
use mathlib.Core.List.{List, [], ◌∷◌, map}
use Prim.Native.Nat.{ℕ, zero, suc, ◌+◌, ◌<◌, ◌^◌}
use native.Mathlib.Nat.{lt_of_le_of_lt, le_of_suc-le-suc}
use native.Mathlib.Omega.{arith}
use lib.Bits.{bit_and, xor_lt, and_le_l}
use lib.Dec.{eqb}
use lib.ListN.{get_or}
use borrow.Author.Tests.{eqb-true, eq-eqb}
use Rattle.sets.specs.paper.Sets.{has, one, union, meet, minus, only, subset, members, numbers, below, close_of, all_of, any_of, union_of}
use Rattle.records.specs.paper.Plan.{Plan}
use Rattle.sets.proofs.SetLaws.{Within, has-none, has-union, has_meet, has-minus, antisym, in_meet, of_meet, in_minus, of_minus, within-subset, and_parts}
use Rattle.sets.proofs.Closing.{Takes, Closed, close_same}
use Rattle.sets.proofs.BelowLaws.{of_only, closed-below}
use Rattle.expressions.specs.paper.Rules.{edge_count, cut, pair}
use Rattle.expressions.specs.paper.Nodes.{on}
use Rattle.expressions.specs.paper.Variables.{Influence}
use Rattle.worlds.specs.paper.Active.{Active}
use Rattle.worlds.specs.paper.World as paper
use Rattle.worlds.specs.paper.World.{block_of, marked, marks_of, cut_members, rest_sets, kept_cuts, world_of, after_marks}
use Rattle.worlds.specs.paper.View.{View, role_of, citations, view}
use Rattle.worlds.specs.code.Over.{entry, Marked}
use Rattle.worlds.specs.code.Classes.{ClassesBy, Joins, joinable}
use Rattle.worlds.specs.code.Tables.{Stands, TellsActive}
use Rattle.worlds.specs.code.Settled.{SettledAs}
use Rattle.worlds.specs.code.Blocks.{CutInto, Blanked, Frozen, Cut, Attached, Placing, start_of, SeenAt, SeenBy}
use Rattle.worlds.specs.declared.tables.Common.{Common}
use Rattle.worlds.specs.declared.tables.Active as told
use Rattle.worlds.specs.declared.tables.Settled.{Settled}
use Rattle.worlds.specs.declared.world.World.{World}
use Rattle.sets.proofs.TurnLaws.{has-members, union-has, has-union_of}
use Rattle.worlds.proofs.ClassLaws.{close_alike}
use Rattle.worlds.proofs.FirstBlocks.{applied, applied-parts, first, cuts-same, applied_to_lem, of_cuts, in_cuts, first_by, first_is}
use Rattle.worlds.proofs.Partition.{not_set, cut_on, partition}

-- ---- closed under the sets of some numbers

closed_at : (f : ℕ → ℕ) (xs : List ℕ) (n i : ℕ) → Closed (map f xs) n → any_of (λ (x : ℕ). eqb x i) xs ≡ true → Takes (f i) n
unfolding any_of
closed_at f [] n i c e = absurd (false≢true e)
closed_at f (x ∷ xs) n i c e = pick (eqb x i) refl e (closed_at f xs n i c.1)
  where
    pick : (b : Bool) → eqb x i ≡ b → (b || any_of (λ (y : ℕ). eqb y i) xs) ≡ true → (any_of (λ (y : ℕ). eqb y i) xs ≡ true → Takes (f i) n) → Takes (f i) n
    pick true z e ih = subst (λ (j : ℕ). Takes (f j) n) (eqb-true x i z) c.0
    pick false z e ih = ih e

closed-each : (f : ℕ → ℕ) (xs : List ℕ) (n : ℕ) → ((i : ℕ) → any_of (λ (x : ℕ). eqb x i) xs ≡ true → Takes (f i) n) → Closed (map f xs) n
unfolding any_of
closed-each f [] n h = tt
closed-each f (x ∷ xs) n h = (
  h x (ap (λ (b : Bool). b || any_of (λ (y : ℕ). eqb y x) xs) (eq-eqb x x refl)),
  closed-each f xs n (λ i e. h i (ap (λ (b : Bool). eqb x i || b) e ∙ or-true (eqb x i))),
)

closed-below_at : (n : ℕ) (f : ℕ → ℕ) (m i : ℕ) → Closed (below n f) m → i < n → Takes (f i) m
unfolding below numbers
closed-below_at n f m i c l = subst (λ (j : ℕ). Takes (f j) m) (let z : 0 + i ≡ i = omega arith in z) (from n 0 i c l)
  where
    from : (n k i : ℕ) → Closed (map f (numbers n k)) m → i < n → Takes (f (k + i)) m
    from zero k i c l = absurd (omega arith)
    from (suc n) k zero c l = subst (λ (j : ℕ). Takes (f j) m) (let z : k ≡ k + 0 = omega arith in z) c.0
    from (suc n) k (suc i) c l = subst (λ (j : ℕ). Takes (f j) m) (let z : suc k + i ≡ k + suc i = omega arith in z) (from n (suc k) i c.1 (le_of_suc-le-suc l))

-- ---- sets

-- of persons of the roster those who are placed: those who are not marked
meet_live : (m roster marks : ℕ) → Within m roster → meet m (minus roster marks) ≡ minus m marks
meet_live m roster marks w =
    antisym (meet m (minus roster marks)) (minus m marks)
    (record { at = λ q h. let t = of_meet m (minus roster marks) q h in in_minus m marks q t.0 (of_minus roster marks q t.1).1 })
    (record { at = λ q h. let t = of_minus m marks q h in in_meet m (minus roster marks) q t.0 (in_minus roster marks q (w.at q t.0) t.1) })

minus-few : (k a b : ℕ) → a < 2 ^ k → minus a b < 2 ^ k
unfolding minus
minus-few k a b h = xor_lt k a (bit_and a b) h (lt_of_le_of_lt (and_le_l a b) h)

-- what is joined lies within
inside_all : (pairs : List ℕ) (rest : ℕ) (es : List ℕ) → all_of (λ s. subset s rest) (map (joinable pairs rest) es) ≡ true
unfolding all_of
inside_all pairs rest [] = refl
inside_all pairs rest (e ∷ es) = ap₂ ◌&&◌ (own (subset (entry pairs e) rest) refl) (inside_all pairs rest es)
  where
    own : (b : Bool) → subset (entry pairs e) rest ≡ b → subset (only b (entry pairs e)) rest ≡ true
    own true z = z
    own false z = within-subset 0 rest (record { at = λ q h. absurd (true≢false (sym h ∙ has-none q)) })

-- ---- the blocks of step 6

-- masks and rows that say what the lists and the plan say
record Told (P : Plan) (a : Active) (kept : List Bool) (frozen cuts : ℕ) (pairs table : List ℕ) : Type 0 where
  few_edges : frozen < 2 ^ 64
  few_cuts : cuts < 2 ^ 64
  edges : (e : ℕ) → has frozen e ≡ on a.frozen e
  ends : (e : ℕ) → on a.frozen e ≡ true → (e < edge_count P) × (entry pairs e ≡ pair P e)
  applies : (c : ℕ) → has cuts c ≡ on (applied P a kept) c
  named : (c : ℕ) → on (applied P a kept) c ≡ true → entry table c ≡ (cut P c).members

module _ (P : Plan) (roster marks : ℕ) (a : Active) (kept : List Bool) (fits : roster < 2 ^ 64) (inside : (c : ℕ) → Within (cut P c).members roster)
    (frozen cuts : ℕ) (pairs table : List ℕ) (T : Told P a kept frozen cuts pairs table) where
  abbrev live : ℕ
  live = minus roster marks

  abbrev held : ℕ
  held = cut_members P (applied P a kept)

  abbrev rest : ℕ
  rest = minus live held

  -- the placed members of a cut
  abbrev part : ℕ → ℕ
  part c = meet (entry table c) live

  part_is : (c : ℕ) → on (applied P a kept) c ≡ true → part c ≡ minus (cut P c).members marks
  part_is c x = ap (λ (m : ℕ). meet m live) (T.named c x) ∙ meet_live (cut P c).members roster marks (inside c)

  of_part : (c p : ℕ) → has cuts c ≡ true → has (part c) p ≡ true → (on (applied P a kept) c ≡ true) × (has (cut P c).members p ≡ true)
  of_part c p x h =
      let y = sym (T.applies c) ∙ x in
      (y, (of_minus (cut P c).members marks p (ap (λ (m : ℕ). has m p) (sym (part_is c y)) ∙ h)).0)

  in_part : (c p : ℕ) → on (applied P a kept) c ≡ true → has live p ≡ true → has (cut P c).members p ≡ true → has (part c) p ≡ true
  in_part c p y l h = ap (λ (m : ℕ). has m p) (part_is c y) ∙ in_minus (cut P c).members marks p h (of_minus roster marks p l).1

  rest_is : minus live (union_of part (members cuts)) ≡ rest
  rest_is =
      antisym (minus live (union_of part (members cuts))) rest
      (record {
        at = λ q h.
            let t = of_minus live (union_of part (members cuts)) q h in
            in_minus live held q t.0 (not_set (has held q) (λ e.
            let r = of_cuts P a kept q e in
            true≢false (sym (has-union_of part cuts r.0 q T.few_cuts (T.applies r.0 ∙ r.1) (in_part r.0 q r.1 t.0 r.2)) ∙ t.1)));
      })
      (record {
        at = λ q h.
            let t = of_minus live held q h in
            in_minus live (union_of part (members cuts)) q t.0 (not_set (has (union_of part (members cuts)) q) (λ e.
            let r = union-has part cuts q T.few_cuts e in
            let y = of_part r.0 q r.1 r.2 in
            true≢false (sym ((in_cuts P a kept r.0 y.0).at q y.1) ∙ t.1)));
      })

  -- the frozen edges of the rest, from the masks and from the lists
  abbrev listed : ℕ → ℕ
  listed i = only (on a.frozen i && subset (pair P i) rest) (pair P i)

  abbrev joins : List ℕ
  joins = map (joinable pairs rest) (members frozen)

  joinable_is : (i : ℕ) → on a.frozen i ≡ true → joinable pairs rest i ≡ listed i
  joinable_is i e =
      ap (λ (s : ℕ). only (subset s rest) s) (T.ends i e).1 ∙ sym (ap (λ (b : Bool). only (b && subset (pair P i) rest) (pair P i)) e)

  alike : (m : ℕ) → close_of joins m ≡ close_of (rest_sets P a rest) m
  unfolding rest_sets
  alike m = close_alike joins (below (edge_count P) listed) to from m
    where
      to : (n : ℕ) → Closed joins n → Closed (below (edge_count P) listed) n
      to n c = closed-below (edge_count P) listed n (λ i p h.
          let e = (and_parts (on a.frozen i) (subset (pair P i) rest) (of_only (on a.frozen i && subset (pair P i) rest) (pair P i) p h).0).0 in
          subst (λ (s : ℕ). Takes s n) (joinable_is i e) (closed_at (joinable pairs rest) (members frozen) n i c (sym (has-members frozen i T.few_edges) ∙ T.edges i ∙ e)) p h)

      from : (n : ℕ) → Closed (below (edge_count P) listed) n → Closed joins n
      from n c = closed-each (joinable pairs rest) (members frozen) n (λ i h.
          let e = sym (T.edges i) ∙ has-members frozen i T.few_edges ∙ h in
          subst (λ (s : ℕ). Takes s n) (sym (joinable_is i e)) (closed-below_at (edge_count P) listed n i c (T.ends i e).0))

  module _ (one_each after-cuts after : List ℕ) (left : ℕ) (alone : (p : ℕ) → entry one_each p ≡ cond (has live p) (one p) 0)
      (C : CutInto table cuts live one_each after-cuts left) (J : Joins (map (joinable pairs left) (members frozen)) after-cuts after) where
    join : Joins joins after-cuts after
    join = subst (λ (r : ℕ). Joins (map (joinable pairs r) (members frozen)) after-cuts after) (C.left ∙ rest_is) J

    -- who is placed in no cut
    uncut : (p : ℕ) → has held p ≡ false → (c : ℕ) → has cuts c ≡ true → has (part c) p ≡ false
    uncut p e c x = not_set (has (part c) p) (λ h. let y = of_part c p x h in true≢false (sym ((in_cuts P a kept c y.0).at p y.1) ∙ e))

    by : ClassesBy rest [] after-cuts
    unfolding all_of
    by = record {
      few = minus-few 64 live held (minus-few 64 roster marks fits);
      inside = refl;
      at = λ p h.
          let t = of_minus live held p h in
          C.others p (uncut p t.1) ∙ alone p ∙ ap (λ (b : Bool). cond b (one p) 0) t.0 ∙ sym (close_same [] (one p) tt);
    }

    within : all_of (λ s. subset s rest) joins ≡ true
    within = inside_all pairs rest (members frozen)

    stays : (p : ℕ) → has rest p ≡ false → entry after p ≡ entry after-cuts p
    stays p e = join.others rest [] within by p e

    placed_first : (p : ℕ) → entry after p ≡ first P roster marks a kept fits inside p
    placed_first p = pick (has live p) (has held p) refl refl
      where
        pick : (l c : Bool) → has live p ≡ l → has held p ≡ c → entry after p ≡ first P roster marks a kept fits inside p
        pick false c x y =
            stays p (not_set (has rest p) (λ h. true≢false (sym (of_minus live held p h).0 ∙ x)))
            ∙ C.others p (λ d z. not_set (has (part d) p) (λ h. true≢false (sym (of_meet (entry table d) live p h).1 ∙ x)))
            ∙ alone p ∙ ap (λ (b : Bool). cond b (one p) 0) x
            ∙ sym (first_by P roster marks a kept fits inside p false c x y)
        pick true true x y =
            let r = of_cuts P a kept p y in
            let c = r.0 in
            stays p (not_set (has rest p) (λ h. true≢false (sym y ∙ (of_minus live held p h).1)))
            ∙ C.held p c (T.applies c ∙ r.1) (in_part c p r.1 x r.2) (λ d z h.
            let w = of_part d p z h in
            part_is d w.0 ∙ ap (λ (m : ℕ). minus m marks) (cuts-same P a kept d c p w.0 r.1 w.1 r.2) ∙ sym (part_is c r.1))
            ∙ part_is c r.1 ∙ ap (λ (m : ℕ). minus m marks) (sym (applied_to_lem P a kept c p r.1 r.2))
            ∙ sym (first_by P roster marks a kept fits inside p true true x y)
        pick true false x y =
            (join.classes rest [] within by).at p (in_minus live held p x y) ∙ alike (one p) ∙ sym (first_by P roster marks a kept fits inside p true false x y)

-- the state that step 6 makes
pub first-placed : (P : Plan) (I : Influence) (k : Common) (a : Active) (t : List (List ℕ)) (frozen cuts placed : ℕ) → frozen < 2 ^ 64 → cuts < 2 ^ 64
    → Placing P I k a t frozen cuts placed → (one_each after-cuts after : List ℕ) (left : ℕ) → ((p : ℕ) → entry one_each p ≡ cond (has placed p) (one p) 0)
    → CutInto (get_or t 1 []) cuts placed one_each after-cuts left → Joins (map (joinable (get_or t 0 []) left) (members frozen)) after-cuts after
    → (p : ℕ) → entry after p ≡ block_of (start_of P k.roster I a) p
unfolding world_of after_marks start_of
first-placed P I k a t frozen cuts placed few few' S one_each after-cuts after left alone C J p =
    placed_first P k.roster marks a kept fits inside frozen cuts (get_or t 0 []) (get_or t 1 []) told one_each after-cuts after left
    (λ q. alone q ∙ ap (λ (m : ℕ). cond (has m q) (one q) 0) S.unmarked)
    (subst (λ (m : ℕ). CutInto (get_or t 1 []) cuts m one_each after-cuts left) S.unmarked C) J p
    ∙ sym (first_is P k.roster marks a kept fits inside p)
  where
    marks : ℕ
    marks = marked (marks_of P k.roster I a)

    kept : List Bool
    kept = kept_cuts P a

    fits : k.roster < 2 ^ 64
    fits = S.stands.roster

    inside : (c : ℕ) → Within (cut P c).members k.roster
    inside = cut_on P k.roster S.stands.named

    told : Told P a kept frozen cuts (get_or t 0 []) (get_or t 1 [])
    told = record {
      few_edges = few;
      few_cuts = few';
      edges = S.edges;
      ends = λ e h. (S.below e h, S.stands.pairs e (S.below e h));
      applies = S.cuts;
      named = λ c h. S.stands.members c (applied-parts P a kept c h).0;
    }

-- ---- what the state says of a roster person

-- overlap's mark over discretion's, and no mark without either
kind-marked : (d o : Bool) → (d || o) ≡ true → cond {A = ℕ} o 3 (cond d 4 0) ≡ cond o 3 4
kind-marked d true e = refl
kind-marked true false e = refl
kind-marked false false e = absurd (false≢true e)

kind-unmarked : (d o : Bool) → (d || o) ≡ false → cond {A = ℕ} o 3 (cond d 4 0) ≡ 0
kind-unmarked true o e = absurd (true≢false e)
kind-unmarked false true e = absurd (true≢false e)
kind-unmarked false false e = refl

module _ (P : Plan) (w : paper.World) (p : ℕ) where
  abbrev marks : ℕ
  marks = marked w.marks

  abbrev out : View
  out = record { block = 0; role = 0; kind = cond (has w.marks.overlap p) 3 4; citations = 0 }

  abbrev in_block_lem : View
  in_block_lem = record { block = block_of w.state p; role = role_of w p; kind = 0; citations = citations P w p (block_of w.state p) }

  pub view_by : (m : Bool) → has marks p ≡ m → view P w p ≡ cond m out in_block_lem
  unfolding view
  view_by m e = ap (λ (b : Bool). cond b out in_block_lem) e

  pub seen_by : (roster placed b r n : ℕ) → has roster p ≡ true → placed ≡ minus roster marks → b ≡ block_of w.state p → (has marks p ≡ true → block_of w.state p ≡ 0)
      → r ≡ cond (has (meet w.excluded placed) p) 2 (cond (has (meet w.barred placed) p) 3 (cond (has placed p) 1 0))
      → n ≡ cond (has w.marks.overlap p) 3 (cond (has w.marks.discretion p) 4 0) → SeenAt (view P w p) b r n
  unfolding marked role_of
  seen_by roster placed b r n here is eb z er en = pick (has marks p) refl
    where
      live : has placed p ≡ not (has marks p)
      live = ap (λ (m : ℕ). has m p) is ∙ has-minus roster marks p ∙ ap (λ (x : Bool). x && not (has marks p)) here

      either : has w.marks.discretion p || has w.marks.overlap p ≡ has marks p
      either = sym (has-union w.marks.discretion w.marks.overlap p)

      roles : (l : Bool) → has placed p ≡ l → r ≡ cond (has w.excluded p && l) 2 (cond (has w.barred p && l) 3 (cond l 1 0))
      roles l e =
          er ∙ ap₂ (λ (x y : Bool). cond {A = ℕ} x 2 (cond y 3 (cond (has placed p) 1 0))) (has_meet w.excluded placed p) (has_meet w.barred placed p)
          ∙ ap (λ (x : Bool). cond {A = ℕ} (has w.excluded p && x) 2 (cond (has w.barred p && x) 3 (cond x 1 0))) e

      pick : (m : Bool) → has marks p ≡ m → SeenAt (view P w p) b r n
      pick true e = subst (λ (v : View). SeenAt v b r n) (sym (view_by true e)) (record {
        in_block = eb ∙ z e;
        in_role = roles false (live ∙ ap not e) ∙ ap₂ (λ (x y : Bool). cond {A = ℕ} x 2 (cond y 3 0)) (and-false (has w.excluded p)) (and-false (has w.barred p));
        of_kind = en ∙ kind-marked (has w.marks.discretion p) (has w.marks.overlap p) (either ∙ e);
      })
      pick false e = subst (λ (v : View). SeenAt v b r n) (sym (view_by false e)) (record {
        in_block = eb;
        in_role = roles true (live ∙ ap not e) ∙ ap₂ (λ (x y : Bool). cond {A = ℕ} x 2 (cond y 3 1)) (and-true (has w.excluded p)) (and-true (has w.barred p));
        of_kind = en ∙ kind-unmarked (has w.marks.discretion p) (has w.marks.overlap p) (either ∙ e);
      })

-- ---- the steps one after another

module _ (t : List (List ℕ)) (k : Common) (f : told.Active) (s : Settled) (placed : ℕ) (w₀ w₁ w₂ w₃ w₄ w₅ : World)
    (is : placed ≡ minus k.roster (union s.discretion s.overlap)) (blank : Blanked w₀) (freeze : Frozen s.discretion w₀ w₁)
    (cuts : Cut t f.frozen s.overlap s.applied placed w₁ w₂) (attach : Attached t s.moved placed w₂ w₃)
    (bar : (w₄.blocks ≡ w₃.blocks) × (w₄.kinds ≡ w₃.kinds) × Marked (meet s.barred placed) 3 w₃.roles w₄.roles)
    (status : (w₅.blocks ≡ w₄.blocks) × (w₅.kinds ≡ w₄.kinds) × Marked (meet s.excluded placed) 2 w₄.roles w₅.roles) where
  roles : (p : ℕ) → entry w₅.roles p ≡ cond (has (meet s.excluded placed) p) 2 (cond (has (meet s.barred placed) p) 3 (cond (has placed p) 1 0))
  roles p =
      status.2.at p 0
      ∙ ap (cond (has (meet s.excluded placed) p) 2) (bar.2.at p 0
      ∙ ap (cond (has (meet s.barred placed) p) 3) (ap (λ (l : List ℕ). entry l p) attach.roles ∙ cuts.roles.at p 0
      ∙ ap (cond (has placed p) 1) (ap (λ (l : List ℕ). entry l p) freeze.roles ∙ blank.roles p)))

  kinds : (p : ℕ) → entry w₅.kinds p ≡ cond (has s.overlap p) 3 (cond (has s.discretion p) 4 0)
  kinds p =
      ap (λ (l : List ℕ). entry l p) (status.1 ∙ bar.1 ∙ attach.kinds) ∙ cuts.kinds.at p 0
      ∙ ap (cond (has s.overlap p) 3) (freeze.kinds.at p 0 ∙ ap (cond (has s.discretion p) 4) (blank.kinds p))

  module _ (P : Plan) (I : Influence) (a : Active) (S : Stands P I k t) (T : TellsActive P a f) (D : SettledAs P (world_of P k.roster I a) s) where
    abbrev w : paper.World
    w = world_of P k.roster I a

    unmarked : placed ≡ minus k.roster (marked w.marks)
    unfolding marked
    unmarked = is ∙ ap₂ (λ (x y : ℕ). minus k.roster (union x y)) D.discretion D.overlap

    start : (p : ℕ) → entry w₂.blocks p ≡ block_of (start_of P k.roster I a) p
    start =
        cuts.blocks P I k a (record { stands = S; edges = T.frozen; below = T.edges_below; cuts = D.applied; unmarked = unmarked })
        (λ p. ap (λ (l : List ℕ). entry l p) freeze.blocks ∙ blank.blocks p)

    blocks : (p : ℕ) → entry w₅.blocks p ≡ block_of w.state p
    blocks p =
        ap (λ (l : List ℕ). entry l p) (status.0 ∙ bar.0)
        ∙ attach.blocks P I k a S D.moved T.attachments_below unmarked start p

    -- a mark leaves no block
    none : (p : ℕ) → has k.roster p ≡ true → has (marked w.marks) p ≡ true → block_of w.state p ≡ 0
    none p here e =
        ⊎_elim (λ x. x.1.none) (λ x. absurd (true≢false (sym e ∙ (x.members p x.holds).1))) (partition P k.roster S.roster S.named I a p here)

    seen : (p : ℕ) → has k.roster p ≡ true → SeenAt (view P w p) (entry w₅.blocks p) (entry w₅.roles p) (entry w₅.kinds p)
    seen p here =
        seen_by P w p k.roster placed (entry w₅.blocks p) (entry w₅.roles p) (entry w₅.kinds p) here unmarked (blocks p) (none p here)
        (roles p ∙ ap₂ (λ (x y : ℕ). cond (has (meet x placed) p) 2 (cond (has (meet y placed) p) 3 (cond (has placed p) 1 0))) D.excluded D.barred)
        (kinds p ∙ ap₂ (λ (x y : ℕ). cond (has x p) 3 (cond (has y p) 4 0)) D.overlap D.discretion)

  pub steps_seen : SeenBy t k f s w₅
  steps_seen = record { blocks = blocks; at = seen }
