-- What a world settles by sets is what the world says.
use mathlib.Core.Path.{◌≡◌, refl, sym, ap, ap₂, ◌∙◌, subst}
use mathlib.Core.Bool.{Bool, true, false, ◌&&◌, not}
use mathlib.Core.List.{List, []}
use Prim.Native.Nat.{ℕ, ◌-◌, ◌^◌, ◌≤◌, ◌<◌}
use native.Mathlib.Omega.{arith}
use lib.ListN.{length, get_or, set, length-set}
use lib.Seq.{get_or-set_same, get_or-set_other}
use lib.Dec.{eqb}
use Rattle.sets.specs.paper.Sets.{has, one, union, meet, minus, disjoint, meets, subset, only, members, union_below, union_of}
use Rattle.records.specs.paper.Plan.{Plan}
use Rattle.records.specs.promises.Sound.{SoundBar}
use Rattle.sets.proofs.SetLaws.{and-not, and_parts, antisym}
use Rattle.sets.proofs.BelowLaws.{union_find, in_below, of_only, in_only}
use Rattle.sets.proofs.LoopLaws.{all_at}
use Rattle.expressions.specs.paper.Rules.{bar_count, status_count, bar, status}
use Rattle.expressions.specs.paper.Nodes.{on}
use Rattle.expressions.specs.paper.Variables.{Influence}
use Rattle.worlds.specs.paper.Active as paper
use Rattle.worlds.specs.paper.World.{World, world_of, after_marks, marked, bar_holds, barred_by, excluded_by}
use Rattle.worlds.specs.paper.Events.{blocks, overlaps}
use Rattle.worlds.specs.code.Over.{entry}
use Rattle.worlds.specs.code.Tables.{row, Stands, TellsActive}
use Rattle.worlds.specs.code.Discretion.{Renewed, LooseParts}
use Rattle.worlds.specs.code.Settled.{Added, CutsAre, CutsSettled, PartsAre, SettledAs, Settles}
use Rattle.worlds.specs.declared.tables.Common.{Common}
use Rattle.worlds.specs.declared.tables.Active.{Active}
use Rattle.worlds.specs.declared.tables.Settled.{Settled}
use Rattle.worlds.specs.declared.cuts.CutsDone.{CutsDone}
use Rattle.sets.proofs.TurnLaws.{union-has, has-union_of}
use Rattle.worlds.proofs.FindLaws.{few-low}
use Rattle.worlds.proofs.DiscretionLaws.{parts_are, discretion_is}
use Rattle.worlds.proofs.AttachLaws.{marks_in_lem, settled_moved, settled_attached}

-- ---- the notes, of which a row was lent twice: first the clashes, then the blockings

module _ (noted : List (List ℕ)) (whole : length noted ≡ 3) (clashes blockings : List ℕ) where
  abbrev after : List (List ℕ)
  after = set (set noted 2 clashes) 1 blockings

  pub parts-kept : get_or (set (set noted 2 clashes) 1 blockings) 0 [] ≡ get_or noted 0 []
  parts-kept =
      get_or-set_other (set noted 2 clashes) 1 0 blockings [] (λ e. omega arith) ∙ get_or-set_other noted 2 0 clashes [] (λ e. omega arith)

  -- what is said of the rows holds of the notes
  pub rows_noted : (Q : List ℕ → List ℕ → List ℕ → List ℕ → Type 0) → Q (get_or (set noted 2 clashes) 1 []) blockings (get_or noted 2 []) clashes
      → Q (get_or noted 1 []) (get_or (set (set noted 2 clashes) 1 blockings) 1 []) (get_or noted 2 []) (get_or (set (set noted 2 clashes) 1 blockings) 2 [])
  rows_noted Q q =
      let old : get_or (set noted 2 clashes) 1 [] ≡ get_or noted 1 [] = get_or-set_other noted 2 1 clashes [] (λ e. omega arith) in
      let put : get_or after 1 [] ≡ blockings = get_or-set_same (set noted 2 clashes) 1 blockings [] (simp length-set (omega arith)) in
      let kept : get_or after 2 [] ≡ clashes =
      get_or-set_other (set noted 2 clashes) 1 2 blockings [] (λ e. omega arith) ∙ get_or-set_same noted 2 clashes [] (omega arith) in
      subst (λ (x : List ℕ). Q x (get_or after 1 []) (get_or noted 2 []) (get_or after 2 [])) old
      (subst (λ (x : List ℕ). Q (get_or (set noted 2 clashes) 1 []) x (get_or noted 2 []) (get_or after 2 [])) (sym put)
      (subst (λ (x : List ℕ). Q (get_or (set noted 2 clashes) 1 []) blockings (get_or noted 2 []) x) (sym kept) q))

-- ---- step 8

-- whom the rules of a kind that are set name, over a set of numbers and over all below n
union_flagged : (n m : ℕ) (f g : ℕ → ℕ) (test : ℕ → Bool) → n ≤ 64 → ((i : ℕ) → has m i ≡ test i) → ((i : ℕ) → test i ≡ true → i < n)
    → ((i : ℕ) → i < n → f i ≡ g i) → union_of f (members m) ≡ union_below n (λ i. only (test i) (g i))
union_flagged n m f g test l told low same = antisym (union_of f (members m)) (union_below n part) (record { at = there }) (record { at = back })
  where
    part : ℕ → ℕ
    part i = only (test i) (g i)

    fits : m < 2 ^ 64
    fits = few-low n m l (λ i h. low i (sym (told i) ∙ h))

    there : (q : ℕ) → has (union_of f (members m)) q ≡ true → has (union_below n part) q ≡ true
    there q e =
        let w = union-has f m q fits e in
        let t = sym (told w.0) ∙ w.1 in
        let b = low w.0 t in
        (in_below n part w.0 b).at q ((in_only (test w.0) (g w.0) t).at q (ap (λ (x : ℕ). has x q) (sym (same w.0 b)) ∙ w.2))

    back : (q : ℕ) → has (union_below n part) q ≡ true → has (union_of f (members m)) q ≡ true
    back q e =
        let w = union_find n part q e in
        let o = of_only (test w.0) (g w.0) q w.2 in
        has-union_of f m w.0 q fits (told w.0 ∙ o.0) (ap (λ (x : ℕ). has x q) (same w.0 w.1) ∙ o.1)

-- not wholly within
meets-others : (m b : ℕ) → m < 2 ^ 64 → b < 2 ^ 64 → meets m ((2 ^ 64 - 1) - b) ≡ not (subset m b)
unfolding meets disjoint meet subset
meets-others m b l h = ap (λ (x : ℕ). not (eqb x 0)) (and-not 64 m b l h)

bar-low : (P : Plan) (I : Influence) (k : Common) (t : List (List ℕ)) → Stands P I k t → (i : ℕ) → i < bar_count P → (bar P i).members < 2 ^ 64
unfolding bar
bar-low P I k t S i l = (all_at (SoundBar P) P.bars _ i S.sound.bars l).members

module _ (P : Plan) (I : Influence) (k : Common) (t : List (List ℕ)) (a : paper.Active) (f : Active) (S : Stands P I k t) (T : TellsActive P a f) where
  excluded_is : union_of (row t 14) (members f.statuses) ≡ excluded_by P a
  unfolding excluded_by
  excluded_is =
      let limit = S.sound.status_limit in
      union_flagged (status_count P) f.statuses (row t 14) (λ i. one (status P i).person) (on a.statuses) (omega arith) T.statuses T.statuses_below S.persons

  module _ (attached barring : ℕ) (fits : attached < 2 ^ 64) (met : (i : ℕ) → has barring i ≡ (has f.bars i && meets (row t 13 i) ((2 ^ 64 - 1) - attached))) where
    barring_is : (i : ℕ) → has barring i ≡ bar_holds P a attached i
    barring_is i = met i ∙ ap (λ (b : Bool). b && meets (row t 13 i) ((2 ^ 64 - 1) - attached)) (T.bars i) ∙ pick (on a.bars i) refl
      where
        pick : (b : Bool) → on a.bars i ≡ b → (b && meets (row t 13 i) ((2 ^ 64 - 1) - attached)) ≡ (b && not (subset (bar P i).members attached))
        pick true e =
            let l = T.bars_below i e in
            ap (λ (x : ℕ). meets x ((2 ^ 64 - 1) - attached)) (S.barred i l) ∙ meets-others (bar P i).members attached (bar-low P I k t S i l) fits
        pick false e = refl

    barred_is : union_of (row t 13) (members barring) ≡ barred_by P a attached
    unfolding barred_by
    barred_is =
        let limit = S.sound.bar_limit in
        union_flagged (bar_count P) barring (row t 13) (λ i. (bar P i).members) (bar_holds P a attached) (omega arith) barring_is
        (λ i h. T.bars_below i (and_parts (on a.bars i) (not (subset (bar P i).members attached)) h).0) S.barred

-- ---- all of it

-- what the code found, one thing after another; `noted` is what it began with, `after` what it left
pub record Found (t : List (List ℕ)) (k : Common) (f : Active) (noted after : List (List ℕ)) (parts : List ℕ) (r : CutsDone) (loose left movers : ℕ) (s : Settled) : Type 0 where
  pub components : LooseParts (get_or t 0 []) (meet f.frozen k.base) s.heads parts
  pub renewed : Renewed s.heads s.fresh (get_or noted 0 []) parts
  pub seed : loose ≡ union_of (entry (get_or (set noted 0 parts) 0 [])) (members s.heads)
  pub discretion : s.discretion ≡ union_of (row t 15) (members loose)
  pub cuts : CutsSettled t f r (get_or (set noted 0 parts) 1 []) (get_or after 1 []) (get_or (set noted 0 parts) 2 []) (get_or after 2 [])
  pub kept : get_or after 0 [] ≡ get_or (set noted 0 parts) 0 []
  pub overlap : s.overlap ≡ r.overlap
  pub applied : s.applied ≡ r.applied
  pub unmarked : left ≡ minus k.roster (union s.discretion r.overlap)
  pub moved : (i : ℕ) → has s.moved i ≡ (has f.attachments i && meets (row t 12 i) left)
  pub moved_fits : s.moved < 2 ^ 64
  pub moving : movers ≡ union_of (row t 11) (members s.moved)
  pub attached : s.attached ≡ minus movers (union s.discretion r.overlap)
  pub attached_fits : s.attached < 2 ^ 64
  pub barring : (i : ℕ) → has s.barring i ≡ (has f.bars i && meets (row t 13 i) ((2 ^ 64 - 1) - s.attached))
  pub barred : s.barred ≡ union_of (row t 13) (members s.barring)
  pub excluded : s.excluded ≡ union_of (row t 14) (members f.statuses)

module _ (t : List (List ℕ)) (k : Common) (f : Active) (noted after : List (List ℕ)) (parts : List ℕ) (r : CutsDone) (loose left movers : ℕ) (s : Settled)
    (whole : length noted ≡ 3) (F : Found t k f noted after parts r loose left movers s) where
  put : get_or (set noted 0 parts) 0 [] ≡ parts
  put = get_or-set_same noted 0 parts [] (omega arith)

  module _ (P : Plan) (I : Influence) (a : paper.Active) (S : Stands P I k t) (T : TellsActive P a f) where
    abbrev w : World
    w = world_of P k.roster I a

    abbrev marks : ℕ
    marks = union s.discretion r.overlap

    done : CutsAre P w r (get_or (set noted 0 parts) 1 []) (get_or after 1 []) (get_or (set noted 0 parts) 2 []) (get_or after 2 [])
    done = F.cuts.at P I k a S T

    discretion_so : s.discretion ≡ w.marks.discretion
    unfolding world_of after_marks
    discretion_so =
        F.discretion ∙ ap (λ (x : ℕ). union_of (row t 15) (members x)) (F.seed ∙ ap (λ (x : List ℕ). union_of (entry x) (members s.heads)) put)
        ∙ discretion_is P I k t a f S T s.heads parts F.components

    marks_so : marks ≡ marks_in_lem P k.roster I a
    unfolding marked
    marks_so = ap₂ union discretion_so done.overlap

    moved_so : (i : ℕ) → has s.moved i ≡ (has f.attachments i && meets (row t 12 i) (minus k.roster marks))
    moved_so i = F.moved i ∙ ap (λ (x : ℕ). has f.attachments i && meets (row t 12 i) x) F.unmarked

    attached_so : s.attached ≡ w.state.attached
    attached_so =
        F.attached ∙ ap (λ (x : ℕ). minus x marks) F.moving ∙ settled_attached P I k t a f S T marks s.moved marks_so moved_so F.moved_fits

    settled_as : SettledAs P (world_of P k.roster I a) s
    unfolding world_of after_marks
    settled_as = record {
      discretion = discretion_so;
      overlap = F.overlap ∙ done.overlap;
      applied = λ c. ap (λ (x : ℕ). has x c) F.applied ∙ done.applied c;
      moved = settled_moved P I k t a f S T marks s.moved marks_so moved_so;
      attached = attached_so;
      barring = λ i.
          barring_is P I k t a f S T s.attached s.barring F.attached_fits F.barring i ∙ ap (λ (x : ℕ). bar_holds P a x i) attached_so;
      barred = F.barred ∙ barred_is P I k t a f S T s.attached s.barring F.attached_fits F.barring ∙ ap (barred_by P a) attached_so;
      excluded = F.excluded ∙ excluded_is P I k t a f S T;
    }

  -- WHAT IS SETTLED
  pub settles : Settles t k f s (get_or noted 0 []) (get_or after 0 []) (get_or noted 1 []) (get_or after 1 []) (get_or noted 2 []) (get_or after 2 [])
  settles = record {
    at = settled_as;
    components = λ P I a S T.
        subst (λ (x : List ℕ). PartsAre P k.roster a s.heads x) (sym (F.kept ∙ put)) (parts_are P I k t a f S T s.heads parts F.components);
    renewed = subst (λ (x : List ℕ). Renewed s.heads s.fresh (get_or noted 0 []) x) (sym (F.kept ∙ put)) F.renewed;
    blocked = λ P I a S T.
        subst (λ (x : List ℕ). Added (blocks P (world_of P k.roster I a)) x (get_or after 1 [])) (get_or-set_other noted 0 1 parts [] (λ e. omega arith)) (done P I a S T).blocked;
    clashed = λ P I a S T.
        subst (λ (x : List ℕ). Added (overlaps P (world_of P k.roster I a)) x (get_or after 2 [])) (get_or-set_other noted 0 2 parts [] (λ e. omega arith)) (done P I a S T).clashed;
  }
