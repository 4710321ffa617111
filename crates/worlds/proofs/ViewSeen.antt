-- THE LOCALITY OF A WORLD: what it says of a person follows from what its rules and marks are in any circle of that person that no rule crosses.
--
use mathlib.Core.Path.{◌≡◌, sym, ap, ap₂, ◌∙◌}
use mathlib.Core.Bool.{Bool, true, false, ◌&&◌, ◌||◌, cond, and-false}
use mathlib.Core.List.{List, ◌++◌}
use mathlib.Core.Logic.{◌⊎◌, inl, inr}
use Prim.Native.Nat.{ℕ}
use Rattle.sets.specs.paper.Sets.{has, one, union, meets, only}
use Rattle.records.specs.paper.Plan.{Plan}
use Rattle.sets.proofs.Local.{which, Inside, Outside, Agree, Twins, Side, inside, outside, Flag, ins, in_not, in_left, in_right, at_single, out-not, agree-union, agree-minus, agree-meet, meets-near, meets-out, union-same}
use Rattle.expressions.specs.paper.Rules.{edge_count, cut_count, bar_count, status_count, edge, cut, bar, status, pair}
use Rattle.expressions.specs.paper.Nodes.{on}
use Rattle.expressions.specs.paper.Influence.{Frame}
use Rattle.expressions.specs.paper.Variables.{Values, Influence}
use Rattle.expressions.proofs.Circles.{Uncrossed, edge_side, cut_side}
use Rattle.expressions.proofs.Similar.{Similar}
use Rattle.worlds.specs.paper.Active.{Active, active}
use Rattle.worlds.specs.paper.World.{World, world_of, Marks, marked, block_of, about, after_marks, kept_cuts, overlapping_cuts, applied_cuts, last_state}
use Rattle.worlds.specs.paper.View.{View, role_of, edge_citations, leads, cut_citations, attachment_citations, bar_citations, status_citations, citations, view}
use Rattle.worlds.proofs.CutsSeen.{Same, about-near, about-none, active-same, applied-same}
use Rattle.worlds.proofs.MarksSeen.{MarksAgree, marks-agree}
use Rattle.worlds.proofs.StateSeen.{Alike, last_alike, barred-agree, excluded-agree}

-- two worlds alike in the circle
pub record Seen (C : ℕ → Bool) (P : Plan) (w x : World) : Type 0 where
  pub active : Same C P w.active x.active
  pub applied : Flag C (λ i. (cut P i).members) (on w.applied) (on x.applied)
  pub marks : MarksAgree C w.marks x.marks
  pub state : Alike C w.state x.state
  pub barred : Agree C w.barred x.barred
  pub excluded : Agree C w.excluded x.excluded

pub marked-agree : (C : ℕ → Bool) (m n : Marks) → MarksAgree C m n → Agree C (marked m) (marked n)
unfolding marked
marked-agree C m n h = agree-union C h.discretion h.overlap

-- the marks are given: whatever they come from
pub after-seen : (C : ℕ → Bool) (P : Plan) (roster : ℕ) → Uncrossed C P → (a b : Active) → Same C P a b → (m n : Marks) → MarksAgree C m n
    → Seen C P (after_marks P roster a m) (after_marks P roster b n)
unfolding after_marks
after-seen C P roster K a b S m n h = record {
  active = S;
  applied = applied-same C P K a b S;
  marks = h;
  state = last;
  barred = barred-agree C P K a b S _ _ last.attached;
  excluded = excluded-agree C P K a b S;
}
  where
    applied : Active → List Bool
    applied u = applied_cuts P u (kept_cuts P u) (overlapping_cuts P (kept_cuts P u))

    last : Alike C (last_state P roster (marked m) a (applied a)) (last_state P roster (marked n) b (applied b))
    last = last_alike C P roster K a b S (applied a) (applied b) (applied-same C P K a b S) (marked m) (marked n) (marked-agree C m n h)

-- the worlds of two valuations that agree on what touches the circle, with influence sets alike in it
pub world_seen : (F : Frame) (C : ℕ → Bool) → Uncrossed C F.plan → (I J : Influence) → Twins C (I.facts ++ I.decisions) (J.facts ++ J.decisions)
    → (v w : Values) → Similar F C v w
    → Seen C F.plan (world_of F.plan F.roster I (active F.plan v)) (world_of F.plan F.roster J (active F.plan w))
unfolding world_of
world_seen F C K I J twins v w S =
    let P = F.plan in
    let A = active-same F C v w S in
    after-seen C P F.roster K (active P v) (active P w) A _ _ (marks-agree C P K I J twins F.roster (active P v) (active P w) A)

-- ---- citations of a block inside, role, and the view

module _ (C : ℕ → Bool) (P : Plan) (K : Uncrossed C P) (w x : World) (S : Seen C P w x) where
  frozen : World → ℕ → Bool
  frozen u = on u.active.frozen

  edges-same : (b : ℕ) → Inside C b → edge_citations P w b ≡ edge_citations P x b
  unfolding edge_citations frozen
  edges-same b h = union-same (edge_count P) _ _ (λ i l. ap (λ (t : Bool). only t (one (edge P i).citation)) (go i (edge_side C P K i)))
    where
      ends : ℕ → Bool
      ends i = has b (edge P i).left && has b (edge P i).right

      go : (i : ℕ) → Side C (pair P i) → (meets b (pair P i) && (frozen w i && ends i)) ≡ (meets b (pair P i) && (frozen x i && ends i))
      go i (inside q r y z) = ap (λ (t : Bool). meets b (pair P i) && (t && ends i)) (S.active.frozen i q r y)
      go i (outside o) = ap (λ (t : Bool). t && (frozen w i && ends i)) (meets-out C h o) ∙ sym (ap (λ (t : Bool). t && (frozen x i && ends i)) (meets-out C h o))

  -- no frozen edge leads from a block inside to a cut outside
  none : (u : World) (b c : ℕ) → Inside C b → Outside C (cut P c).members → about (edge_count P) (pair P) b (λ e. frozen u e && leads P u b (cut P c).members e) ≡ false
  none u b c h o = about-none C (edge_count P) (pair P) b _ h (edge_side C P K) (λ e q r y. lost e (ins C (edge_side C P K e) r y))
    where
      lost : (e : ℕ) → Inside C (pair P e) → (frozen u e && leads P u b (cut P c).members e) ≡ false
      lost e i = (unfold leads pair in
          ap₂ (λ (s t : Bool). frozen u e && ((has b (edge P e).left && s) || (has b (edge P e).right && t)))
          (out-not C (edge P e).right o (at_single C (edge P e).right (in_right C (one (edge P e).left) (one (edge P e).right) i)))
          (out-not C (edge P e).left o (at_single C (edge P e).left (in_left C (one (edge P e).left) (one (edge P e).right) i)))
          ∙ ap₂ (λ (s t : Bool). frozen u e && (s || t)) (and-false (has b (edge P e).left)) (and-false (has b (edge P e).right))
          ∙ and-false (frozen u e))

  cuts-same : (p b : ℕ) → C p ≡ true → Inside C b → cut_citations P w p b ≡ cut_citations P x p b
  unfolding cut_citations frozen leads
  cuts-same p b e h = union-same (cut_count P) _ _ (λ c l. ap (λ (t : Bool). only t (one (cut P c).citation)) (go c (cut_side C P K c)))
    where
      led : World → ℕ → Bool
      led u c = about (edge_count P) (pair P) b (λ n. frozen u n && leads P u b (cut P c).members n)

      go : (c : ℕ) → Side C (cut P c).members
          → (on w.applied c && (has (cut P c).members p || led w c)) ≡ (on x.applied c && (has (cut P c).members p || led x c))
      go c (inside q r y z) =
          ap₂ (λ (s t : Bool). s && (has (cut P c).members p || t)) (S.applied c q r y)
          (about-near C (edge_count P) (pair P) b _ _ h (edge_side C P K) (λ n q i j. ap (λ (s : Bool). s && leads P w b (cut P c).members n) (S.active.frozen n q i j)))
      go c (outside o) =
          ap₂ (λ (s t : Bool). on w.applied c && (s || t)) (out-not C p o e) (none w b c h o) ∙ and-false (on w.applied c)
          ∙ sym (ap₂ (λ (s t : Bool). on x.applied c && (s || t)) (out-not C p o e) (none x b c h o) ∙ and-false (on x.applied c))

  bars-same : (b : ℕ) → Inside C b → bar_citations P w b ≡ bar_citations P x b
  unfolding bar_citations
  bars-same b h =
      union-same (bar_count P) _ _
      (λ i l. ap (λ (t : Bool). only t (one (bar P i).citation)) (meets-near C h (agree-meet C (bar P i).members (agree-minus C S.barred S.excluded))))

  statuses-same : (b : ℕ) → Inside C b → status_citations P w b ≡ status_citations P x b
  unfolding status_citations
  statuses-same b h =
      union-same (status_count P) _ _ (λ i l. ap (λ (t : Bool). only t (one (status P i).citation)) (go (status P i).person (which (C (status P i).person))))
    where
      go : (q : ℕ) → (C q ≡ true) ⊎ (C q ≡ false) → (has b q && has w.excluded q) ≡ (has b q && has x.excluded q)
      go q (inl e) = ap (λ (t : Bool). has b q && t) (S.excluded.at q e)
      go q (inr e) = ap (λ (t : Bool). t && has w.excluded q) (in_not C q h e) ∙ sym (ap (λ (t : Bool). t && has x.excluded q) (in_not C q h e))

  citations-same : (p b : ℕ) → C p ≡ true → Inside C b → citations P w p b ≡ citations P x p b
  unfolding citations attachment_citations
  citations-same p b e h =
      ap₂ union (edges-same b h) (ap₂ union (cuts-same p b e h) (ap (union _) (ap₂ union (bars-same b h) (statuses-same b h))))

  role_same : (p : ℕ) → C p ≡ true → role_of w p ≡ role_of x p
  unfolding role_of
  role_same p e = ap₂ (λ (s t : Bool). cond s 2 (cond t 3 1)) (S.excluded.at p e) (S.barred.at p e)

  pub view-same : (p : ℕ) → C p ≡ true → view P w p ≡ view P x p
  unfolding view
  view-same p e =
      ap₂ {C = View} (λ (s t : Bool). cond s (record { block = 0; role = 0; kind = cond t 3 4; citations = 0 }) here)
      ((marked-agree C w.marks x.marks S.marks).at p e) (S.marks.overlap.at p e)
      ∙ ap (λ (y : View). cond (has (marked x.marks) p) (record { block = 0; role = 0; kind = cond (has x.marks.overlap p) 3 4; citations = 0 }) y) here-same
    where
      here : View
      here = record { block = block_of w.state p; role = role_of w p; kind = 0; citations = citations P w p (block_of w.state p) }

      here-same : here ≡ record { block = block_of x.state p; role = role_of x p; kind = 0; citations = citations P x p (block_of x.state p) }
      here-same = λ i. record {
        block = S.state.same p e i;
        role = role_same p e i;
        kind = 0;
        citations = (citations-same p (block_of w.state p) e (S.state.inner p e) ∙ ap (citations P x p) (S.state.same p e)) i;
      }
