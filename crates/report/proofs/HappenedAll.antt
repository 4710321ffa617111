-- THE LIST THAT IS WRITTEN FROM THE SETS IS WHAT DOCUMENT 01 SAYS: the events of all worlds, rising, no repeats.
use mathlib.Core.Path.{◌≡◌, refl, sym, ap, ap₂, ◌∙◌, subst}
use mathlib.Core.Bool.{Bool, true, false, ◌&&◌, not, cond}
use mathlib.Core.List.{List, [], ◌∷◌, ◌++◌, map, flat_map, append-nil}
use mathlib.Core.Logic.{◌⊎◌, inl, inr}
use Prim.Native.Nat.{ℕ, ◌<◌}
use native.Mathlib.Omega.{arith}
use lib.Dec.{eqb}
use borrow.Author.Tests.{eqb-true, eq-eqb, not-true}
use Rattle.sets.specs.paper.Sets.{has, numbers, any_of}
use Rattle.records.specs.paper.Plan.{Plan}
use Rattle.records.specs.paper.Case.{Case, case_heading}
use Rattle.sets.proofs.SetLaws.{and_parts}
use Rattle.sets.proofs.Local.{clash}
use Rattle.expressions.specs.paper.Rules.{edge_count, cut_count, attachment_count, bar_count, status_count, fact_count}
use Rattle.expressions.specs.paper.Nodes.{on}
use Rattle.expressions.specs.paper.Bindings.{Bound, took_default}
use Rattle.worlds.specs.paper.World.{World, loose_components, bar_holds}
use Rattle.page.specs.Little.{little_bytes}
use Rattle.worlds.specs.paper.Events.{event, listed, frozen_events, applied_events, blocks, blocked_events, overlaps, overlap_events, attachment_events, bar_events, status_events, discretion_events, events_of}
use Rattle.report.specs.paper.EventList.{rising, default_events}
use Rattle.report.specs.paper.Operations.{events_over}
use Rattle.report.specs.code.Happened.{Rises, Gathered, frozen_over, applied_over, blocked_over, overlap_over, attachment_over, bar_over, status_over, default_over, discretion_over, happened}
use Rattle.report.proofs.AmongLaws.{Among, in_left, in_right, of_both, in_flat, of_flat, in_map, of_map, of_numbers, in_listed, of_listed, in_any, of_any}
use Rattle.report.proofs.RisingSet.{Same, rises-rising}
use Rattle.report.proofs.RisingKinds.{happened-rising}

-- a mask of kind 9
abbrev nine : ℕ → List ℕ
nine m = event 9 0 0 0 m

abbrev unless_empty : ℕ → List (List ℕ)
unless_empty m = cond (eqb m 0) [] (nine m ∷ [])

in_unless : (m : ℕ) (e : List ℕ) → eqb m 0 ≡ false → e ≡ nine m → Among e (unless_empty m)
in_unless m e z h = subst (λ (b : Bool). Among e (cond b [] (nine m ∷ []))) (sym z) (inl h)

of_unless : (m : ℕ) (e : List ℕ) → Among e (unless_empty m) → (eqb m 0 ≡ false) × (e ≡ nine m)
of_unless m e = go (eqb m 0)
  where
    go : (b : Bool) → Among e (cond b [] (nine m ∷ [])) → (b ≡ false) × (e ≡ nine m)
    go true k = absurd k
    go false (inl z) = (refl, z)
    go false (inr k) = absurd k

in_masks : (m : ℕ) (ms : List ℕ) → Among m ms → any_of (eqb m) ms ≡ true
in_masks m ms k = in_any (eqb m) ms m k (eq-eqb m m refl)

of_masks : (m : ℕ) (ms : List ℕ) → any_of (eqb m) ms ≡ true → Among m ms
of_masks m ms h = let u = of_any (eqb m) ms h in subst (λ (n : ℕ). Among n ms) (sym (eqb-true m u.0 u.2)) u.1

module _ {A : Type 0} (ws : List A) where
  -- one part of what each world gives, and the rest of it
  joined : (part rest : A → List (List ℕ)) (es fs ds : List (List ℕ)) → Same es (flat_map part ws) → Same fs (flat_map rest ws ++ ds)
      → Same (es ++ fs) (flat_map (λ w. part w ++ rest w) ws ++ ds)
  joined part rest es fs ds s t = record { there = λ e k. there e (of_both e es fs k); back = λ e k. back e (of_both e (flat_map both ws) ds k) }
    where
      both : A → List (List ℕ)
      both w = part w ++ rest w

      beyond : (e : List ℕ) → Among e (flat_map rest ws) ⊎ Among e ds → Among e (flat_map both ws ++ ds)
      beyond e (inl k) =
          let u = of_flat rest ws e k in
          in_left e (flat_map both ws) ds (in_flat both ws u.0 e u.1 (in_right e (part u.0) (rest u.0) u.2))
      beyond e (inr k) = in_right e (flat_map both ws) ds k

      there : (e : List ℕ) → Among e es ⊎ Among e fs → Among e (flat_map both ws ++ ds)
      there e (inl k) =
          let u = of_flat part ws e (s.there e k) in
          in_left e (flat_map both ws) ds (in_flat both ws u.0 e u.1 (in_left e (part u.0) (rest u.0) u.2))
      there e (inr k) = beyond e (of_both e (flat_map rest ws) ds (t.there e k))

      inner : (e : List ℕ) (w : A) → Among w ws → Among e (part w) ⊎ Among e (rest w) → Among e (es ++ fs)
      inner e w i (inl k) = in_left e es fs (s.back e (in_flat part ws w e i k))
      inner e w i (inr k) = in_right e es fs (t.back e (in_left e (flat_map rest ws) ds (in_flat rest ws w e i k)))

      back : (e : List ℕ) → Among e (flat_map both ws) ⊎ Among e ds → Among e (es ++ fs)
      back e (inl k) = let u = of_flat both ws e k in inner e u.0 u.1 (of_both e (part u.0) (rest u.0) u.2)
      back e (inr k) = in_right e es fs (t.back e (in_right e (flat_map rest ws) ds k))

  -- a kind that goes by rules
  by_rule : (n : ℕ) (test : ℕ → Bool) (shows : A → ℕ → Bool) (make : ℕ → List ℕ) → ((i : ℕ) → i < n → test i ≡ any_of (λ w. shows w i) ws)
      → Same (listed n test make) (flat_map (λ w. listed n (shows w) make) ws)
  by_rule n test shows make h = record {
    there = λ e k.
        let u = of_listed n test make e k in
        let a = of_any (λ w. shows w u.0) ws (sym (h u.0 u.1) ∙ u.2) in
        in_flat (λ w. listed n (shows w) make) ws a.0 e a.1 (in_listed n (shows a.0) make e u.0 u.1 a.2 u.3);
    back = λ e k.
        let r = of_flat (λ w. listed n (shows w) make) ws e k in
        let u = of_listed n (shows r.0) make e r.2 in
        in_listed n test make e u.0 u.1 (h u.0 u.1 ∙ in_any (λ w. shows w u.0) ws r.0 r.1 u.2) u.3;
  }

  -- and by two rules
  by_rules_lem : (n o : ℕ) (test : ℕ → ℕ → Bool) (shows : A → ℕ → ℕ → Bool) (make : ℕ → ℕ → List ℕ)
      → ((c i : ℕ) → c < n → i < o → test c i ≡ any_of (λ w. shows w c i) ws)
      → Same (flat_map (λ c. listed o (test c) (make c)) (numbers n 0)) (flat_map (λ w. flat_map (λ c. listed o (shows w c) (make c)) (numbers n 0)) ws)
  by_rules_lem n o test shows make h = record {
    there = λ e k.
        let r = of_flat mine (numbers n 0) e k in
        let u = of_flat (λ w. listed o (shows w r.0) (make r.0)) ws e ((each r.0 r.1).there e r.2) in
        in_flat (λ w. flat_map (theirs w) (numbers n 0)) ws u.0 e u.1 (in_flat (theirs u.0) (numbers n 0) r.0 e r.1 u.2);
    back = λ e k.
        let u = of_flat (λ w. flat_map (theirs w) (numbers n 0)) ws e k in
        let r = of_flat (theirs u.0) (numbers n 0) e u.2 in
        in_flat mine (numbers n 0) r.0 e r.1
        ((each r.0 r.1).back e (in_flat (λ w. listed o (shows w r.0) (make r.0)) ws u.0 e u.1 r.2));
  }
    where
      mine : ℕ → List (List ℕ)
      mine c = listed o (test c) (make c)

      theirs : A → ℕ → List (List ℕ)
      theirs w c = listed o (shows w c) (make c)

      each : (c : ℕ) → Among c (numbers n 0) → Same (listed o (test c) (make c)) (flat_map (λ w. listed o (shows w c) (make c)) ws)
      each c k = by_rule o (test c) (λ w. shows w c) (make c) (λ i l. h c i (let z = (of_numbers n 0 c k).1 in omega (arith, z)) l)

  -- the last kind of the worlds, behind what no world shows
  ended : (part : A → List (List ℕ)) (es ds fs : List (List ℕ)) → Same es ds → Same fs (flat_map part ws) → Same (es ++ fs) (flat_map part ws ++ ds)
  ended part es ds fs s t = record { there = λ e k. there e (of_both e es fs k); back = λ e k. back e (of_both e (flat_map part ws) ds k) }
    where
      there : (e : List ℕ) → Among e es ⊎ Among e fs → Among e (flat_map part ws ++ ds)
      there e (inl k) = in_right e (flat_map part ws) ds (s.there e k)
      there e (inr k) = in_left e (flat_map part ws) ds (t.there e k)

      back : (e : List ℕ) → Among e (flat_map part ws) ⊎ Among e ds → Among e (es ++ fs)
      back e (inl k) = in_right e es fs (t.back e k)
      back e (inr k) = in_left e es fs (s.back e k)

  -- the kind of masks
  by_masks : (shows : A → List ℕ) (nines : List ℕ) → ((m : ℕ) → any_of (eqb m) nines ≡ (not (eqb m 0) && any_of (λ w. any_of (eqb m) (shows w)) ws))
      → Same (map nine nines) (flat_map (λ w. flat_map unless_empty (shows w)) ws)
  by_masks shows nines h = record {
    there = λ e k. let u = of_map nine nines e k in there e u.0 u.2 (and_parts _ _ (sym (h u.0) ∙ in_masks u.0 nines u.1));
    back = λ e k.
        let w = of_flat (λ w. flat_map unless_empty (shows w)) ws e k in
        let u = of_flat unless_empty (shows w.0) e w.2 in
        back e w.0 w.1 u.0 u.1 (of_unless u.0 e u.2);
  }
    where
      there : (e : List ℕ) (m : ℕ) → e ≡ nine m → (not (eqb m 0) ≡ true) × (any_of (λ w. any_of (eqb m) (shows w)) ws ≡ true)
          → Among e (flat_map (λ w. flat_map unless_empty (shows w)) ws)
      there e m z t =
          let w = of_any (λ w. any_of (eqb m) (shows w)) ws t.1 in
          in_flat (λ w. flat_map unless_empty (shows w)) ws w.0 e w.1
          (in_flat unless_empty (shows w.0) m e (of_masks m (shows w.0) w.2) (in_unless m e (not-true (eqb m 0) t.0) z))

      back : (e : List ℕ) (w : A) → Among w ws → (m : ℕ) → Among m (shows w) → (eqb m 0 ≡ false) × (e ≡ nine m) → Among e (map nine nines)
      back e w i m j t =
          in_map nine nines m e
          (of_masks m nines (h m ∙ ap₂ ◌&&◌ (ap not t.0) (in_any (λ w. any_of (eqb m) (shows w)) ws w i (in_masks m (shows w) j)))) t.1

-- ---- what no world shows

listed_same : (n : ℕ) (f g : ℕ → Bool) (make : ℕ → List ℕ) → ((i : ℕ) → i < n → f i ≡ g i) → Same (listed n f make) (listed n g make)
listed_same n f g make h = record {
  there = λ e k. let u = of_listed n f make e k in in_listed n g make e u.0 u.1 (sym (h u.0 u.1) ∙ u.2) u.3;
  back = λ e k. let u = of_listed n g make e k in in_listed n f make e u.0 u.1 (h u.0 u.1 ∙ u.2) u.3;
}

-- the facts that took their default
pub defaults_asked : (P : Plan) (C : Case) (defaults : ℕ) → ((f : ℕ) → f < fact_count P → has defaults f ≡ took_default P C f)
    → Same (default_over P defaults) (default_events P C)
unfolding default_over default_events
defaults_asked P C defaults h = listed_same (fact_count P) (has defaults) (took_default P C) _ h

-- or none, where they are not asked for
pub defaults-none : (P : Plan) (defaults : ℕ) → ((f : ℕ) → f < fact_count P → has defaults f ≡ false) → Same (default_over P defaults) []
unfolding default_over
defaults-none P defaults h = record { there = λ e k. let u = of_listed (fact_count P) (has defaults) _ e k in clash u.2 (h u.0 u.1); back = λ e k. absurd k }

module _ (P : Plan) (C : Case) (roster : ℕ) (ws : List World) (frozen applied : ℕ) (blockings clashes : ℕ → ℕ) (moved barring excluding defaults : ℕ) (nines : List ℕ)
    (G : Gathered P roster ws frozen applied blockings clashes moved barring excluding nines) where
  -- the events of a world from a kind on
  abbrev from7 : World → List (List ℕ)
  from7 w = status_events P C roster w ++ discretion_events P C roster w

  abbrev from6 : World → List (List ℕ)
  from6 w = bar_events P C roster w ++ from7 w

  abbrev from5 : World → List (List ℕ)
  from5 w = attachment_events P C roster w ++ from6 w

  abbrev from4 : World → List (List ℕ)
  from4 w = overlap_events P C roster w ++ from5 w

  abbrev from3 : World → List (List ℕ)
  from3 w = blocked_events P C roster w ++ from4 w

  abbrev from2 : World → List (List ℕ)
  from2 w = applied_events P C roster w ++ from3 w

  kind1 : Same (frozen_over P frozen) (flat_map (frozen_events P C roster) ws)
  unfolding frozen_over frozen_events
  kind1 = by_rule ws (edge_count P) (has frozen) (λ w. on w.active.frozen) _ G.edges

  kind2 : Same (applied_over P C applied) (flat_map (applied_events P C roster) ws)
  unfolding applied_over applied_events
  kind2 = by_rule ws (cut_count P) (has applied) (λ w. on w.applied) _ G.cuts

  kind3 : Same (blocked_over P C blockings) (flat_map (blocked_events P C roster) ws)
  unfolding blocked_over blocked_events
  kind3 = by_rules_lem ws (cut_count P) (edge_count P) (λ c. has (blockings c)) (blocks P) _ G.blocked

  kind4 : Same (overlap_over P clashes) (flat_map (overlap_events P C roster) ws)
  unfolding overlap_over overlap_events
  kind4 = by_rules_lem ws (cut_count P) (cut_count P) (λ c. has (clashes c)) (overlaps P) _ G.overlapping

  kind5 : Same (attachment_over P C moved) (flat_map (attachment_events P C roster) ws)
  unfolding attachment_over attachment_events
  kind5 = by_rule ws (attachment_count P) (has moved) (λ w. has w.state.moved) _ G.attachments

  kind6 : Same (bar_over P barring) (flat_map (bar_events P C roster) ws)
  unfolding bar_over bar_events
  kind6 = by_rule ws (bar_count P) (has barring) (λ w. bar_holds P w.active w.state.attached) _ G.bars

  kind7 : Same (status_over P excluding) (flat_map (status_events P C roster) ws)
  unfolding status_over status_events
  kind7 = by_rule ws (status_count P) (has excluding) (λ w. on w.active.statuses) _ G.statuses

  kind9 : Same (discretion_over nines) (flat_map (discretion_events P C roster) ws)
  unfolding discretion_over discretion_events
  kind9 = by_masks ws (λ w. loose_components P roster w.active) nines G.components

  pub happened-same : (ds : List (List ℕ)) → Same (default_over P defaults) ds
      → Same (happened P C frozen applied blockings clashes moved barring excluding defaults nines) (flat_map (events_of P C roster) ws ++ ds)
  unfolding happened events_of
  happened-same ds d =
      joined ws (frozen_events P C roster) from2 _ _ ds kind1
      (joined ws (applied_events P C roster) from3 _ _ ds kind2
      (joined ws (blocked_events P C roster) from4 _ _ ds kind3
      (joined ws (overlap_events P C roster) from5 _ _ ds kind4
      (joined ws (attachment_events P C roster) from6 _ _ ds kind5
      (joined ws (bar_events P C roster) from7 _ _ ds kind6
      (joined ws (status_events P C roster) (discretion_events P C roster) _ _ ds kind7 (ended ws (discretion_events P C roster) _ ds _ d kind9)))))))

  -- THE THEOREM, with the events that no world shows, or none
  pub happened_all : Rises (map (little_bytes 8) nines) → (ds : List (List ℕ)) → Same (default_over P defaults) ds
      → happened P C frozen applied blockings clashes moved barring excluding defaults nines ≡ rising (flat_map (events_of P C roster) ws ++ ds)
  happened_all r ds d =
      rises-rising (happened-rising P C frozen applied blockings clashes moved barring excluding defaults nines r) (happened-same ds d)

-- of all worlds, where there is one
pub happened-over : (P : Plan) (C : Case) (bs : List Bound) (w : World) (ws : List World) (frozen applied : ℕ) (blockings clashes : ℕ → ℕ) (moved barring excluding defaults : ℕ) (nines : List ℕ)
    → Gathered P (case_heading C).roster (w ∷ ws) frozen applied blockings clashes moved barring excluding nines → Rises (map (little_bytes 8) nines)
    → ((f : ℕ) → f < fact_count P → has defaults f ≡ took_default P C f)
    → happened P C frozen applied blockings clashes moved barring excluding defaults nines ≡ events_over P C bs (w ∷ ws)
unfolding events_over
happened-over P C bs w ws frozen applied blockings clashes moved barring excluding defaults nines G r h =
    happened_all P C (case_heading C).roster (w ∷ ws) frozen applied blockings clashes moved barring excluding defaults nines G r (default_events P C)
    (defaults_asked P C defaults h)

-- of one world
pub happened_in : (P : Plan) (C : Case) (roster : ℕ) (w : World) (frozen applied : ℕ) (blockings clashes : ℕ → ℕ) (moved barring excluding defaults : ℕ) (nines : List ℕ)
    → Gathered P roster (w ∷ []) frozen applied blockings clashes moved barring excluding nines → Rises (map (little_bytes 8) nines)
    → ((f : ℕ) → f < fact_count P → has defaults f ≡ false)
    → happened P C frozen applied blockings clashes moved barring excluding defaults nines ≡ rising (events_of P C roster w)
happened_in P C roster w frozen applied blockings clashes moved barring excluding defaults nines G r h =
    happened_all P C roster (w ∷ []) frozen applied blockings clashes moved barring excluding defaults nines G r [] (defaults-none P defaults h)
    ∙ ap rising (append-nil (flat_map (events_of P C roster) (w ∷ [])) ∙ (unfold flat_map in append-nil (events_of P C roster w)))
