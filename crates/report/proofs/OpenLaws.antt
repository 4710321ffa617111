-- From the code's structs to what stands before the worlds are looked at: the refusals of a case in their order, an incomplete roster, a ready case.
use mathlib.Core.Path.{◌≡◌, refl, sym, ap, ◌∙◌, subst}
use mathlib.Core.Bool.{Bool, true, false, cond, true≢false}
use mathlib.Core.List.{List, [], ◌∷◌}
use mathlib.Core.Logic.{◌⊎◌, inl, inr}
use Prim.Native.Nat.{ℕ, zero, suc, ◌*◌, ◌≤◌}
use native.Mathlib.Omega.{arith}
use lib.ListN.{length, get_or, replicate, length-take}
use lib.Seq.{get_or-take}
use lib.Dec.{eqb, ltb}
use borrow.Author.Tests.{ltb-false}
use Rattle.sets.specs.paper.Sets.{size, subset, All}
use Rattle.records.specs.paper.Fields.{Verdict, fine, refused}
use Rattle.records.specs.paper.Plan.{Plan, Heading}
use Rattle.records.specs.paper.Case.{Case, CaseHeading, case_heading}
use Rattle.records.specs.promises.Sound.{Sound, SoundCase}
use Rattle.records.specs.code.Check.{checked_of}
use Rattle.records.specs.code.Decoded.{plan_of, case_of, case_heading_of, if_given, statuses_of}
use Rattle.records.specs.declared.plan.Plan.{Plan as Coded}
use Rattle.records.specs.declared.case.Case.{Case as CodedCase}
use Rattle.records.specs.declared.checked.Checked.{Checked}
use Rattle.records.specs.declared.checked.Checked.TheVariants as checked
use Rattle.records.proofs.AcceptedCase.{sound-heading}
use Rattle.records.proofs.CheckLaws.{refused_is}
use Rattle.expressions.specs.paper.Rules.{rule_persons}
use Rattle.expressions.specs.paper.Influence.{Frame, open_decisions}
use Rattle.expressions.specs.paper.Bindings.{Bound, bindings, bindings_by, binding_at, bindable, frame_of}
use Rattle.expressions.specs.paper.Variables.{world_count}
use Rattle.expressions.specs.code.Codes.{bound_of}
use Rattle.expressions.specs.code.Coded.{frame_by, PersonFits, HoldsUses}
use Rattle.expressions.specs.code.Counted.{count_against, Counts}
use Rattle.expressions.specs.code.Reached.{Reached}
use Rattle.expressions.specs.code.Told.{BindsFacts}
use Rattle.expressions.specs.declared.bindings.Bound.{Bound as CodedBound}
use Rattle.expressions.specs.declared.reach.Reach.{Reach}
use Rattle.expressions.specs.declared.variables.Count.{Count}
use Rattle.expressions.proofs.FitLaws.{statuses-fit}
use Rattle.expressions.proofs.OpenLaws.{opens-number}
use Rattle.expressions.proofs.FactLaws.{bindings_by_lem}
use Rattle.expressions.proofs.ReachLaws.{heading_of, frame_of_lem}
use Rattle.report.specs.paper.Line.{line_length}
use Rattle.report.specs.paper.Operations.{relation_of, mismatched, heading_fault, too_many, Opened, stopped, incomplete, ready, or_stop, unless_fault, counted, bound_and_counted, bound}
use Rattle.report.specs.code.Opening.{RulePersons, HeadingFault}
use Rattle.report.specs.code.Operate.{headed}
use Rattle.report.specs.code.Ready.{IsReady}
use Rattle.report.specs.code.Open.{stop_by, opened_of, OpensCase}
use Rattle.report.specs.declared.Answer.TheVariants.{Refused, TooManyWorlds}
use Rattle.report.specs.declared.open.Opened.{Opened as CodedOpened}
use Rattle.report.specs.declared.open.Stop.{Stop}
use Rattle.report.specs.declared.open.Stop.TheVariants.{Nothing, Incomplete, Stopped}
use Rattle.report.proofs.Answered.{bindable_split}
use Rattle.report.proofs.OpenedLaws.{on-roster}
use Rattle.report.proofs.ReadyLaws.{somebody}

-- ---- the first that stops

-- where nothing stops, there are not too many worlds
unrefused : (k : ℕ) (b : Bool) (f : Checked) (n : Count) → stop_by k b f n ≡ Nothing → n.refused ≡ false
unfolding stop_by
unrefused (suc k) b f n e = let z : ◌≡◌ {A = ℕ} 0 1 = cc in absurd (omega arith)
unrefused zero false f n e = let z : ◌≡◌ {A = ℕ} 0 1 = cc in absurd (omega arith)
unrefused zero true (checked.Refused m j) n e = let z : ◌≡◌ {A = ℕ} 0 1 = cc in absurd (omega arith)
unrefused zero true checked.Accepted n e = told n.refused e
  where
    told : (b : Bool) → cond b (Stopped (TooManyWorlds n.count n.maximum)) Nothing ≡ Nothing → b ≡ false
    told true e = let z : ◌≡◌ {A = ℕ} 0 1 = cc in absurd (omega arith)
    told false e = refl

-- what is accepted is not refused
not-both : {A : Type 0} (v : Verdict A) {n k : ℕ} → checked_of v ≡ checked.Accepted → v ≡ refused n k → ⊥
unfolding checked_of
not-both (fine a) e f = let z : ◌≡◌ {A = ℕ} 0 1 = cc in omega arith
not-both (refused m j) e f = let z : ◌≡◌ {A = ℕ} 0 1 = cc in omega arith

-- the code's count and maximum are those of refusal 11
too_many_lem : (n most : ℕ) → too_many n most ≡ TooManyWorlds (count_against n most).count (count_against n most).maximum
unfolding too_many count_against
too_many_lem n most = refl

-- ---- the heading

module _ (plan : Coded) (c : CodedCase) (sound : Sound (plan_of plan)) (sane : SoundCase (plan_of plan) (case_of c)) where
  abbrev Pl : Plan
  Pl = plan_of plan

  abbrev Ca : Case
  Ca = case_of c

  headed_by : case_heading Ca ≡ case_heading_of c.heading
  headed_by = heading_of c sane.heading

  roster_is : (case_heading Ca).roster ≡ c.heading.roster
  unfolding case_heading_of
  roster_is = ap (λ (h : CaseHeading). h.roster) headed_by

  relation_is : plan.relation ≡ relation_of Pl
  unfolding plan_of
  relation_is =
      let h : Heading = record { relation = plan.relation; chain = if_given plan.chained plan.chain } in
      let l = length-take plan.headings (h ∷ []) in
      ap (λ (h : Heading). h.relation) (sym (get_or-take plan.headings (h ∷ []) 0 (record { relation = 0; chain = [] }) (omega (arith, l, sound.heading))))

  pub persons-fit : All PersonFits (statuses_of plan.statuses)
  unfolding plan_of
  persons-fit = statuses-fit Pl sound

  module _ (room : ℕ) where
    abbrev fault : ℕ
    fault = heading_fault Pl (case_heading Ca) room

    heading_stops : (k : ℕ) → fault ≡ suc k → headed plan c room ≡ stopped (Refused (suc k) 0)
    unfolding headed
    heading_stops k e = ap (λ (k : ℕ). unless_fault k (bound Pl Ca)) e

    -- what is not stopped has no fault
    abbrev goes : Opened → Bool
    goes (stopped a) = false
    goes (incomplete r) = true
    goes (ready P C bs) = true

    faultless : {o : Opened} → headed plan c room ≡ o → goes o ≡ true → fault ≡ 0
    unfolding headed
    faultless h e = without fault (ap goes h ∙ e)
      where
        without : (k : ℕ) → goes (unless_fault k (bound Pl Ca)) ≡ true → k ≡ 0
        without zero e = refl
        without (suc k) e = absurd (true≢false (sym e))

    module _ (z : fault ≡ 0) where
      heading-passes : headed plan c room ≡ bound Pl Ca
      unfolding headed
      heading-passes = ap (λ (k : ℕ). unless_fault k (bound Pl Ca)) z

      persons-named : subset (rule_persons Pl) c.heading.roster ≡ true
      persons-named = subst (λ (m : ℕ). subset (rule_persons Pl) m ≡ true) roster_is (on-roster Pl (case_heading Ca) room z)

      roster-peopled : c.heading.roster ≡ 0 → ⊥
      roster-peopled e = somebody Pl (case_heading Ca) room z (roster_is ∙ e)

      lines_fit : line_length * size c.heading.roster ≤ room
      unfolding heading_fault
      lines_fit =
          subst (λ (m : ℕ). line_length * size m ≤ room) roster_is
          (ltb-false room (line_length * size (case_heading Ca).roster)
          (fits (case_heading Ca).segment_complete (mismatched Pl (case_heading Ca)) (ltb room (line_length * size (case_heading Ca).roster)) z))
        where
          fits : (a b d : Bool) → ◌≡◌ {A = ℕ} (cond a (cond b 9 (cond d 12 0)) 8) 0 → d ≡ false
          fits true true d e = absurd (omega arith)
          fits true false true e = absurd (omega arith)
          fits true false false e = refl
          fits false b d e = absurd (omega arith)

      -- by whether the roster is complete
      by_complete : (b : Bool) → c.heading.complete ≡ b
          → bound Pl Ca ≡ cond (eqb (length (if_given b c.heading.evidence)) 0) (incomplete c.heading.roster) (bound_and_counted Pl Ca)
      unfolding bound case_heading_of
      by_complete b e =
          ap (λ (h : CaseHeading). cond (eqb (length h.complete) 0) (incomplete h.roster) (bound_and_counted Pl Ca)) headed_by
          ∙ ap (λ (b : Bool). cond (eqb (length (if_given b c.heading.evidence)) 0) (incomplete c.heading.roster) (bound_and_counted Pl Ca)) e

      roster-complete : c.heading.complete ≡ true → bound_and_counted Pl Ca ≡ headed plan c room
      roster-complete e = sym (heading-passes ∙ by_complete true e)

      roster-incomplete : c.heading.complete ≡ false → headed plan c room ≡ incomplete c.heading.roster
      roster-incomplete e = heading-passes ∙ by_complete false e

  -- ---- binding

  abbrev bs : List Bound
  bs = bindings Pl Ca

  binding_stops : (n k : ℕ) → checked_of (bindable Ca) ≡ checked.Refused n k → bound_and_counted Pl Ca ≡ stopped (Refused n k)
  unfolding bound_and_counted
  binding_stops n k e = ap (λ (v : Verdict Case). or_stop v (λ C. counted Pl C (bindings Pl C))) (refused_is (bindable Ca) (sym e))

  binding_passes : checked_of (bindable Ca) ≡ checked.Accepted → bound_and_counted Pl Ca ≡ counted Pl Ca bs
  unfolding bound_and_counted
  binding_passes e = ap (λ (v : Verdict Case). or_stop v (λ C. counted Pl C (bindings Pl C))) (whole (bindable_split Ca))
    where
      whole : (bindable Ca ≡ fine Ca) ⊎ ((n : ℕ) × (j : ℕ) × (bindable Ca ≡ refused (suc n) j)) → bindable Ca ≡ fine Ca
      whole (inl f) = f
      whole (inr x) = absurd (not-both (bindable Ca) e x.2)

  module _ (reach : Reach) (reached : Reached (frame_by plan c.heading.roster c.constraints) reach) (codes : List ℕ)
      (coded : (f : ℕ) → bound_of (get_or codes f 0) ≡ binding_at (bindings_by Pl Ca reach.bound) f) where
    over : Reached (frame_of Pl Ca) reach
    over = subst (λ (F : Frame). Reached F reach) (frame_of_lem plan c sane.heading) reached

    codes-bound : (f : ℕ) → bound_of (get_or codes f 0) ≡ binding_at bs f
    codes-bound f = coded f ∙ ap (λ (m : ℕ). binding_at (bindings_by Pl Ca m) f) over.bound ∙ ap (λ (l : List Bound). binding_at l f) (bindings_by_lem Pl Ca)

    module _ (r : Count) (counts : Counts codes reach.count reach.undecided.count c.heading.most_worlds r) where
      worlds-counted : r ≡ count_against (world_count Pl bs) (case_heading Ca).most_worlds
      unfolding case_heading_of
      worlds-counted =
          counts.worlds Pl bs (sym over.count) (sym (opens-number reach.undecided (open_decisions Pl) over.opens)) codes-bound
          ∙ ap (λ (h : CaseHeading). count_against (world_count Pl bs) h.most_worlds) (sym headed_by)

      over-most : ltb (case_heading Ca).most_worlds (world_count Pl bs) ≡ r.refused
      unfolding count_against
      over-most = sym (ap (λ (k : Count). k.refused) worlds-counted)

      module _ (e : checked_of (bindable Ca) ≡ checked.Accepted) where
        count_stops : r.refused ≡ true → bound_and_counted Pl Ca ≡ stopped (TooManyWorlds r.count r.maximum)
        unfolding counted
        count_stops h =
            binding_passes e
            ∙ ap (λ (b : Bool). cond b (stopped (too_many (world_count Pl bs) (case_heading Ca).most_worlds)) (ready Pl Ca bs)) (over-most ∙ h)
            ∙ ap stopped (too_many_lem (world_count Pl bs) (case_heading Ca).most_worlds ∙ ap (λ (k : Count). TooManyWorlds k.count k.maximum) (sym worlds-counted))

        count-passes : r.refused ≡ false → bound_and_counted Pl Ca ≡ ready Pl Ca bs
        unfolding counted
        count-passes h =
            binding_passes e
            ∙ ap (λ (b : Bool). cond b (stopped (too_many (world_count Pl bs) (case_heading Ca).most_worlds)) (ready Pl Ca bs)) (over-most ∙ h)

      worlds-few : r.refused ≡ false → world_count Pl bs ≤ 4096
      unfolding case_heading
      worlds-few h =
          let a = ltb-false (case_heading Ca).most_worlds (world_count Pl bs) (over-most ∙ h) in
          let b : (case_heading Ca).most_worlds ≤ 4096 = (sound-heading sane).most_worlds in
          omega (arith, a, b)

  -- ---- what the code finds

  module _ (reach : Reach) (reached : Reached (frame_by plan c.heading.roster c.constraints) reach)
      (persons : ℕ) (listed : RulePersons reach.groups plan.statuses persons)
      (room k : ℕ) (told : HeadingFault c.heading plan.relation persons room k)
      (found : Checked) (bindable-is : found ≡ checked_of (bindable Ca))
      (b : CodedBound) (binds : BindsFacts Pl Ca reach.bound b)
      (n : Count) (counts : Counts b.codes reach.count reach.undecided.count c.heading.most_worlds n) where
    fault_is : k ≡ fault room
    unfolding frame_by plan_of
    fault_is = told.at Pl relation_is (listed.at Pl reached.groups refl) ∙ ap (λ (h : CaseHeading). heading_fault Pl h room) (sym headed_by)

    by_count : checked_of (bindable Ca) ≡ checked.Accepted → (q : Bool) → n.refused ≡ q
        → bound_and_counted Pl Ca ≡ opened_of plan c (cond q (Stopped (TooManyWorlds n.count n.maximum)) Nothing)
    by_count e true h = count_stops reach reached b.codes binds.codes n counts e h
    by_count e false h = count-passes reach reached b.codes binds.codes n counts e h

    by_found : (f : Checked) → checked_of (bindable Ca) ≡ f → bound_and_counted Pl Ca ≡ opened_of plan c (stop_by zero true f n)
    unfolding stop_by
    by_found (checked.Refused m j) e = binding_stops m j e
    by_found checked.Accepted e = by_count e n.refused refl

    by_roster : fault room ≡ 0 → (q : Bool) → c.heading.complete ≡ q → headed plan c room ≡ opened_of plan c (stop_by zero q found n)
    unfolding stop_by
    by_roster z false e = roster-incomplete room z e
    by_roster z true e = sym (roster-complete room z e) ∙ by_found found (sym bindable-is)

    by_fault : (j : ℕ) → fault room ≡ j → headed plan c room ≡ opened_of plan c (stop_by j c.heading.complete found n)
    unfolding stop_by
    by_fault (suc j) e = heading_stops room j e
    by_fault zero e = by_roster e c.heading.complete refl

    pub opens : (s : Stop) → s ≡ stop_by k c.heading.complete found n → OpensCase plan c room (record { stop = s; reach = reach; bound = b })
    opens s e = record {
      opened = by_fault k (sym fault_is) ∙ ap (opened_of plan c) (sym e);
      reached = reached;
      bound = codes-bound reach reached b.codes binds.codes;
      defaulted = binds.defaults;
      few = λ h. worlds-few reach reached b.codes binds.codes n counts (unrefused k c.heading.complete found n (sym e ∙ h));
    }

  -- ---- what follows for lines and worlds

  module _ (lines : List ℕ) (o : CodedOpened) (h : OpensCase plan c (length lines) o) where
    pub bare_fits : o.stop ≡ Incomplete → line_length * size c.heading.roster ≤ length lines
    bare_fits e = lines_fit (length lines) (faultless (length lines) (h.opened ∙ ap (opened_of plan c) e) refl)

    pub is_ready : o.stop ≡ Nothing → (uses events : List ℕ) → HoldsUses plan.nodes uses → lines ≡ replicate (length lines) 0 → events ≡ replicate (length events) 0
        → IsReady plan c o.reach o.bound uses lines events
    is_ready e uses events u z n = let f = faultless (length lines) (h.opened ∙ ap (opened_of plan c) e) refl in record {
      sound = sound;
      sane = sane;
      peopled = roster-peopled (length lines) f;
      named = persons-named (length lines) f;
      textual = u;
      reached = h.reached;
      bound = h.bound;
      defaulted = h.defaulted;
      few = h.few e;
      room = lines_fit (length lines) f;
      zeros = z;
      none = n;
    }
