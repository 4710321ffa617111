-- The records of a sound plan, kind after kind, are read back as the plan.
use mathlib.Core.Path.{◌≡◌, refl, sym, ap, ap₂, ◌∙◌, subst}
use mathlib.Core.Bool.{Bool, true, ◌&&◌}
use mathlib.Core.List.{List, [], ◌∷◌, ◌++◌, append-nil, map}
use Prim.Native.Nat.{ℕ, ◌+◌, ◌-◌, ◌≤◌, zero-le}
use native.Mathlib.Nat.{le_trans}
use native.Mathlib.Omega.{arith}
use lib.ListN.{length, get_or, length-append, length-map}
use lib.Seq.{append_snoc}
use borrow.Author.Tests.{le-ltb, ne_eqb}
use Rattle.sets.specs.paper.Sets.{all_of, All}
use Rattle.sets.proofs.SetLaws.{and_parts}
use Rattle.sets.proofs.Every.{all_then}
use Rattle.records.specs.paper.Fields.{Raw, format_of, fine}
use Rattle.records.specs.paper.Plan.{Plan, Fact, Cut, plan_formats, add_to_plan, plan_counts, rises, facts_rise, unresolved, judge_plan, empty_plan, plan_records, heading_from, fact_from, node_from, edge_from, cut_from, attachment_from, bar_from, status_from}
use Rattle.records.specs.promises.Sound.{SoundEdge, SoundCut, SoundAttachment, SoundBar, SoundStatus, SoundHeading, SoundFact, Sound}
use Rattle.records.specs.code.PlanPasses.{with_headings, with_facts, with_nodes, with_edges, with_cuts, with_attachments, with_bars, with_statuses}
use Rattle.records.proofs.ListLaws.{all_append}
use Rattle.records.proofs.KindLaws.{once, length_more}
use Rattle.encoding.specs.paper.Encoded.{heading_raw, fact_raw, node_raw, edge_raw, cut_raw, attachment_raw, bar_raw, status_raw, raws_of, plan_bytes}
use Rattle.encoding.proofs.Joined.{Reads, read-joined, records_fewer}
use Rattle.encoding.proofs.Tested.{each_test}
use Rattle.encoding.proofs.KindsBack.{Written, NodeFits, nodes-fit, heading-written, fact-written, node_written, edge-written, cut-written, attachment-written, bar-written, status-written}

-- ---- nothing is wrong with a record

pub record Passes (r : Raw) (Q : Plan) : Type 0 where
  pub limit : get_or (plan_counts Q) (r.kind - 1) 0 ≤ (format_of plan_formats r.kind).limit
  pub few : unresolved Q.cuts ≤ 16
  pub heading : 1 ≤ length Q.headings
  pub rise : facts_rise Q.facts ≡ true
  pub decided : all_of once Q.cuts ≡ true

judge-none : (r : Raw) (Q : Plan) → (format_of plan_formats r.kind).fits r.bits ≡ true → Passes r Q → judge_plan r Q ≡ 0
unfolding judge_plan
judge-none r Q right p =
    rw (le-ltb _ _ p.limit, le-ltb 16 (unresolved Q.cuts) p.few, right, ne_eqb (length Q.headings) 0 (λ e. let h = p.heading in omega arith), p.rise, p.decided)

-- ---- the records of one kind join one by one

abbrev ReadsPlan : ℕ → Plan → List Raw → Plan → Type 0
ReadsPlan = Reads plan_formats add_to_plan judge_plan

module _ {A : Type 0} (kind : ℕ) (make : Raw → A) (raw : A → Raw) (state : List A → Plan) (Ok : A → Type 0) (Good : List A → Type 0)
    (kinds : (x : A) → (raw x).kind ≡ kind)
    (shorter : (xs ys : List A) → Good (xs ++ ys) → Good xs)
    (written : (x : A) → Ok x → Written make x (raw x))
    (adds : (xs : List A) (x : A) → add_to_plan (raw x) (state xs) ≡ state (xs ++ (make (raw x) ∷ [])))
    (passes : (xs : List A) (x : A) → Good (xs ++ (x ∷ [])) → Passes (raw x) (state (xs ++ (x ∷ []))))
    (rest : List Raw) (P : Plan) where
  joining : (done todo : List A) (before : ℕ) → before ≤ kind → All Ok todo → Good (done ++ todo)
      → ((k : ℕ) → k ≤ kind → ReadsPlan k (state (done ++ todo)) rest P) → ReadsPlan before (state done) (map raw todo ++ rest) P
  joining done [] before l h g next = subst (λ (xs : List A). ReadsPlan before (state xs) rest P) (append-nil done) (next before l)
  joining done (x ∷ xs) before l h g next =
      let k = kinds x in
      let w = written x h.0 in
      let e = adds done x ∙ ap (λ (y : A). state (done ++ (y ∷ []))) w.back in
      let snoc = append_snoc done x xs in
      let g' : Good ((done ++ (x ∷ [])) ++ xs) = subst Good (sym snoc) g in (
        w.fits,
        omega arith,
        ap (judge_plan (raw x)) e ∙ judge-none (raw x) (state (done ++ (x ∷ []))) w.right (passes done x (shorter (done ++ (x ∷ [])) xs g')),
        subst (λ (Q : Plan). ReadsPlan (raw x).kind Q (map raw xs ++ rest) P) (sym e)
            (joining (done ++ (x ∷ [])) xs (raw x).kind (omega arith) h.1 g' (λ k l. subst (λ (ys : List A). ReadsPlan k (state ys) rest P) (sym snoc) (next k l))),
      )

-- ---- what holds of a list holds of its beginning

longer : {A : Type 0} (xs ys : List A) → length xs ≤ length (xs ++ ys)
longer xs ys = let e = length-append xs ys in omega arith

fewer : {A : Type 0} (n : ℕ) (xs ys : List A) → length (xs ++ ys) ≤ n → length xs ≤ n
fewer n xs ys l = le_trans (longer xs ys) l

rises_shorter : (xs ys : List Fact) → facts_rise (xs ++ ys) ≡ true → facts_rise xs ≡ true
unfolding facts_rise
rises_shorter [] ys h = refl
rises_shorter (f ∷ []) ys h = refl
rises_shorter (f ∷ g ∷ fs) ys h =
    let t = and_parts (rises f g) (facts_rise (g ∷ (fs ++ ys))) h in
    ap₂ (λ (x y : Bool). x && y) t.0 (rises_shorter (g ∷ fs) ys t.1)

unresolved_shorter : (xs ys : List Cut) → unresolved xs ≤ unresolved (xs ++ ys)
unfolding unresolved
unresolved_shorter [] ys = zero-le
unresolved_shorter (c ∷ cs) ys = let h = unresolved_shorter cs ys in omega arith

-- facts that rise, cuts that are few and decide each edge once
abbrev FactsGood : List Fact → Type 0
FactsGood xs = (length xs ≤ 64) × (facts_rise xs ≡ true)

abbrev CutsGood : List Cut → Type 0
CutsGood xs = (length xs ≤ 16) × (unresolved xs ≤ 16) × (all_of once xs ≡ true)

cuts_shorter : (xs ys : List Cut) → CutsGood (xs ++ ys) → CutsGood xs
cuts_shorter xs ys g = (
  fewer 16 xs ys g.0,
  (let a = unresolved_shorter xs ys in let b = g.1 in omega arith),
  (and_parts (all_of once xs) (all_of once ys) (sym (all_append once xs ys) ∙ g.2)).0,
)

-- ---- kind by kind

module _ (P : Plan) (S : Sound P) where
  decided : all_of once P.cuts ≡ true
  decided = each_test once P.cuts (all_then (SoundCut P) (λ c. once c ≡ true) (λ c s. s.once) P.cuts S.cuts)

  headed : 1 ≤ length P.headings
  headed = let e = S.heading in omega arith

  -- what is read when so many kinds are
  abbrev after1 : Plan
  after1 = with_headings empty_plan P.headings

  abbrev after2 : Plan
  after2 = with_facts after1 P.facts

  abbrev after3 : Plan
  after3 = with_nodes after2 P.nodes

  abbrev after4 : Plan
  after4 = with_edges after3 P.edges

  abbrev after5 : Plan
  after5 = with_cuts after4 P.cuts

  abbrev after6 : Plan
  after6 = with_attachments after5 P.attachments

  abbrev after7 : Plan
  after7 = with_bars after6 P.bars

  join_headings : (rest : List Raw) → ((k : ℕ) → k ≤ 1 → ReadsPlan k after1 rest P) → ReadsPlan 0 empty_plan (map heading_raw P.headings ++ rest) P
  unfolding add_to_plan plan_formats plan_counts facts_rise unresolved all_of
  join_headings rest next =
      joining 1 heading_from heading_raw (with_headings empty_plan) SoundHeading (λ xs. length xs ≤ 1) (λ x. refl) (fewer 1) heading-written (λ xs x. refl)
      (λ xs x g. record { limit = g; few = zero-le; heading = let e = length_more xs x in omega arith; rise = refl; decided = refl })
      rest P [] P.headings 0 zero-le S.headings (let e = S.heading in omega arith) next

  join_facts : (rest : List Raw) (k : ℕ) → k ≤ 1 → ((k : ℕ) → k ≤ 2 → ReadsPlan k after2 rest P) → ReadsPlan k after1 (map fact_raw P.facts ++ rest) P
  unfolding add_to_plan plan_formats plan_counts unresolved all_of
  join_facts rest k l next =
      joining 2 fact_from fact_raw (with_facts after1) SoundFact FactsGood (λ x. refl) (λ xs ys g. (fewer 64 xs ys g.0, rises_shorter xs ys g.1)) fact-written (λ xs x. refl)
      (λ xs x g. record { limit = g.0; few = zero-le; heading = headed; rise = g.1; decided = refl })
      rest P [] P.facts k (omega arith) S.facts (S.fact_limit, S.rise) next

  join_nodes : (rest : List Raw) (k : ℕ) → k ≤ 2 → ((k : ℕ) → k ≤ 3 → ReadsPlan k after3 rest P) → ReadsPlan k after2 (map node_raw P.nodes ++ rest) P
  unfolding add_to_plan plan_formats plan_counts unresolved all_of
  join_nodes rest k l next =
      joining 3 node_from node_raw (with_nodes after2) NodeFits (λ xs. length xs ≤ 256) (λ x. refl) (fewer 256) node_written (λ xs x. refl)
      (λ xs x g. record { limit = g; few = zero-le; heading = headed; rise = S.rise; decided = refl })
      rest P [] P.nodes k (omega arith) (nodes-fit P S) S.node_limit next

  join_edges : (rest : List Raw) (k : ℕ) → k ≤ 3 → ((k : ℕ) → k ≤ 4 → ReadsPlan k after4 rest P) → ReadsPlan k after3 (map edge_raw P.edges ++ rest) P
  unfolding add_to_plan plan_formats plan_counts unresolved all_of
  join_edges rest k l next =
      joining 4 edge_from edge_raw (with_edges after3) (SoundEdge P) (λ xs. length xs ≤ 64) (λ x. refl) (fewer 64) (edge-written P S) (λ xs x. refl)
      (λ xs x g. record { limit = g; few = zero-le; heading = headed; rise = S.rise; decided = refl })
      rest P [] P.edges k (omega arith) S.edges S.edge_limit next

  join_cuts : (rest : List Raw) (k : ℕ) → k ≤ 4 → ((k : ℕ) → k ≤ 5 → ReadsPlan k after5 rest P) → ReadsPlan k after4 (map cut_raw P.cuts ++ rest) P
  unfolding add_to_plan plan_formats plan_counts
  join_cuts rest k l next =
      joining 5 cut_from cut_raw (with_cuts after4) (SoundCut P) CutsGood (λ x. refl) cuts_shorter (cut-written P S) (λ xs x. refl)
      (λ xs x g. record { limit = g.0; few = g.1; heading = headed; rise = S.rise; decided = g.2 })
      rest P [] P.cuts k (omega arith) S.cuts (S.cut_limit, S.decision_limit, decided) next

  join_attachments : (rest : List Raw) (k : ℕ) → k ≤ 5 → ((k : ℕ) → k ≤ 6 → ReadsPlan k after6 rest P) → ReadsPlan k after5 (map attachment_raw P.attachments ++ rest) P
  unfolding add_to_plan plan_formats plan_counts
  join_attachments rest k l next =
      joining 6 attachment_from attachment_raw (with_attachments after5) (SoundAttachment P) (λ xs. length xs ≤ 32) (λ x. refl) (fewer 32) (attachment-written P S) (λ xs x. refl)
      (λ xs x g. record { limit = g; few = S.decision_limit; heading = headed; rise = S.rise; decided = decided })
      rest P [] P.attachments k (omega arith) S.attachments S.attachment_limit next

  join_bars : (rest : List Raw) (k : ℕ) → k ≤ 6 → ((k : ℕ) → k ≤ 7 → ReadsPlan k after7 rest P) → ReadsPlan k after6 (map bar_raw P.bars ++ rest) P
  unfolding add_to_plan plan_formats plan_counts
  join_bars rest k l next =
      joining 7 bar_from bar_raw (with_bars after6) (SoundBar P) (λ xs. length xs ≤ 32) (λ x. refl) (fewer 32) (bar-written P S) (λ xs x. refl)
      (λ xs x g. record { limit = g; few = S.decision_limit; heading = headed; rise = S.rise; decided = decided })
      rest P [] P.bars k (omega arith) S.bars S.bar_limit next

  join_statuses : (k : ℕ) → k ≤ 7 → ReadsPlan k after7 (map status_raw P.statuses) P
  unfolding add_to_plan plan_formats plan_counts
  join_statuses k l =
      subst (λ (rs : List Raw). ReadsPlan k after7 rs P) (append-nil (map status_raw P.statuses))
      (joining 8 status_from status_raw (with_statuses after7) (SoundStatus P) (λ xs. length xs ≤ 32) (λ x. refl) (fewer 32) (status-written P S) (λ xs x. refl)
      (λ xs x g. record { limit = g; few = S.decision_limit; heading = headed; rise = S.rise; decided = decided })
      [] P [] P.statuses k (omega arith) S.statuses S.status_limit (λ k l. refl))

  reads_plan : ReadsPlan 0 empty_plan (raws_of P) P
  unfolding raws_of
  reads_plan =
      join_headings _ (λ k l. join_facts _ k l (λ k l. join_nodes _ k l (λ k l. join_edges _ k l (λ k l.
      join_cuts _ k l (λ k l. join_attachments _ k l (λ k l. join_bars _ k l (λ k l. join_statuses k l)))))))

  some_record : 1 ≤ length (raws_of P)
  unfolding raws_of
  some_record = le_trans (let m = length-map P.headings heading_raw in let h = headed in omega arith) (longer (map heading_raw P.headings) _)

  -- THE RECORDS OF A SOUND PLAN ARE READ BACK
  pub records_back : plan_records (plan_bytes P) ≡ fine P
  unfolding plan_records plan_bytes
  records_back =
      read-joined plan_formats add_to_plan judge_plan (raws_of P) (length (plan_bytes P) + 1) [] 0 empty_plan P 0
      (let l = records_fewer plan_formats add_to_plan judge_plan (raws_of P) in omega arith) (let l = some_record in omega arith) reads_plan
