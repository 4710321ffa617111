-- Each record of a plan, read and free of refusal 4, is sound.
use mathlib.Core.Path.{◌≡◌, refl, sym, ap, subst, ◌∙◌}
use mathlib.Core.Bool.{Bool, true, false, ◌&&◌, ◌||◌, cond, true≢false, false≢true}
use mathlib.Core.List.{List, [], ◌∷◌}
use Prim.Native.Nat.{ℕ, ◌+◌, ◌≤◌, ◌<◌, zero-le, suc-le-suc}
use native.Mathlib.Nat.{le_refl}
use native.Mathlib.Numerals.{add-one}
use lib.ListN.{length}
use lib.Dec.{eqb, ltb}
use borrow.Author.Tests.{ltb-true, eqb-true}
use Rattle.sets.specs.paper.Sets.{has, all_of, All}
use Rattle.records.specs.paper.Fields.{Raw, field, num, number, citation, person, actor, up_to, byte, election, list, fault}
use Rattle.records.specs.paper.Plan.{Plan, Node, literal, fact, conj, disj, neg, Decision, plan_formats, fact_bits, heading_from, fact_from, node_from, election_from, decisions_from, edge_from, cut_from, attachment_from, bar_from, status_from, is_boolean, decided_once, each_from, boolean_fact, node_sound, edge_sound, election_sound, cut_sound, attachment_sound, node_number, crossings_decided}
use Rattle.records.specs.promises.Sound.{SoundNode, SoundNodes, SoundElection, SoundEdge, SoundDecision, SoundCut, SoundAttachment, SoundBar, SoundStatus, SoundHeading, SoundFact, Numbers}
use Rattle.sets.proofs.Every.{all_both, all_tested, all_less}
use Rattle.sets.proofs.SetLaws.{and_parts, subset-true}
use Rattle.records.proofs.FieldLaws.{Ranged, Standing, Held, Fitting, stands, held, byte_in_range, byte-top, byte-numbers, list-numbers, mask_below, pairs, list-pairs}
use Rattle.records.proofs.ReadLaws.{not_faulty, Made}

named : (most bound top : ℕ) (v : List ℕ) → Numbers most top v → all_of (λ i. ltb i bound) v ≡ true → Numbers most bound v
named most bound top v n e = (n.0, all_less bound v (all_tested (λ i. ltb i bound) v e))

abbrev VerdictFits : Decision → Type 0
VerdictFits d = (1 ≤ d.verdict) × (d.verdict < 4)

decisions_in : (v : List ℕ) → Held (list 64 (number ∷ record { low = 1; top = 3 } ∷ [])) v → (length (decisions_from v) ≤ 64) × All VerdictFits (decisions_from v)
unfolding pairs decisions_from
decisions_in v h =
    subst (λ (ds : List Decision). (length ds ≤ 64) × All VerdictFits ds) (same v)
    (list-pairs make VerdictFits 64 number (record { low = 1; top = 3 }) (λ x y _ l. (l.0, suc-le-suc l.1)) v h)
  where
    make : ℕ → ℕ → Decision
    make e d = record { edge = e; verdict = d }

    same : (v : List ℕ) → pairs make v ≡ decisions_from v
    same [] = refl
    same (e ∷ []) = refl
    same (e ∷ d ∷ bs) = ap (λ (ds : List Decision). make e d ∷ ds) (same bs)

module _ (P : Plan) where
  node_sound_lem : (k : ℕ) (r : Raw) → Fitting plan_formats 3 r → node_sound P k (node_from r) ≡ true → SoundNode P k (node_from r)
  unfolding node_from node_sound plan_formats
  node_sound_lem k r h = pick (has r.bits 0) (has r.bits 1) (has r.bits 2) (has r.bits 3)
    where
      pick : (a b c d : Bool)
          → node_sound P k (cond a (literal (num r 0)) (cond b (fact (num r 1)) (cond c (conj (field r 2)) (cond d (disj (field r 3)) (neg (num r 4)))))) ≡ true
          → SoundNode P k (cond a (literal (num r 0)) (cond b (fact (num r 1)) (cond c (conj (field r 2)) (cond d (disj (field r 3)) (neg (num r 4))))))
      pick true b c d e = suc-le-suc (byte-top (up_to 1 ∷ []) (field r 0) (held plan_formats 3 r h 0) 0)
      pick false true c d e = ltb-true (num r 1) (length P.facts) e
      pick false false true d e = named 16 k 256 (field r 2) (list-numbers 16 number (field r 2) (held plan_formats 3 r h 2)) e
      pick false false false true e = named 16 k 256 (field r 3) (list-numbers 16 number (field r 3) (held plan_formats 3 r h 3)) e
      pick false false false false e = ltb-true (num r 4) k e

  pub nodes-sound : (k : ℕ) (ns : List Node) → All (Made plan_formats 3 node_from) ns → All (λ n. n ≡ 0) (each_from (λ k n. fault 4 (node_sound P k n)) k ns) → SoundNodes P k ns
  unfolding each_from
  nodes-sound k [] h z = tt
  nodes-sound k (n ∷ ns) h z = (
    subst (SoundNode P k) m.2 (node_sound_lem k m.0 m.1 (subst (λ (x : Node). node_sound P k x ≡ true) (sym m.2) (not_faulty 3 (node_sound P k n) z.0))),
    subst (λ (j : ℕ). SoundNodes P j ns) (add-one k) (nodes-sound (k + 1) ns h.1 z.1),
  )
    where
      m : Made plan_formats 3 node_from n
      m = h.0

  node_number_lem : (i : ℕ) → node_number P i ≡ true → i < length P.nodes
  node_number_lem i e = ltb-true i (length P.nodes) e

  pub edge-sound : (r : Raw) → Fitting plan_formats 4 r → edge_sound P (edge_from r) ≡ true → SoundEdge P (edge_from r)
  unfolding edge_sound plan_formats
  edge-sound r h e = record {
    left = suc-le-suc (byte-top (person ∷ []) (field r 0) (held plan_formats 4 r h 0) 0);
    right = suc-le-suc (byte-top (person ∷ []) (field r 1) (held plan_formats 4 r h 1) 0);
    condition = node_number_lem (num r 2) t.0;
    citation = suc-le-suc (byte-top (citation ∷ []) (field r 3) (held plan_formats 4 r h 3) 0);
    defeaters = named 16 (length P.nodes) 256 (field r 4) (list-numbers 16 number (field r 4) (held plan_formats 4 r h 4)) t.1;
  }
    where
      t : (node_number P (num r 2) ≡ true) × (all_of (node_number P) (field r 4) ≡ true)
      t = and_parts (node_number P (num r 2)) (all_of (node_number P) (field r 4)) e

  -- an election as it stands in a cut or in an attachment
  elections-sound : (v : List ℕ) → Held election v → election_sound P (election_from v) ≡ true → All (SoundElection P) (election_from v)
  unfolding election_from election_sound all_of
  elections-sound [] h e = tt
  elections-sound (f ∷ bs) h e =
      let b = byte_in_range (number ∷ actor ∷ up_to 2 ∷ citation ∷ []) (f ∷ bs) h in
      (record { fact = (and_parts (boolean_fact P f) true e).0; actor = ((b 1).0, suc-le-suc (b 1).1); policy = suc-le-suc (b 2).1; citation = suc-le-suc (b 3).1 }, tt)

  one-election : (v : List ℕ) → length (election_from v) ≤ 1
  unfolding election_from
  one-election [] = zero-le
  one-election (f ∷ bs) = le_refl 1

  decisions-sound : (ds : List Decision) → All VerdictFits ds → all_of (λ d. ltb d.edge (length P.edges)) ds ≡ true → All (SoundDecision P) ds
  decisions-sound ds h e =
      let n = length P.edges in
      all_both VerdictFits (λ d. ltb d.edge n ≡ true) (SoundDecision P) (λ d v k. record { edge = ltb-true d.edge n k; verdict = v })
      ds h (all_tested (λ d. ltb d.edge n) ds e)

  pub cut-sound : (r : Raw) → Fitting plan_formats 5 r → (cut_sound P (cut_from r) ≡ true) × (decided_once (cut_from r).decisions ≡ true) × (crossings_decided P (cut_from r) ≡ true) → SoundCut P (cut_from r)
  unfolding cut_sound plan_formats
  cut-sound r h e = record {
    members = mask_below (field r 0) (held plan_formats 5 r h 0);
    condition = node_number_lem (num r 1) t.0;
    citation = suc-le-suc (byte-top (citation ∷ []) (field r 2) (held plan_formats 5 r h 2) 0);
    election = elections-sound (field r 3) (held plan_formats 5 r h 3) t.1;
    one = one-election (field r 3);
    few = d.0;
    decisions = decisions-sound (decisions_from (field r 4)) d.1 t.2;
    once = e.1;
    precedes = named 16 (length P.cuts) 256 (field r 5) (list-numbers 16 number (field r 5) (held plan_formats 5 r h 5)) t.3;
    crossings = e.2;
  }
    where
      edges : Bool
      edges = all_of (λ x. ltb x.edge (length P.edges)) (decisions_from (field r 4))

      cuts : Bool
      cuts = all_of (λ c. ltb c (length P.cuts)) (field r 5)

      t : (node_number P (num r 1) ≡ true) × (election_sound P (election_from (field r 3)) ≡ true) × (edges ≡ true) × (cuts ≡ true)
      t =
          let x = and_parts (node_number P (num r 1)) (election_sound P (election_from (field r 3)) && (edges && cuts)) e.0 in
          let y = and_parts (election_sound P (election_from (field r 3))) (edges && cuts) x.1 in
          let z = and_parts edges cuts y.1 in
          (x.0, y.0, z.0, z.1)

      d : (length (decisions_from (field r 4)) ≤ 64) × All VerdictFits (decisions_from (field r 4))
      d = decisions_in (field r 4) (held plan_formats 5 r h 4)

  pub attachment-sound : (r : Raw) → Fitting plan_formats 6 r → attachment_sound P (attachment_from r) ≡ true → SoundAttachment P (attachment_from r)
  unfolding attachment_sound plan_formats has
  attachment-sound r h e =
      let t = and_parts (node_number P (num r 2)) (election_sound P (election_from (field r 5))) e in
      let there = (subset-true 31 r.bits h.1).at 4 refl in
      let a = byte_in_range (actor ∷ []) (field r 4) (subst (λ (b : Bool). Standing b (byte actor) (field r 4)) there (stands plan_formats 6 r h 4)) 0 in
      record {
        members = mask_below (field r 0) (held plan_formats 6 r h 0);
        anchor = suc-le-suc (byte-top (person ∷ []) (field r 1) (held plan_formats 6 r h 1) 0);
        condition = node_number_lem (num r 2) t.0;
        citation = suc-le-suc (byte-top (citation ∷ []) (field r 3) (held plan_formats 6 r h 3) 0);
        actor = (a.0, suc-le-suc a.1);
        election = elections-sound (field r 5) (held plan_formats 6 r h 5) t.1;
        one = one-election (field r 5);
      }

  pub bar-sound : (r : Raw) → Fitting plan_formats 7 r → node_number P (num r 1) ≡ true → SoundBar P (bar_from r)
  unfolding plan_formats
  bar-sound r h e = record {
    members = mask_below (field r 0) (held plan_formats 7 r h 0);
    condition = node_number_lem (num r 1) e;
    citation = suc-le-suc (byte-top (citation ∷ []) (field r 2) (held plan_formats 7 r h 2) 0);
  }

  pub status-sound : (r : Raw) → Fitting plan_formats 8 r → node_number P (num r 1) ≡ true → SoundStatus P (status_from r)
  unfolding plan_formats
  status-sound r h e = record {
    person = suc-le-suc (byte-top (person ∷ []) (field r 0) (held plan_formats 8 r h 0) 0);
    condition = node_number_lem (num r 1) e;
    citation = suc-le-suc (byte-top (citation ∷ []) (field r 2) (held plan_formats 8 r h 2) 0);
  }

-- "Both bits or, for a boolean fact, neither"
no-tuple : (bits : ℕ) (v w : List ℕ) → Standing (has bits 0) (byte number) v → Standing (has bits 1) (list 4 (person ∷ [])) w → fact_bits bits ≡ true → eqb (length v) 0 ≡ true → w ≡ []
unfolding has
no-tuple bits v w h k f e = pick (eqb bits 3) (eqb bits 0) refl refl f
  where
    some : (v : List ℕ) → Ranged (number ∷ []) v → eqb (length v) 0 ≡ true → ⊥
    some [] h e = h
    some (b ∷ bs) h e = true≢false (sym e ∙ lib.Dec.eqb-suc-zero (length bs))

    pick : (x y : Bool) → eqb bits 3 ≡ x → eqb bits 0 ≡ y → (x || y) ≡ true → w ≡ []
    pick true y p q z = absurd (some v (subst (λ (n : ℕ). Standing (has n 0) (byte number) v) (eqb-true bits 3 p) h) e)
    pick false true p q z = subst (λ (n : ℕ). Standing (has n 1) (list 4 (person ∷ [])) w) (eqb-true bits 0 q) k
    pick false false p q z = absurd (false≢true z)

pub fact-sound : (r : Raw) → Fitting plan_formats 2 r → Unit {0} → SoundFact (fact_from r)
unfolding plan_formats
fact-sound r h e = record {
  family = byte-numbers number (field r 0) (held plan_formats 2 r h 0);
  tuple = list-numbers 4 person (field r 1) (held plan_formats 2 r h 1);
  both = unfold is_boolean in no-tuple r.bits (field r 0) (field r 1) (stands plan_formats 2 r h 0) (stands plan_formats 2 r h 1) h.1;
}

pub heading-sound : (r : Raw) → Fitting plan_formats 1 r → Unit {0} → SoundHeading (heading_from r)
unfolding plan_formats
heading-sound r h e = record {
  relation = suc-le-suc (byte-top (number ∷ []) (field r 0) (held plan_formats 1 r h 0) 0);
  chain = byte-numbers citation (field r 1) (held plan_formats 1 r h 1);
}
