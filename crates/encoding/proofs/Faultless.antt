-- A sound plan has no fault of 4, 6 and 7.
use mathlib.Core.Path.{◌≡◌, refl, sym, ap, ap₂, ◌∙◌, subst}
use mathlib.Core.Bool.{Bool, true, ◌&&◌}
use mathlib.Core.List.{List, [], ◌∷◌, ◌++◌}
use Prim.Native.Nat.{ℕ, zero, suc, ◌+◌, ◌<◌}
use native.Mathlib.Nat.{suc-ne-zero}
use native.Mathlib.Numerals.{add-one}
use lib.ListN.{length}
use lib.Dec.{ltb}
use borrow.Author.Tests.{lt-ltb}
use Rattle.sets.specs.paper.Sets.{all_of, All}
use Rattle.sets.proofs.LoopLaws.{all_append}
use Rattle.sets.proofs.Every.{all_then}
use Rattle.records.specs.paper.Fields.{Verdict, fine, first_fault, fault}
use Rattle.records.specs.paper.Plan.{Plan, Node, literal, fact, conj, disj, neg, Edge, Election, Decision, Cut, Attachment, each_from, faults, boolean_fact, node_number, node_sound, edge_sound, election_sound, cut_sound, attachment_sound, naming_faults, crossings_decided, election_faults, election_records, nodes_at, cuts_at, plan_faults}
use Rattle.records.specs.promises.Sound.{SoundNode, SoundNodes, SoundElection, SoundEdge, SoundDecision, SoundCut, SoundAttachment, SoundBar, SoundStatus, Sound}
use Rattle.encoding.proofs.Tested.{each_test}

abbrev Zero : ℕ → Type 0
Zero n = n ≡ 0

no-fault : {A : Type 0} (k : ℕ) (ns : List ℕ) (v : Verdict A) → All Zero ns → first_fault k ns v ≡ v
unfolding first_fault
no-fault k [] v h = refl
no-fault k (zero ∷ ns) v h = no-fault (k + 1) ns v h.1
no-fault k (suc n ∷ ns) v h = absurd (suc-ne-zero n h.0)

faults-none : {A : Type 0} (n : ℕ) (ok : A → Bool) (xs : List A) → All (λ x. ok x ≡ true) xs → All Zero (faults n ok xs)
faults-none n ok [] h = tt
faults-none n ok (x ∷ xs) h = (ap (fault n) h.0, faults-none n ok xs h.1)

below_test : (bound : ℕ) (v : List ℕ) → All (λ i. i < bound) v → all_of (λ i. ltb i bound) v ≡ true
below_test bound v h = each_test (λ i. ltb i bound) v (all_then (λ i. i < bound) (λ i. ltb i bound ≡ true) (λ i l. lt-ltb i bound l) v h)

module _ (P : Plan) where
  node_passes : (k : ℕ) (n : Node) → SoundNode P k n → node_sound P k n ≡ true
  unfolding node_sound
  node_passes k (literal b) s = refl
  node_passes k (fact f) s = lt-ltb f (length P.facts) s
  node_passes k (conj is) s = below_test k is s.1
  node_passes k (disj is) s = below_test k is s.1
  node_passes k (neg i) s = lt-ltb i k s

  nodes-pass : (k : ℕ) (ns : List Node) → SoundNodes P k ns → All Zero (each_from (λ k n. fault 4 (node_sound P k n)) k ns)
  unfolding each_from
  nodes-pass k [] h = tt
  nodes-pass k (n ∷ ns) h = (ap (fault 4) (node_passes k n h.0), nodes-pass (k + 1) ns (subst (λ (j : ℕ). SoundNodes P j ns) (sym (add-one k)) h.1))

  abbrev both : (a b : Bool) → a ≡ true → b ≡ true → (a && b) ≡ true
  both a b e f = ap₂ (λ (x y : Bool). x && y) e f

  node_there : (i : ℕ) → i < length P.nodes → node_number P i ≡ true
  node_there i l = lt-ltb i (length P.nodes) l

  edge-passes : (e : Edge) → SoundEdge P e → edge_sound P e ≡ true
  unfolding edge_sound
  edge-passes e s = both _ _ (node_there e.condition s.condition) (below_test (length P.nodes) e.defeaters s.defeaters.1)

  elections-pass : (es : List Election) → All (SoundElection P) es → election_sound P es ≡ true
  unfolding election_sound
  elections-pass es h = each_test (λ e. boolean_fact P e.fact) es (all_then (SoundElection P) (λ e. boolean_fact P e.fact ≡ true) (λ e s. s.fact) es h)

  decisions-pass : (ds : List Decision) → All (SoundDecision P) ds → all_of (λ d. ltb d.edge (length P.edges)) ds ≡ true
  decisions-pass ds h =
      let n = length P.edges in
      each_test (λ d. ltb d.edge n) ds (all_then (SoundDecision P) (λ d. ltb d.edge n ≡ true) (λ d s. lt-ltb d.edge n s.edge) ds h)

  cut-passes : (c : Cut) → SoundCut P c → cut_sound P c ≡ true
  unfolding cut_sound
  cut-passes c s =
      both _ _ (node_there c.condition s.condition) (both _ _ (elections-pass c.election s.election)
      (both _ _ (decisions-pass c.decisions s.decisions) (below_test (length P.cuts) c.precedes s.precedes.1)))

  attachment-passes : (a : Attachment) → SoundAttachment P a → attachment_sound P a ≡ true
  unfolding attachment_sound
  attachment-passes a s = both _ _ (node_there a.condition s.condition) (elections-pass a.election s.election)

  module _ (S : Sound P) where
    none_misnamed : All Zero (naming_faults P)
    unfolding naming_faults
    none_misnamed =
        all_append Zero ns (es ++ (cs ++ (rs ++ (bs ++ ts)))) (nodes-pass 0 P.nodes S.nodes)
        (all_append Zero es (cs ++ (rs ++ (bs ++ ts))) (faults-none 4 (edge_sound P) P.edges (all_then (SoundEdge P) (λ e. edge_sound P e ≡ true) edge-passes P.edges S.edges))
        (all_append Zero cs (rs ++ (bs ++ ts)) (faults-none 4 (cut_sound P) P.cuts (all_then (SoundCut P) (λ c. cut_sound P c ≡ true) cut-passes P.cuts S.cuts))
        (all_append Zero rs (bs ++ ts) (faults-none 4 (attachment_sound P) P.attachments (all_then (SoundAttachment P) (λ a. attachment_sound P a ≡ true) attachment-passes P.attachments S.attachments))
        (all_append Zero bs ts (faults-none 4 (λ b. node_number P b.condition) P.bars (all_then (SoundBar P) (λ b. node_number P b.condition ≡ true) (λ b s. node_there b.condition s.condition) P.bars S.bars))
        (faults-none 4 (λ t. node_number P t.condition) P.statuses (all_then (SoundStatus P) (λ t. node_number P t.condition ≡ true) (λ t s. node_there t.condition s.condition) P.statuses S.statuses))))))
      where
        ns : List ℕ
        ns = each_from (λ k n. fault 4 (node_sound P k n)) 0 P.nodes

        es : List ℕ
        es = faults 4 (edge_sound P) P.edges

        cs : List ℕ
        cs = faults 4 (cut_sound P) P.cuts

        rs : List ℕ
        rs = faults 4 (attachment_sound P) P.attachments

        bs : List ℕ
        bs = faults 4 (λ b. node_number P b.condition) P.bars

        ts : List ℕ
        ts = faults 4 (λ t. node_number P t.condition) P.statuses

    pub no-faults : plan_faults P ≡ fine P
    unfolding plan_faults
    no-faults =
        no-fault (nodes_at P) (naming_faults P) _ none_misnamed
        ∙ no-fault (cuts_at P) (faults 6 (crossings_decided P) P.cuts) _
        (faults-none 6 (crossings_decided P) P.cuts (all_then (SoundCut P) (λ c. crossings_decided P c ≡ true) (λ c s. s.crossings) P.cuts S.cuts))
        ∙ no-fault (cuts_at P) (election_faults [] (election_records P)) (fine P) S.elections
