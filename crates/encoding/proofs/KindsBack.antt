-- A record of each kind of a sound plan: it fits its format, its set of bits is right, and it is read back as it was.
use mathlib.Core.Path.{◌≡◌, refl, ap}
use mathlib.Core.Bool.{Bool, true, false}
use mathlib.Core.List.{List, [], ◌∷◌}
use Prim.Native.Nat.{ℕ, suc, ◌+◌, ◌≤◌, ◌<◌}
use native.Mathlib.Omega.{arith}
use lib.ListN.{length}
use lib.Dec.{eqb, lit≤}
use Rattle.sets.specs.paper.Sets.{has, subset, size, minus, All}
use Rattle.sets.proofs.Every.{all_then}
use Rattle.records.specs.paper.Fields.{number, person, citation, above, bytes, byte, list, format_of, Raw}
use Rattle.records.specs.paper.Plan.{Plan, Heading, Fact, Node, literal, fact, conj, disj, neg, Edge, Cut, Attachment, Bar, Status, plan_formats, fact_bits, is_boolean, node_from, heading_from, fact_from, edge_from, cut_from, attachment_from, bar_from, status_from}
use Rattle.records.specs.promises.Sound.{Numbers, SoundNode, SoundNodes, SoundEdge, SoundCut, SoundAttachment, SoundBar, SoundStatus, SoundHeading, SoundFact, Sound}
use Rattle.encoding.specs.paper.Encoded.{Part, bits_of, raw_of, one, some, given, flag, mask_of, election_bytes, decision_bytes, heading_raw, fact_raw, node_parts, node_raw, edge_raw, cut_raw, attachment_raw, bar_raw, status_raw}
use Rattle.encoding.specs.code.Written.{bit}
use Rattle.encoding.proofs.RecordBack.{FitsIf, Fits}
use Rattle.encoding.proofs.PartLaws.{PartsFit, parts-fit, small-bits}
use Rattle.encoding.proofs.FieldsBack.{number_fits, given-fits, list-fits, opt_fits, mask_fits, little_back, election-fits, election_back, decisions-fit, decisions_back}

pub record Written {A : Type 0} (make : Raw → A) (x : A) (r : Raw) : Type 0 where
  pub fits : Fits plan_formats r
  pub right : (format_of plan_formats r.kind).fits r.bits ≡ true
  pub back : make r ≡ x

-- ---- the sets of bits

right-heading : (b : Bool) → subset 0b1 (bit true (bit b 0)) ≡ true
unfolding subset minus
right-heading true = refl
right-heading false = refl

right-fact : (b : Bool) → fact_bits (bit b (bit b 0)) ≡ true
right-fact true = refl
right-fact false = refl

right-edge : (a b : Bool) → subset 0b1111 (bit true (bit true (bit true (bit true (bit a (bit b 0)))))) ≡ true
unfolding subset minus
right-edge true true = refl
right-edge true false = refl
right-edge false true = refl
right-edge false false = refl

last-edge : (a b : Bool) → has (bit true (bit true (bit true (bit true (bit a (bit b 0)))))) 5 ≡ b
unfolding has
last-edge true true = refl
last-edge true false = refl
last-edge false true = refl
last-edge false false = refl

right-cut : (a b c : Bool) → subset 0b111 (bit true (bit true (bit true (bit a (bit b (bit c 0)))))) ≡ true
unfolding subset minus
right-cut true true true = refl
right-cut true true false = refl
right-cut true false true = refl
right-cut true false false = refl
right-cut false true true = refl
right-cut false true false = refl
right-cut false false true = refl
right-cut false false false = refl

right-attachment : (a : Bool) → subset 0b11111 (bit true (bit true (bit true (bit true (bit true (bit a 0)))))) ≡ true
unfolding subset minus
right-attachment true = refl
right-attachment false = refl

right_three : subset 0b111 (bit true (bit true (bit true 0))) ≡ true
unfolding subset minus
right_three = refl

-- ---- kind by kind

-- a record of a kind from its parts
fits_of : (kind : ℕ) (ps : List Part) → 1 ≤ kind → kind ≤ length plan_formats → length ps ≤ 8 → PartsFit (format_of plan_formats kind).fields ps → Fits plan_formats (raw_of kind ps)
fits_of kind ps a b l h = record { kind = (a, b); bits = small-bits ps l; fields = parts-fit (format_of plan_formats kind).fields ps h }

pub heading-written : (h : Heading) → SoundHeading h → Written heading_from h (heading_raw h)
unfolding plan_formats bits_of
heading-written h s = record {
  fits = fits_of 1 (one h.relation ∷ given h.chain ∷ []) (lit≤ tt) (lit≤ tt) (lit≤ tt) (number_fits 255 h.relation s.relation, (opt_fits citation.top h.chain s.chain, tt));
  right = right-heading (some h.chain);
  back = refl;
}

fact-parts : (family tuple : List ℕ) → Numbers 1 256 family → Numbers 4 (above person) tuple → (eqb (length family) 0 ≡ true → tuple ≡ [])
    → PartsFit (byte number ∷ list 4 (person ∷ []) ∷ []) (given family ∷ record { stands = some family; value = tuple } ∷ [])
fact-parts [] tuple a b c = (refl, (c refl, tt))
fact-parts (f ∷ fs) tuple a b c = (opt_fits 255 (f ∷ fs) a, (list-fits 4 person.top (above person) (lit≤ tt) tuple b, tt))

pub fact-written : (f : Fact) → SoundFact f → Written fact_from f (fact_raw f)
unfolding plan_formats bits_of is_boolean
fact-written f s = record {
  fits = fits_of 2 (given f.family ∷ record { stands = some f.family; value = f.tuple } ∷ []) (lit≤ tt) (lit≤ tt) (lit≤ tt) (fact-parts f.family f.tuple s.family s.tuple s.both);
  right = right-fact (some f.family);
  back = refl;
}

-- a node's numbers fit into bytes
abbrev pub NodeFits : Node → Type 0
NodeFits (literal b) = b < 2
NodeFits (fact f) = f < 256
NodeFits (conj is) = Numbers 16 256 is
NodeFits (disj is) = Numbers 16 256 is
NodeFits (neg i) = i < 256

pub node_written : (n : Node) → NodeFits n → Written node_from n (node_raw n)
unfolding plan_formats bits_of node_parts node_from has size lib.Count.ones_in
node_written (literal b) s = record {
  fits = fits_of 3 (node_parts (literal b)) (lit≤ tt) (lit≤ tt) (lit≤ tt) (number_fits 1 b s, (refl, (refl, (refl, (refl, tt)))));
  right = refl;
  back = refl;
}
node_written (fact f) s = record {
  fits = fits_of 3 (node_parts (fact f)) (lit≤ tt) (lit≤ tt) (lit≤ tt) (refl, (number_fits 255 f s, (refl, (refl, (refl, tt)))));
  right = refl;
  back = refl;
}
node_written (conj is) s = record {
  fits = fits_of 3 (node_parts (conj is)) (lit≤ tt) (lit≤ tt) (lit≤ tt) (refl, (refl, (list-fits 16 255 256 (lit≤ tt) is s, (refl, (refl, tt)))));
  right = refl;
  back = refl;
}
node_written (disj is) s = record {
  fits = fits_of 3 (node_parts (disj is)) (lit≤ tt) (lit≤ tt) (lit≤ tt) (refl, (refl, (refl, (list-fits 16 255 256 (lit≤ tt) is s, (refl, tt)))));
  right = refl;
  back = refl;
}
node_written (neg i) s = record {
  fits = fits_of 3 (node_parts (neg i)) (lit≤ tt) (lit≤ tt) (lit≤ tt) (refl, (refl, (refl, (refl, (number_fits 255 i s, tt)))));
  right = refl;
  back = refl;
}

module _ (P : Plan) (S : Sound P) where
  node_fits_lem : (k : ℕ) (ns : List Node) → k + length ns ≤ 256 → SoundNodes P k ns → All NodeFits ns
  node_fits_lem k [] l h = tt
  node_fits_lem k (n ∷ ns) l h =
      let y : length (n ∷ ns) ≡ suc (length ns) = refl in
      (each n h.0 (omega arith), node_fits_lem (suc k) ns (omega arith) h.1)
    where
      each : (n : Node) → SoundNode P k n → k < 256 → NodeFits n
      each (literal b) s l = s
      each (fact f) s l = let m = S.fact_limit in omega arith
      each (conj is) s l = (s.0, all_then (λ i. i < k) (λ i. i < 256) (λ i m. omega arith) is s.1)
      each (disj is) s l = (s.0, all_then (λ i. i < k) (λ i. i < 256) (λ i m. omega arith) is s.1)
      each (neg i) s l = omega arith

  pub nodes-fit : All NodeFits P.nodes
  nodes-fit = node_fits_lem 0 P.nodes (let h = S.node_limit in omega arith) S.nodes

  below : (i : ℕ) → i < length P.nodes → i < 256
  below i l = let h = S.node_limit in omega arith

  few-facts : length P.facts ≤ 256
  few-facts = let h = S.fact_limit in omega arith

  pub edge-written : (e : Edge) → SoundEdge P e → Written edge_from e (edge_raw e)
  unfolding plan_formats bits_of
  edge-written e s = record {
    fits = fits_of 4 (one e.left ∷ one e.right ∷ one e.condition ∷ one e.citation ∷ given e.defeaters ∷ flag e.combination ∷ []) (lit≤ tt) (lit≤ tt) (lit≤ tt) (
      number_fits person.top e.left s.left,
      (
        number_fits person.top e.right s.right,
        (
          number_fits 255 e.condition (below e.condition s.condition),
          (
            number_fits citation.top e.citation s.citation,
            (given-fits (list 16 (number ∷ [])) e.defeaters (list-fits 16 255 (length P.nodes) S.node_limit e.defeaters s.defeaters), (bare e.combination, tt)),
          ),
        ),
      ),
    );
    right = right-edge (some e.defeaters) e.combination;
    back = ap (λ (b : Bool). record { left = e.left; right = e.right; condition = e.condition; citation = e.citation; defeaters = e.defeaters; combination = b })
        (last-edge (some e.defeaters) e.combination);
  }
    where
      bare : (b : Bool) → FitsIf b (bytes []) []
      bare true = tt
      bare false = refl

  pub cut-written : (c : Cut) → SoundCut P c → Written cut_from c (cut_raw c)
  unfolding plan_formats bits_of
  cut-written c s = record {
    fits = fits_of 5 (mask_of c.members ∷ one c.condition ∷ one c.citation ∷ given (election_bytes c.election) ∷ given (decision_bytes c.decisions) ∷ given c.precedes ∷ []) (lit≤ tt) (lit≤ tt) (lit≤ tt) (
      mask_fits c.members,
      (
        number_fits 255 c.condition (below c.condition s.condition),
        (
          number_fits citation.top c.citation s.citation,
          (
            election-fits P few-facts c.election s.election,
            (
              given-fits (list 64 (number ∷ record { low = 1; top = 3 } ∷ [])) (decision_bytes c.decisions) (decisions-fit P (let h = S.edge_limit in omega arith) c.decisions s.few s.decisions),
              (given-fits (list 16 (number ∷ [])) c.precedes (list-fits 16 255 (length P.cuts) (let h = S.cut_limit in omega arith) c.precedes s.precedes), tt),
            ),
          ),
        ),
      ),
    );
    right = right-cut (some (election_bytes c.election)) (some (decision_bytes c.decisions)) (some c.precedes);
    back = rw (little_back 8 c.members s.members, election_back c.election s.one, decisions_back c.decisions);
  }

  pub attachment-written : (a : Attachment) → SoundAttachment P a → Written attachment_from a (attachment_raw a)
  unfolding plan_formats bits_of
  attachment-written a s = record {
    fits = fits_of 6 (mask_of a.members ∷ one a.anchor ∷ one a.condition ∷ one a.citation ∷ one a.actor ∷ given (election_bytes a.election) ∷ []) (lit≤ tt) (lit≤ tt) (lit≤ tt) (
      mask_fits a.members,
      (
        number_fits person.top a.anchor s.anchor,
        (
          number_fits 255 a.condition (below a.condition s.condition),
          (
            number_fits citation.top a.citation s.citation,
            (((s.actor.0, omega (arith, s.actor.1)), tt), (election-fits P few-facts a.election s.election, tt)),
          ),
        ),
      ),
    );
    right = right-attachment (some (election_bytes a.election));
    back = rw (little_back 8 a.members s.members, election_back a.election s.one);
  }

  pub bar-written : (b : Bar) → SoundBar P b → Written bar_from b (bar_raw b)
  unfolding plan_formats bits_of
  bar-written b s = record {
    fits = fits_of 7 (mask_of b.members ∷ one b.condition ∷ one b.citation ∷ []) (lit≤ tt) (lit≤ tt) (lit≤ tt)
        (mask_fits b.members, (number_fits 255 b.condition (below b.condition s.condition), (number_fits citation.top b.citation s.citation, tt)));
    right = right_three;
    back = rw (little_back 8 b.members s.members);
  }

  pub status-written : (t : Status) → SoundStatus P t → Written status_from t (status_raw t)
  unfolding plan_formats bits_of
  status-written t s = record {
    fits = fits_of 8 (one t.person ∷ one t.condition ∷ one t.citation ∷ []) (lit≤ tt) (lit≤ tt) (lit≤ tt)
        (number_fits person.top t.person s.person, (number_fits 255 t.condition (below t.condition s.condition), (number_fits citation.top t.citation s.citation, tt)));
    right = right_three;
    back = refl;
  }
