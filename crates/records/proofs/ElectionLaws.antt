-- Laws of refusal 7: an election beside another, beside all earlier ones, and beside the one kept for its fact.
use mathlib.Core.Path.{◌≡◌, refl, sym, ap, ap₂, ◌∙◌}
use mathlib.Core.Bool.{Bool, true, false, ◌&&◌, cond}
use mathlib.Core.List.{List, [], ◌∷◌, ◌++◌, map}
use Prim.Native.Nat.{ℕ, zero, suc, ◌+◌, ◌-◌, ◌≤◌, ◌<◌}
use native.Mathlib.Numerals.{add-one}
use native.Mathlib.Omega.{arith}
use mathlib.Core.Logic.{◌⊎◌, ⊎_elim}
use lib.Dec.{eqb}
use lib.ListN.{length, get_or, set, replicate, length-map, length-append, length-replicate, get_or-replicate, get_or-eq_default}
use lib.Seq.{get_or-set_same, get_or-set_other}
use borrow.Author.Tests.{eq-eqb, ne_eqb, eqb-true, eqb-false}
use Rattle.sets.specs.paper.Sets.{all_of}
use Rattle.records.specs.paper.Fields.{fault}
use Rattle.records.specs.paper.Plan as paper
use Rattle.records.specs.code.Decoded.{if_given, election_of, no_election, cut_of, attachment_of, cuts_of, attachments_of}
use Rattle.records.specs.code.Elections.{earlier, agree, agreement}
use Rattle.records.specs.declared.plan.Election.{Election}
use Rattle.records.specs.declared.plan.Cut.{Cut}
use Rattle.records.specs.declared.plan.Cuts.{Cuts}
use Rattle.records.specs.declared.plan.Attachment.{Attachment}
use Rattle.records.specs.declared.plan.Attachments.{Attachments}
use Rattle.records.proofs.ListLaws.{all_append, get_or_mapped, get_d_front, get_or_stay, get_d_past}
use Rattle.records.proofs.NamingLaws.{all_given}
use Rattle.records.proofs.FactLaws.{and-true}
use Rattle.sets.proofs.SetLaws.{lt_or_le, and_parts}

-- ---- two elections that may be there

pub agree-given : (p q : Bool) (x y : paper.Election) → agree (if_given p x) (if_given q y) ≡ cond p (cond q (paper.same_election x y) true) true
unfolding agree
agree-given p q x y = all_given (λ e. all_of (paper.same_election e) (if_given q y)) p x ∙ ap (λ b. cond p b true) (all_given (paper.same_election x) q y)

-- ---- one beside two lists

pub agree_append : (es xs ys : List paper.Election) → agree es (xs ++ ys) ≡ (agree es xs && agree es ys)
unfolding agree all_of
agree_append [] xs ys = refl
agree_append (e ∷ es) xs ys = ap (λ b. b && agree es (xs ++ ys)) (all_append (paper.same_election e) xs ys) ∙ ap (λ b. (all_of (paper.same_election e) xs && all_of (paper.same_election e) ys) && b) (agree_append es xs ys) ∙ turn (all_of (paper.same_election e) xs) (all_of (paper.same_election e) ys) (agree es xs) (agree es ys)
  where
    turn : (p q r s : Bool) → ((p && q) && (r && s)) ≡ ((p && r) && (q && s))
    turn true true r s = refl
    turn true false true s = refl
    turn true false false s = refl
    turn false q r s = refl

-- ---- one beside all earlier ones

-- the earlier ones, where some came before the list
abbrev on : List paper.Election → List (List paper.Election) → ℕ → List paper.Election
on acc ess zero = acc
on acc [] (suc k) = acc
on acc (es ∷ ess) (suc k) = on (es ++ acc) ess k

on_step : (acc : List paper.Election) (ess : List (List paper.Election)) (k : ℕ) → on acc ess (suc k) ≡ get_or ess k [] ++ on acc ess k
on_step acc [] zero = refl
on_step acc [] (suc k) = refl
on_step acc (es ∷ ess) zero = refl
on_step acc (es ∷ ess) (suc k) = on_step (es ++ acc) ess k

on_none : (ess : List (List paper.Election)) (k : ℕ) → on [] ess k ≡ earlier ess k
unfolding earlier
on_none ess zero = refl
on_none ess (suc k) = on_step [] ess k ∙ ap (λ l. get_or ess k [] ++ l) (on_none ess k)

fault-on : (acc : List paper.Election) (ess : List (List paper.Election)) (k : ℕ) → fault 7 (agree (get_or ess k []) (on acc ess k)) ≡ get_or (paper.election_faults acc ess) k 0
unfolding agree all_of paper.election_faults
fault-on acc [] k = refl
fault-on acc (es ∷ ess) zero = refl
fault-on acc (es ∷ ess) (suc k) = fault-on (es ++ acc) ess k

-- with one record more
earlier_more : (es : List paper.Election) (ess : List (List paper.Election)) (k : ℕ) → agree es (earlier ess (k + 1)) ≡ (agree es (get_or ess k []) && agree es (earlier ess k))
unfolding earlier
earlier_more es ess k = ap (λ (j : ℕ). agree es (earlier ess j)) (add-one k) ∙ agree_append es (get_or ess k []) (earlier ess k)

-- the fault of record k, counted from the first cut
pub election-fault : (P : paper.Plan) (k : ℕ) → fault 7 (agree (get_or (paper.election_records P) k []) (earlier (paper.election_records P) k)) ≡ get_or (agreement P) k 0
election-fault P k = ap (λ l. fault 7 (agree (get_or (paper.election_records P) k []) l)) (sym (on_none (paper.election_records P) k)) ∙ fault-on [] (paper.election_records P) k

length-elections : (acc : List paper.Election) (ess : List (List paper.Election)) → length (paper.election_faults acc ess) ≡ length ess
unfolding paper.election_faults
length-elections acc [] = refl
length-elections acc (es ∷ ess) = ap suc (length-elections (es ++ acc) ess)

pub length-agreement : (P : paper.Plan) → length (agreement P) ≡ length P.cuts + length P.attachments
length-agreement P = length-elections [] (paper.election_records P) ∙ simp (length-append, length-map)

-- ---- the election of record k, of a plan that has these cuts and attachments

pub record Elects (x : Cuts) (y : Attachments) (P : paper.Plan) : Type 0 where
  pub cuts_are : cuts_of x ≡ P.cuts
  pub attachments_are : attachments_of y ≡ P.attachments

module _ (x : Cuts) (y : Attachments) (P : paper.Plan) (b : Elects x y P) (k : ℕ) where
  abbrev cuts : List (List paper.Election)
  cuts = map (λ c. c.election) P.cuts

  abbrev attachments : List (List paper.Election)
  attachments = map (λ a. a.election) P.attachments

  pub cut-election : (d : Cut) → k < length P.cuts → election_of (get_or x.items k d).election ≡ get_or (paper.election_records P) k []
  unfolding cut_of
  cut-election d l =
      sym (get_or_stay cuts attachments (length P.cuts) k [] (sym (length-map P.cuts _)) l
      ∙ get_or_mapped (λ (c : paper.Cut). c.election) P.cuts k (cut_of d) [] l
      ∙ ap (λ z. (get_or z k (cut_of d)).election) (sym b.cuts_are)
      ∙ ap (λ c. c.election) (get_d_front cut_of x.items x.count k d (cut_of d) (rw b.cuts_are l)))

  pub attachment-election : (m : ℕ) (d : Attachment) → m ≡ length P.cuts → m ≤ k → k - m < length P.attachments
      → election_of (get_or y.items (k - m) d).election ≡ get_or (paper.election_records P) k []
  unfolding attachment_of
  attachment-election m d e l u =
      sym (get_d_past cuts attachments m k [] (e ∙ sym (length-map P.cuts _)) l
      ∙ get_or_mapped (λ (a : paper.Attachment). a.election) P.attachments (k - m) (attachment_of d) [] u
      ∙ ap (λ z. (get_or z (k - m) (attachment_of d)).election) (sym b.attachments_are)
      ∙ ap (λ a. a.election) (get_d_front attachment_of y.items y.count (k - m) d (attachment_of d) (rw b.attachments_are u)))

-- ---- one election kept for each fact

agree-none : (es : List paper.Election) → agree es [] ≡ true
unfolding agree all_of
agree-none [] = refl
agree-none (e ∷ es) = agree-none es

-- elections for one fact that agree are equal
same_is : (x e : paper.Election) → x.fact ≡ e.fact → paper.same_election x e ≡ true → x ≡ e
unfolding paper.same_election
same_is x e f h =
    let s : (eqb x.actor e.actor && (eqb x.policy e.policy && eqb x.citation e.citation)) ≡ true = rw (eq-eqb x.fact e.fact f) at h in
    let u = and_parts _ _ s in
    let v = and_parts _ _ u.1 in
    let a = eqb-true x.actor e.actor u.0 in
    let p = eqb-true x.policy e.policy v.0 in
    let c = eqb-true x.citation e.citation v.1 in
    ap (λ (n : ℕ). record { fact = n; actor = x.actor; policy = x.policy; citation = x.citation }) f
    ∙ ap (λ (n : ℕ). record { fact = e.fact; actor = n; policy = x.policy; citation = x.citation }) a
    ∙ ap (λ (n : ℕ). record { fact = e.fact; actor = e.actor; policy = n; citation = x.citation }) p
    ∙ ap (λ (n : ℕ). record { fact = e.fact; actor = e.actor; policy = e.policy; citation = n }) c

-- for the same fact: where e agrees with what was kept, it stands for both
one-fact : (p q : Bool) (x e : paper.Election) (old : List paper.Election) → x.fact ≡ e.fact → agree (if_given p e) old ≡ true
    → (agree (if_given q x) (if_given p e) && agree (if_given q x) old) ≡ agree (if_given q x) (cond p (if_given p e) old)
unfolding agree all_of
one-fact false q x e old f h = ap (λ b. b && agree (if_given q x) old) (agree-none (if_given q x))
one-fact true false x e old f h = refl
one-fact true true x e old f h = go (paper.same_election x e) refl
  where
    go : (b : Bool) → paper.same_election x e ≡ b → (agree (x ∷ []) (e ∷ []) && agree (x ∷ []) old) ≡ agree (x ∷ []) (e ∷ [])
    go true s = ap (λ b. agree (x ∷ []) (e ∷ []) && b) (ap (λ z. agree (z ∷ []) old) (same_is x e f s) ∙ h) ∙ and-true _
    go false s = rw (agree-given true true x e, s)

other_fact : (p q : Bool) (x e : paper.Election) → (x.fact ≡ e.fact → ⊥) → agree (if_given q x) (if_given p e) ≡ true
unfolding paper.same_election
other_fact true true x e f = agree-given true true x e ∙ rw (ne_eqb x.fact e.fact f)
other_fact false true x e f = agree-given true false x e
other_fact true false x e f = agree-given false true x e
other_fact false false x e f = agree-given false false x e

-- what was kept stands for all earlier ones
abbrev pub Kept : List (List paper.Election) → ℕ → List Election → Type 0
Kept ess k kept = (e : Election) → agree (election_of e) (earlier ess k) ≡ agree (election_of e) (election_of (get_or kept e.fact no_election))

pub kept-none : (ess : List (List paper.Election)) (n : ℕ) → Kept ess 0 (replicate n no_election)
unfolding earlier election_of
kept-none ess n e = ap (λ z. agree (election_of e) (election_of z)) (sym (blank (lt_or_le e.fact n)))
  where
    blank : (e.fact < n) ⊎ (n ≤ e.fact) → get_or (replicate n no_election) e.fact no_election ≡ no_election
    blank = ⊎_elim (λ u. get_or-replicate n e.fact no_election no_election u) (λ u. get_or-eq_default (replicate n no_election) no_election (omega (arith, length-replicate n no_election)))

-- one more election e, beside any x: what is kept then stands for it too
kept-one : (kept : List Election) (e x : Election) → e.fact < length kept → agree (election_of e) (election_of (get_or kept e.fact no_election)) ≡ true
    → (b : Bool) → eqb x.fact e.fact ≡ b
    → (agree (election_of x) (election_of e) && agree (election_of x) (election_of (get_or kept x.fact no_election)))
    ≡ agree (election_of x) (election_of (get_or (set kept e.fact (cond e.given e (get_or kept e.fact no_election))) x.fact no_election))
unfolding election_of
kept-one kept e x l s true t =
    let q = eqb-true x.fact e.fact t in
    let old = get_or kept e.fact no_election in
    let new = cond e.given e old in
    ap (λ (i : ℕ). agree (election_of x) (election_of e) && agree (election_of x) (election_of (get_or kept i no_election))) q
    ∙ one-fact e.given x.given _ _ (election_of old) q s
    ∙ ap (agree (election_of x)) (either e.given e old)
    ∙ ap (λ z. agree (election_of x) (election_of z)) (sym (ap (λ (i : ℕ). get_or (set kept e.fact new) i no_election) q ∙ get_or-set_same kept e.fact new no_election l))
  where
    either : (p : Bool) (m n : Election) → cond p (election_of m) (election_of n) ≡ election_of (cond p m n)
    either true m n = refl
    either false m n = refl
kept-one kept e x l s false t =
    let n = eqb-false x.fact e.fact t in
    let new = cond e.given e (get_or kept e.fact no_election) in
    ap (λ b. b && agree (election_of x) (election_of (get_or kept x.fact no_election))) (other_fact e.given x.given _ _ n)
    ∙ ap (λ z. agree (election_of x) (election_of z)) (sym (get_or-set_other kept e.fact x.fact new no_election n))

pub kept_more : (ess : List (List paper.Election)) (k : ℕ) (kept : List Election) (e : Election) → e.fact < length kept → election_of e ≡ get_or ess k []
    → agree (election_of e) (election_of (get_or kept e.fact no_election)) ≡ true → Kept ess k kept
    → Kept ess (k + 1) (set kept e.fact (cond e.given e (get_or kept e.fact no_election)))
kept_more ess k kept e l h s g x =
    earlier_more (election_of x) ess k ∙ ap₂ (λ p q. p && q) (ap (agree (election_of x)) (sym h)) (g x) ∙ kept-one kept e x l s (eqb x.fact e.fact) refl
