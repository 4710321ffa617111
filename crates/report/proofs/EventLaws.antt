-- Events as bytes: written one by one into a lent buffer, for the numbers of a set, and set after set.
use mathlib.Core.Path.{◌≡◌, refl, sym, ap, ap₂, ◌∙◌, subst}
use mathlib.Core.Bool.{Bool, true, false, cond, false≢true}
use mathlib.Core.Logic.{⊎_elim}
use mathlib.Core.List.{List, [], ◌∷◌, ◌++◌, append-nil, flat_map, map}
use Prim.Native.Nat.{ℕ, zero, suc, ◌+◌, ◌-◌, ◌*◌, ◌/◌, ◌%◌, ◌^◌, ◌≤◌, ◌<◌}
use native.Mathlib.Nat.{not-suc-le-zero, le_of_suc-le-suc, le_refl, add-zero, zero-add}
use native.Mathlib.Numerals.{add-one}
use native.Mathlib.Omega.{arith}
use lib.Arith.{lt-one}
use lib.ListN.{length, get_or, set, take, drop, length-append, length-drop, length-map}
use lib.Seq.{drop-cons, take-suc, set_at, length-take-le, append_snoc}
use Rattle.sets.specs.paper.Sets.{odd, has, size, when, members, members_from, numbers}
use Rattle.sets.proofs.SetLaws.{has-zero, has-suc, has-none, lt_or_le}
use Rattle.sets.proofs.MemberLaws.{members-length}
use Rattle.records.proofs.UsedLaws.{flat_append}
use Rattle.records.specs.paper.Plan.{Plan, Election}
use Rattle.records.specs.code.Decoded.{edge_of, cut_of, attachment_of, status_of, edges_of, cuts_of, attachments_of, statuses_of}
use Rattle.records.specs.declared.plan.Edge.{Edge}
use Rattle.records.specs.declared.plan.Edges.{Edges}
use Rattle.records.specs.declared.plan.Cut.{Cut}
use Rattle.records.specs.declared.plan.Cuts.{Cuts}
use Rattle.records.specs.declared.plan.Attachment.{Attachment}
use Rattle.records.specs.declared.plan.Attachments.{Attachments}
use Rattle.records.specs.declared.plan.Status.{Status}
use Rattle.records.specs.declared.plan.Statuses.{Statuses}
use Rattle.records.proofs.ListLaws.{get_d_front}
use Rattle.expressions.specs.paper.Rules.{edge_count, cut_count, attachment_count, status_count, edge, cut, attachment, status}
use Rattle.expressions.specs.paper.Bindings.{default_of}
use Rattle.page.specs.Little.{little_bytes}
use Rattle.worlds.specs.paper.Events.{event, listed, election_actor}
use Rattle.sets.proofs.TurnLaws.{members-none}
use Rattle.report.specs.paper.EventList.{number_of, election_citation, event_length}
use Rattle.report.proofs.PieceLaws.{size_none, over, over-long, over-both, will, will_none, Writing, writing_place, writing_bytes}
use Rattle.report.specs.code.EventBytes.{Below, Writes, sizes}

-- ---- byte by byte

-- one byte more is copied
pub copied : (e d : List ℕ) (i : ℕ) → i < length e → i < length d → set (take i e ++ drop i d) i (get_or e i 0) ≡ take (i + 1) e ++ drop (i + 1) d
copied e d i he hd =
    rw (drop-cons d i 0 hd, set_at (take i e) (get_or d i 0) (drop (suc i) d) (get_or e i 0) i (length-take-le i e (omega arith)), add-one, take-suc e i 0 he)
    (sym (append_snoc (take i e) (get_or e i 0) (drop (suc i) d)))

pub event-length : (kind a b c mask : ℕ) → length (event kind a b c mask) ≡ event_length
unfolding event little_bytes
event-length kind a b c mask = refl

-- ---- events of a set

-- at the end of a loop that writes one for each number all are written
module _ {X : Type 0} (f : X → ℕ → List ℕ) (at all : ℕ) (before : List ℕ) (m place : ℕ) (after : List ℕ) (w : Writing event_length f at all before m place after) where
  pub writing_end : m ≡ 0 → (x : X) → Writes at (map (f x) (members all)) before after place
  writing_end e x =
      let n : length (map (f x) (members all)) ≡ size all = length-map (members all) (f x) ∙ members-length all in
      let p = writing_place event_length w e in
      record { bytes = writing_bytes event_length w e x; place = omega arith }

-- ---- the numbers of a set, and the numbers below n that are of it

module _ (f : ℕ → List ℕ) (test : ℕ → Bool) where
  abbrev listed_from : ℕ → ℕ → List (List ℕ)
  listed_from n p = flat_map (λ i. cond (test i) (f i ∷ []) []) (numbers n p)

  none_from : (n p : ℕ) → ((i : ℕ) → test (p + i) ≡ false) → [] ≡ listed_from n p
  unfolding numbers flat_map
  none_from zero p t = refl
  none_from (suc n) p t =
      none_from n (suc p) (λ i. ap test (let z : suc p + i ≡ p + suc i = omega arith in z) ∙ t (suc i))
      ∙ ap (λ (b : Bool). cond b (f p ∷ []) [] ++ listed_from n (suc p)) (sym (ap test (let z : p ≡ p + 0 = omega arith in z) ∙ t 0))

  members_from_lem : (k n p m : ℕ) → m < 2 ^ k → ((i : ℕ) → has m i ≡ true → i < n) → ((i : ℕ) → test (p + i) ≡ has m i) → map f (members_from k p m) ≡ listed_from n p
  unfolding members_from numbers flat_map
  members_from_lem zero n p m h b t = none_from n p (λ i. t i ∙ ap (λ (x : ℕ). has x i) (lt-one h) ∙ has-none i)
  members_from_lem (suc k) zero p m h b t =
      go (m % 2) refl (members_from_lem k 0 (suc p) (m / 2) (omega arith) (λ i e. absurd (not-suc-le-zero (b (suc i) (has-suc m i ∙ e))))
      (λ i. ap test (let z : suc p + i ≡ p + suc i = omega arith in z) ∙ t (suc i) ∙ has-suc m i))
    where
      go : (d : ℕ) → m % 2 ≡ d → map f (members_from k (suc p) (m / 2)) ≡ [] → map f (when (m % 2) p (members_from k (suc p) (m / 2))) ≡ []
      go zero e r = ap (λ (d : ℕ). map f (when d p (members_from k (suc p) (m / 2)))) e ∙ r
      go (suc d) e r = absurd (not-suc-le-zero (b 0 (has-zero m ∙ ap odd e)))
  members_from_lem (suc k) (suc n) p m h b t =
      go (m % 2) refl (members_from_lem k n (suc p) (m / 2) (omega arith) (λ i e. le_of_suc-le-suc (b (suc i) (has-suc m i ∙ e)))
      (λ i. ap test (let z : suc p + i ≡ p + suc i = omega arith in z) ∙ t (suc i) ∙ has-suc m i))
    where
      first : (x : Bool) → has m 0 ≡ x → test p ≡ x
      first x e = ap test (let z : p ≡ p + 0 = omega arith in z) ∙ t 0 ∙ e

      go : (d : ℕ) → m % 2 ≡ d → map f (members_from k (suc p) (m / 2)) ≡ listed_from n (suc p)
          → map f (when (m % 2) p (members_from k (suc p) (m / 2))) ≡ cond (test p) (f p ∷ []) [] ++ listed_from n (suc p)
      go zero e r =
          ap (λ (d : ℕ). map f (when d p (members_from k (suc p) (m / 2)))) e ∙ r
          ∙ ap (λ (x : Bool). cond x (f p ∷ []) [] ++ listed_from n (suc p)) (sym (first false (has-zero m ∙ ap odd e)))
      go (suc d) e r =
          ap (λ (d : ℕ). map f (when d p (members_from k (suc p) (m / 2)))) e
          ∙ ap (λ (ys : List (List ℕ)). f p ∷ ys) r
          ∙ ap (λ (x : Bool). cond x (f p ∷ []) [] ++ listed_from n (suc p)) (sym (first true (has-zero m ∙ ap odd e)))

-- what is made for each number of a set of numbers below n
pub listed-members : (f : ℕ → List ℕ) (n m : ℕ) → m < 2 ^ 64 → Below m n → map f (members m) ≡ listed n (has m) f
unfolding listed members
listed-members f n m h b = members_from_lem f (has m) 64 n 0 m h b (λ i. ap (has m) (zero-add i))

pub writes_listed : (f : ℕ → List ℕ) (n at m : ℕ) {before after : List ℕ} {next : ℕ} → m < 2 ^ 64 → Below m n
    → after ≡ will event_length at (map f (members m)) before → next ≡ at + event_length * size m → Writes at (listed n (has m) f) before after next
writes_listed f n at m {before} {after} {next} h b bytes place =
    subst (λ (es : List (List ℕ)). Writes at es before after next) (listed-members f n m h b)
    (record { bytes = bytes; place = let z = length-map (members m) f ∙ members-length m in omega arith })

-- nothing is made for no numbers
pub writes_nothing : (f : ℕ → List ℕ) (n at m : ℕ) (b : List ℕ) → m ≡ 0 → Writes at (listed n (has m) f) b b at
writes_nothing f n at m b e =
    writes_listed f n at m (omega arith) (λ i h. absurd (false≢true (sym (ap (λ (x : ℕ). has x i) e ∙ has-none i) ∙ h)))
    (sym (ap (λ (ps : List ℕ). will event_length at (map f ps) b) (members-none m e) ∙ will_none event_length at b))
    (omega (arith, size_none m e))

-- ---- the records that the events are made from

read : {A B : Type 0} (g : A → B) (list : List B) (n : ℕ) (items : List A) → list ≡ map g (take n items) → (i : ℕ) (d : A) (e : B) → i < length list → g (get_or items i d) ≡ get_or list i e
read {A} {B} g list n items h i d e l = sym (ap (λ (xs : List B). get_or xs i e) h ∙ get_d_front g items n i d e (subst (λ (xs : List B). i < length xs) h l))

module _ (P : Plan) (i : ℕ) where
  pub edge_read : (edges : Edges) (d : Edge) → P.edges ≡ edges_of edges → i < edge_count P → edge_of (get_or edges.items i d) ≡ edge P i
  unfolding edge
  edge_read edges d e l = read edge_of P.edges edges.count edges.items e i d _ l

  pub cut_read : (cuts : Cuts) (d : Cut) → P.cuts ≡ cuts_of cuts → i < cut_count P → cut_of (get_or cuts.items i d) ≡ cut P i
  unfolding cut
  cut_read cuts d e l = read cut_of P.cuts cuts.count cuts.items e i d _ l

  pub attachment_read : (attachments : Attachments) (d : Attachment) → P.attachments ≡ attachments_of attachments → i < attachment_count P
      → attachment_of (get_or attachments.items i d) ≡ attachment P i
  unfolding attachment
  attachment_read attachments d e l = read attachment_of P.attachments attachments.count attachments.items e i d _ l

  pub status_read : (statuses : Statuses) (d : Status) → P.statuses ≡ statuses_of statuses → i < status_count P → status_of (get_or statuses.items i d) ≡ status P i
  unfolding status
  status_read statuses d e l = read status_of P.statuses statuses.count statuses.items e i d _ l

-- the first election says all
pub default-read : (i : ℕ) (es : List Election) → event 8 i (election_actor (take 1 es)) (number_of (default_of (take 1 es))) (election_citation (take 1 es))
    ≡ event 8 i (election_actor es) (number_of (default_of es)) (election_citation es)
unfolding default_of
default-read i [] = refl
default-read i (e ∷ es) = refl

-- ---- events behind events

-- each has `event_length` bytes
pub record Long (es : List (List ℕ)) : Type 0 where
  pub bytes : length (flat_map (λ e. e) es) ≡ event_length * length es

pub writes_none : (at : ℕ) (b : List ℕ) → Writes at [] b b at
writes_none at b = record { bytes = sym (will_none event_length at b); place = omega arith }

pub writes_both : (at p q : ℕ) (es fs : List (List ℕ)) (before mid after : List ℕ) → Long es → at + event_length * length es ≤ length before → Writes at es before mid p
    → Writes p fs mid after q
    → Writes at (es ++ fs) before after q
writes_both at p q es fs before mid after l h a b =
    let n : event_length * length es + event_length * length fs ≡ event_length * length (es ++ fs) = omega (arith, length-append es fs) in record {
      bytes =
          b.bytes ∙ ap₂ (λ (k : ℕ) (x : List ℕ). will event_length k fs x) a.place a.bytes
          ∙ over-both at (event_length * length es) (event_length * length fs) (flat_map (λ e. e) es) (flat_map (λ e. e) fs) before l.bytes h
          ∙ ap₂ (λ (k : ℕ) (x : List ℕ). over at k x before) n (sym (flat_append (λ e. e) es fs));
      place = omega (arith, a.place, b.place);
    }

pub writes_long : {at next : ℕ} {es : List (List ℕ)} {before after : List ℕ} → Long es → at + event_length * length es ≤ length before
    → Writes at es before after next → length after ≡ length before
writes_long {at} {next} {es} {before} l h w = ap length w.bytes ∙ over-long at (event_length * length es) (flat_map (λ e. e) es) before l.bytes h

-- where the buffer keeps its length
written-long : {at next : ℕ} {es : List (List ℕ)} {before after : List ℕ} → Writes at es before after next → length after ≡ length before
    → at + event_length * length es ≤ length before → Long es
written-long {at} {next} {es} {before} w same h =
    let l = sym (ap length w.bytes) ∙ same in
    record { bytes = omega (arith, simp (length-append, length-drop, length-take-le at before (omega arith)) at l) }

pub long-map : {A : Type 0} (f : A → List ℕ) → ((x : A) → length (f x) ≡ event_length) → (xs : List A) → Long (map f xs)
unfolding flat_map
long-map f h [] = record { bytes = refl }
long-map f h (x ∷ xs) = record { bytes = length-append (f x) (flat_map (λ e. e) (map f xs)) ∙ omega (arith, h x, (long-map f h xs).bytes) }

pub long-both : {es fs : List (List ℕ)} → Long es → Long fs → Long (es ++ fs)
long-both {es} {fs} a b =
    record { bytes = ap length (flat_append (λ e. e) es fs) ∙ length-append (flat_map (λ e. e) es) (flat_map (λ e. e) fs) ∙ omega (arith, a.bytes, b.bytes, length-append es fs) }

-- ---- set after set

pub numbers-last : (n k : ℕ) → numbers (suc n) k ≡ numbers n k ++ ((k + n) ∷ [])
unfolding numbers
numbers-last zero k = ap (λ (x : ℕ). x ∷ []) (sym (add-zero k))
numbers-last (suc n) k = ap (λ (xs : List ℕ). k ∷ xs) (numbers-last n (suc k) ∙ ap (λ (x : ℕ). numbers n (suc k) ++ (x ∷ [])) (let z : suc k + n ≡ k + suc n = omega arith in z))

flat_more : (h : ℕ → List (List ℕ)) (n : ℕ) → flat_map h (numbers (n + 1) 0) ≡ flat_map h (numbers n 0) ++ h n
unfolding flat_map
flat_more h n =
    ap (λ (k : ℕ). flat_map h (numbers k 0)) (add-one n) ∙ ap (flat_map h) (numbers-last n 0 ∙ ap (λ (x : ℕ). numbers n 0 ++ (x ∷ [])) (zero-add n))
    ∙ flat_append h (numbers n 0) (n ∷ []) ∙ ap (λ (l : List (List ℕ)). flat_map h (numbers n 0) ++ l) (append-nil (h n))

pub sizes-more : (n : ℕ) (sets : ℕ → ℕ) → sizes (n + 1) sets ≡ sizes n sets + size (sets n)
unfolding sizes
sizes-more n sets = ap (λ (k : ℕ). sizes k sets) (add-one n)

-- the sizes of fewer sets make no more
pub sizes_le : (i n : ℕ) (sets : ℕ → ℕ) → i < n → sizes i sets + size (sets i) ≤ sizes n sets
unfolding sizes
sizes_le i zero sets h = absurd (not-suc-le-zero h)
sizes_le i (suc n) sets h =
    ⊎_elim (λ l. let r = sizes_le i n sets l in omega arith) (λ l. let e : i ≡ n = omega arith in subst (λ (k : ℕ). sizes i sets + size (sets i) ≤ sizes k sets + size (sets k)) e (le_refl _))
    (lt_or_le i n)

-- events of their length, joined over any list
long_flat : (h : ℕ → List (List ℕ)) → ((c : ℕ) → Long (h c)) → (xs : List ℕ) → Long (flat_map h xs)
unfolding flat_map
long_flat h l [] = record { bytes = refl }
long_flat h l (x ∷ xs) = long-both (l x) (long_flat h l xs)

-- a loop over sets: the events of the first i are written. `X` as for `Writing`.
pub record Pairing {X : Type 0} (es : X → ℕ → List (List ℕ)) (at : ℕ) (sets : ℕ → ℕ) (before : List ℕ) (i place : ℕ) (after : List ℕ) : Type 0 where
  pub long : length after ≡ length before
  pub room : place ≡ at + event_length * sizes i sets
  pub done : (x : X) → Writes at (flat_map (es x) (numbers i 0)) before after place

pub pairing_none : {X : Type 0} (es : X → ℕ → List (List ℕ)) (at : ℕ) (sets : ℕ → ℕ) (before : List ℕ) → Pairing es at sets before 0 at before
unfolding sizes numbers flat_map
pairing_none es at sets before = record { long = refl; room = omega arith; done = λ x. writes_none at before }

module _ {X : Type 0} {es : X → ℕ → List (List ℕ)} {at : ℕ} {sets : ℕ → ℕ} {before : List ℕ} {i place : ℕ} {after : List ℕ} (p : Pairing es at sets before i place after) where
  -- the events of one set more fit
  pub pairing_room : (n : ℕ) → i < n → at + event_length * sizes n sets ≤ length before → place + event_length * size (sets i) ≤ length after
  pairing_room n l h = let s = sizes_le i n sets l in omega (arith, p.long, p.room)

  -- ONE SET MORE
  pub pairing_next : (n next : ℕ) (last : List ℕ) → i < n → at + event_length * sizes n sets ≤ length before → next ≡ place + event_length * size (sets i)
      → length last ≡ length after → ((x : X) → Writes place (es x i) after last next) → Pairing es at sets before (i + 1) next last
  pairing_next n next last l h e same w =
      let s = sizes_le i n sets l in record {
        long = same ∙ p.long;
        room = omega (arith, p.room, sizes-more i sets);
        done = λ x.
            let q = p.done x in
            let small : at + event_length * length (flat_map (es x) (numbers i 0)) ≤ length before = omega (arith, q.place, p.room) in
            subst (λ (fs : List (List ℕ)). Writes at fs before last next) (sym (flat_more (es x) i))
            (writes_both at place next (flat_map (es x) (numbers i 0)) (es x i) before after last (written-long q p.long small) small q (w x));
      }
