-- A buffer with one line for each roster person, whose kinds and blocks are parted, is so in its bytes.
use mathlib.Core.Path.{◌≡◌, refl, sym, ap, ap₂, ◌∙◌, subst}
use mathlib.Core.Bool.{Bool, true, false, cond}
use mathlib.Core.List.{List, map}
use mathlib.Core.Logic.{◌⊎◌, inl, inr, ⊎_elim, ◌↔◌, ◌≢◌}
use Prim.Native.Nat.{ℕ, ◌≤◌, ◌<◌, ◌*◌, ◌^◌}
use native.Mathlib.Nat.{lt_of_le_of_lt, lt_trans}
use native.Mathlib.Omega.{arith}
use lib.ListN.{length, get_or, replicate, length-map, get_or-eq_default}
use lib.Bits.{and_le_r}
use lib.Pow.{pow_pos}
use lib.Dec.{ltb}
use Rattle.sets.specs.paper.Sets.{has, meet, disjoint, members}
use Rattle.sets.proofs.SetLaws.{Within, has-none, has_high, antisym, in_meet, of_meet, apart, disjoint-false, lt_or_le}
use Rattle.records.proofs.ListLaws.{get_or_mapped}
use Rattle.sets.proofs.MemberLaws.{members-length, member_at, member_place}
use Rattle.sets.proofs.Local.{clash}
use Rattle.report.specs.paper.Line.{Line, line_bytes}
use Rattle.report.specs.paper.EventList.{event_length}
use Rattle.report.specs.declared.Answer.{Answer}
use Rattle.report.specs.declared.Answer.TheVariants.{Refused, Answered}
use Rattle.report.specs.paper.Operations.{told, Outcome, filled, refusal, written}
use Rattle.report.proofs.WorldBlocks.{With, Parted, holds_with}
use Rattle.promises.proofs.LineBytes.{none, zeros, zeros-block, person-read, kind-read, role-read, block_read}
use Rattle.promises.proofs.MembersRise.{members-rise}
use Rattle.promises.specs.Partitioned.{person_at, kind_at, role_at, block_at, Apart, Partitioned}

pub within_le : (a b : ℕ) → Within a b → a ≤ b
unfolding meet
within_le a b h = subst (λ (x : ℕ). x ≤ b) (sym (antisym a (meet a b) (record { at = λ p e. in_meet a b p e (h.at p e) }) (record { at = λ p e. (of_meet a b p e).0 }))) (and_le_r a b)

-- a block without persons
none_apart : (a b : ℕ) → (a ≡ 0) ⊎ (b ≡ 0) → disjoint a b ≡ true
none_apart a b h = apart a b (λ p x y. ⊎_elim (λ z. nobody a p z x) (λ z. nobody b p z y) h)
  where
    nobody : (m p : ℕ) → m ≡ 0 → has m p ≡ true → ⊥
    nobody m p z x = clash x (ap (λ (b : ℕ). has b p) z ∙ has-none p)

-- a line for each person: it names the person, and its kind and role are among document 01's
pub record Proper (line : ℕ → Line) : Type 0 where
  pub person : (p : ℕ) → (line p).person ≡ p
  pub kind : (p : ℕ) → (line p).kind ≤ 6
  pub role : (p : ℕ) → (line p).role ≤ 3

module _ (Blocked : ℕ → Type 0) (room roster : ℕ) (fits : roster < 2 ^ 64) (line : ℕ → Line) (proper : Proper line)
    (parts : Parted Blocked roster (λ p. (line p).kind) (λ p. (line p).block)) where
  abbrev ls : List Line
  ls = map line (members roster)

  abbrev s : List ℕ
  s = filled room (map line_bytes ls)

  abbrev Has : ℕ → Type 0
  Has p = With Blocked roster (λ p. (line p).kind) (λ p. (line p).block) p

  has_one : (p : ℕ) → has roster p ≡ true → (q : ℕ) → has (line p).block q ≡ true → Has p
  has_one = holds_with Blocked roster (λ p. (line p).kind) (λ p. (line p).block) parts

  small : (p : ℕ) → has roster p ≡ true → (line p).block < 2 ^ 64
  small p here =
      ⊎_elim (λ o. subst (λ (b : ℕ). b < 2 ^ 64) (sym o.none) (pow_pos 64))
      (λ w. lt_of_le_of_lt (within_le (line p).block roster (record { at = λ q h. (w.members q h).0 })) fits) (parts p here)

  -- ---- line k is person p's

  record Reads (k p : ℕ) : Type 0 where
    here : has roster p ≡ true
    person : person_at s k ≡ p
    kind : kind_at s k ≡ (line p).kind
    role : role_at s k ≡ (line p).role
    block : block_at s k ≡ (line p).block

  low : (k : ℕ) → k < length ls → k < length (members roster)
  low k l = subst (λ (n : ℕ). k < n) (length-map (members roster) line) l

  reads : (k : ℕ) → k < length ls → Reads k (get_or (members roster) k 64)
  reads k l = record {
    here = there;
    person = person-read room ls k ∙ ap (λ (l : Line). l.person) is ∙ proper.person p;
    kind = kind-read room ls k ∙ ap (λ (l : Line). l.kind) is;
    role = role-read room ls k ∙ ap (λ (l : Line). l.role) is;
    block = block_read room ls k (subst (λ (l : Line). l.block < 2 ^ 64) (sym is) (small p there)) ∙ ap (λ (l : Line). l.block) is;
  }
    where
      p : ℕ
      p = get_or (members roster) k 64

      is : get_or ls k none ≡ line p
      is = get_or_mapped line (members roster) k 64 none (low k l)

      there : has roster p ≡ true
      there = member_at roster 64 k (low k l)

  listed : (q : ℕ) → has roster q ≡ true → (j : ℕ) × (j < length ls) × Reads j q
  listed q h = (r.0, l, subst (Reads r.0) r.2 (reads r.0 l))
    where
      r : (i : ℕ) × (i < length (members roster)) × (get_or (members roster) i 64 ≡ q)
      r =
          let t = member_place roster q 64 (⊎_elim (λ l. l) (λ l. clash h (has_high 64 roster q fits l)) (lt_or_le q 64)) h in
          (t.0, subst (λ (n : ℕ). t.0 < n) (sym (members-length roster)) t.1, t.2)

      l : r.0 < length ls
      l = subst (λ (n : ℕ). r.0 < n) (sym (length-map (members roster) line)) r.1

  -- past the last line stands none
  past : (k : ℕ) → length ls ≤ k → block_at s k ≡ 0
  past k l =
      let is = get_or-eq_default ls none l in
      block_read room ls k (subst (λ (l : Line). l.block < 2 ^ 64) (sym is) (pow_pos 64)) ∙ ap (λ (l : Line). l.block) is

  -- ---- a place in the buffer has no block, or the block of one who is in it

  each : (k : ℕ) → (block_at s k ≡ 0) ⊎ ((p : ℕ) × Reads k p × Has p)
  each k = ⊎_elim (λ l. one (get_or (members roster) k 64) (reads k l)) (λ l. inl (past k l)) (lt_or_le k (length ls))
    where
      one : (p : ℕ) → Reads k p → (block_at s k ≡ 0) ⊎ ((p : ℕ) × Reads k p × Has p)
      one p r = ⊎_elim (λ o. inl (r.block ∙ o.none)) (λ w. inr (p, r, w)) (parts p r.here)

  held : (k p : ℕ) → Reads k p → (q : ℕ) → has (block_at s k) q ≡ true → has (line p).block q ≡ true
  held k p r q h = sym (ap (λ (b : ℕ). has b q) r.block) ∙ h

  abbrev Two : ℕ → ℕ → Type 0
  Two i j = (block_at s i ≡ block_at s j) ⊎ (disjoint (block_at s i) (block_at s j) ≡ true)

  -- who is in both has both
  meeting : (i j p q : ℕ) → Reads i p → Has p → Reads j q → Has q → Two i j
  meeting i j p q r w t v = pick (disjoint (block_at s i) (block_at s j)) refl
    where
      pick : (b : Bool) → disjoint (block_at s i) (block_at s j) ≡ b → Two i j
      pick true e = inr e
      pick false e =
          let m = disjoint-false (block_at s i) (block_at s j) e in
          inl (r.block ∙ sym (w.members m.0 (held i p r m.0 m.1)).1 ∙ (v.members m.0 (held j q t m.0 m.2)).1 ∙ sym t.block)

  two : (i j : ℕ) → Two i j
  two i j =
      ⊎_elim (λ z. inr (none_apart (block_at s i) (block_at s j) (inl z))) (λ x.
      ⊎_elim (λ z. inr (none_apart (block_at s i) (block_at s j) (inr z))) (λ y. meeting i j x.0 y.0 x.1 x.2 y.1 y.2) (each j)) (each i)

  own : (k : ℕ) → (block_at s k ≡ 0) ⊎ (has (block_at s k) (person_at s k) ≡ true)
  own k = ⊎_elim (λ z. inl z) (λ x. inr (ap₂ has x.1.block x.1.person ∙ x.2.own)) (each k)

  -- ---- of the lines

  kinds : (k p : ℕ) → Reads k p → Blocked (kind_at s k) ↔ (block_at s k ≢ 0)
  kinds k p r =
      ⊎_elim (λ o. (λ b. absurd (o.other (subst Blocked r.kind b)), λ n. absurd (n (r.block ∙ o.none))))
      (λ w. (λ b z. clash w.own (ap (λ (b : ℕ). has b p) (sym r.block ∙ z) ∙ has-none p), λ n. subst Blocked (sym r.kind) w.such))
      (parts p r.here)

  reported : (k p : ℕ) → Reads k p → (q : ℕ) → has (block_at s k) q ≡ true
      → (j : ℕ) × (j < length ls) × (person_at s j ≡ q) × Blocked (kind_at s j) × (block_at s j ≡ block_at s k)
  reported k p r q h =
      let inside = held k p r q h in
      let m = (has_one p r.here q inside).members q inside in
      let t = listed q m.0 in
      let v = has_one q m.0 q (ap (λ (b : ℕ). has b q) m.1 ∙ inside) in
      (t.0, t.1, t.2.person, subst Blocked (sym t.2.kind) v.such, t.2.block ∙ m.1 ∙ sym r.block)

  pub parted_apart : Apart (filled room (map line_bytes (map line (members roster))))
  parted_apart = record { any_two = two; own = own }

  pub parted_lines : Partitioned Blocked roster (filled room (map line_bytes (map line (members roster)))) (length (map line (members roster)))
  parted_lines = record {
    count = length-map (members roster) line ∙ members-length roster;
    listed = λ k l. let r = reads k l in ap (has roster) r.person ∙ r.here;
    everybody = λ p h. let t = listed p h in (t.0, t.1, t.2.person);
    rising = λ i j l m.
        let a = (reads i (lt_trans l m)).person in
        let b = (reads j m).person in
        let r = members-rise roster 64 i j l (low j m) in
        omega arith;
    kind = λ k l. let r = (reads k l).kind in let h = proper.kind (get_or (members roster) k 64) in omega arith;
    role = λ k l. let r = (reads k l).role in let h = proper.role (get_or (members roster) k 64) in omega arith;
    kinds = λ k l. kinds k (get_or (members roster) k 64) (reads k l);
    own = λ k l n. ⊎_elim (λ z. absurd (n z)) (λ h. h) (own k);
    members = λ k l. reported k (get_or (members roster) k 64) (reads k l);
    any_two = λ i j l m. two i j;
  }

-- NOBODY HAS TWO LINES: persons rise
pub once : {Blocked : ℕ → Type 0} {roster : ℕ} {s : List ℕ} {n : ℕ} → Partitioned Blocked roster s n
    → (i j : ℕ) → i < n → j < n → person_at s i ≡ person_at s j → i ≡ j
once parts i j l m e =
    ⊎_elim (λ h. let r = parts.rising i j h m in absurd (omega arith))
    (λ h. ⊎_elim (λ k. let r = parts.rising j i k l in absurd (omega arith)) (λ k. omega arith) (lt_or_le j i)) (lt_or_le i j)

-- A LINE'S PERSON IS IN ANOTHER'S BLOCK EXACTLY IF THE LINE HAS IT AS BLOCK
pub block-persons : {Blocked : ℕ → Type 0} {roster : ℕ} {s : List ℕ} {n : ℕ} → Partitioned Blocked roster s n
    → (i k : ℕ) → i < n → k < n → block_at s i ≢ 0 → (has (block_at s i) (person_at s k) ≡ true) ↔ (block_at s k ≡ block_at s i)
block-persons {s = s} parts i k l m z = (
  λ h. let r = parts.members i l (person_at s k) h in ap (block_at s) (sym (once parts r.0 k r.1 m r.2)) ∙ r.4,
  λ e. ap (λ (b : ℕ). has b (person_at s k)) (sym e) ∙ parts.own k m (subst (λ (b : ℕ). b ≢ 0) (sym e) z),
)

-- ---- what an operation gives back, over a roster

pub record Claimed (Blocked : ℕ → Type 0) (roster : ℕ) (o : Outcome) : Type 0 where
  pub buffer : Apart o.lines
  pub lines : (told o.answer).refusal ≡ 0 → Partitioned Blocked roster o.lines (told o.answer).lines

pub refused_claimed : (Blocked : ℕ → Type 0) (line_room event_room roster : ℕ) (a : Answer) → ((told a).refusal ≡ 0 → ⊥)
    → Claimed Blocked roster (refusal line_room event_room a)
refused_claimed Blocked line_room event_room roster a n = record {
  buffer = record { any_two = λ i j. inl (blank i ∙ sym (blank j)); own = λ k. inl (blank k) };
  lines = λ h. absurd (n h);
}
  where
    blank : (k : ℕ) → block_at (replicate line_room 0) k ≡ 0
    blank k = zeros-block (replicate line_room 0) k (zeros line_room)

pub written_claimed : (Blocked : ℕ → Type 0) (line_room event_room roster : ℕ) → roster < 2 ^ 64 → (line : ℕ → Line) → Proper line
    → Parted Blocked roster (λ p. (line p).kind) (λ p. (line p).block) → (es : List (List ℕ)) (n : ℕ)
    → Claimed Blocked roster (written line_room event_room (map line (members roster)) es n)
unfolding written
written_claimed Blocked line_room event_room roster fits line proper parts es n = pick (ltb event_room (event_length * length es))
  where
    ls : List Line
    ls = map line (members roster)

    pick : (b : Bool)
        → Claimed Blocked roster (cond b (refusal line_room event_room (Refused 13 0))
        (record { answer = Answered (length ls) (length es) n; lines = filled line_room (map line_bytes ls); events = filled event_room es }))
    pick true = refused_claimed Blocked line_room event_room roster (Refused 13 0) (λ h. omega arith)
    pick false = record { buffer = parted_apart Blocked line_room roster fits line proper parts; lines = λ h. parted_lines Blocked line_room roster fits line proper parts }
