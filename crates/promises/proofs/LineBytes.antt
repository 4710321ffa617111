-- What is read out of a buffer that was filled with lines: the line's own person, kind, role and block, or nothing past the last.
use mathlib.Core.Path.{◌≡◌, refl, sym, ap, ◌∙◌, subst}
use mathlib.Core.List.{List, [], ◌∷◌, map}
use mathlib.Core.Logic.{◌⊎◌, inl, inr, ⊎_elim}
use Prim.Native.Nat.{ℕ, zero, suc, ◌*◌, ◌-◌, ◌^◌, ◌≤◌, ◌<◌}
use native.Mathlib.Omega.{arith}
use lib.ListN.{length, get_or, take, drop, replicate, take-append-drop, get_or-eq_default}
use Rattle.sets.specs.paper.Sets.{All}
use Rattle.records.specs.paper.Fields.{little}
use Rattle.sets.proofs.SetLaws.{lt_or_le}
use Rattle.sets.proofs.Every.{all_parts, all_get_d}
use Rattle.page.specs.Little.{little_bytes}
use Rattle.encoding.proofs.FieldsBack.{little_back}
use Rattle.report.specs.paper.Line.{Line, line_bytes, line_length, bare_line}
use Rattle.report.specs.paper.LineAt.{line_at, decoded}
use Rattle.report.specs.paper.Operations.{filled}
use Rattle.report.proofs.LinesAt.{run, line_at_lem, past-lines}
use Rattle.promises.specs.Partitioned.{person_at, kind_at, role_at, block_at}

-- ---- a line that is read back is the line, where its fields fit their bytes

module _ (l : Line) where
  pub block_back : l.block < 2 ^ 64 → (decoded (line_bytes l)).block ≡ l.block
  unfolding decoded line_bytes little_bytes
  block_back h = little_back 8 l.block h

  pub facts_back : l.open_facts < 2 ^ 64 → (decoded (line_bytes l)).open_facts ≡ l.open_facts
  unfolding decoded line_bytes little_bytes
  facts_back h = little_back 8 l.open_facts h

  pub decisions_back : l.open_decisions < 2 ^ 16 → (decoded (line_bytes l)).open_decisions ≡ l.open_decisions
  unfolding decoded line_bytes little_bytes
  decisions_back h = little_back 2 l.open_decisions h

  pub decoded-line : l.block < 2 ^ 64 → l.open_facts < 2 ^ 64 → l.open_decisions < 2 ^ 16 → l.citations < 2 ^ 64 → decoded (line_bytes l) ≡ l
  unfolding decoded line_bytes little_bytes
  decoded-line b f d c = λ i. record {
    person = l.person;
    kind = l.kind;
    role = l.role;
    block = block_back b i;
    open_facts = facts_back f i;
    open_decisions = decisions_back d i;
    citations = little_back 8 l.citations c i;
  }

-- ---- zeros

abbrev pub Zeros : List ℕ → Type 0
Zeros s = All (λ b. b ≡ 0) s

pub zeros : (n : ℕ) → Zeros (replicate n 0)
zeros zero = tt
zeros (suc n) = (refl, zeros n)

zeros-parts : (n : ℕ) (s : List ℕ) → Zeros s → Zeros (take n s) × Zeros (drop n s)
zeros-parts n s h = all_parts (λ b. b ≡ 0) (take n s) (drop n s) (subst Zeros (sym (take-append-drop n s)) h)

zeros-little : (s : List ℕ) → Zeros s → little s ≡ 0
unfolding little
zeros-little [] h = refl
zeros-little (b ∷ bs) h =
    let e = h.0 in
    let ih = zeros-little bs h.1 in
    omega arith

-- ---- lines

abbrev pub none : Line
none = bare_line 0 0

-- in bytes of which nothing is written every number is 0
blank_byte : (s : List ℕ) (i : ℕ) → Zeros s → get_or s i 0 ≡ 0
blank_byte s i z = all_get_d (λ b. b ≡ 0) s 0 z refl i

blank_block : (s : List ℕ) → Zeros s → (decoded s).block ≡ 0
unfolding decoded
blank_block s z = zeros-little (take 8 (drop 3 s)) (zeros-parts 8 (drop 3 s) (zeros-parts 3 s z).1).0

zeros-line : (s : List ℕ) (k : ℕ) → Zeros s → Zeros (line_at s k)
unfolding line_at
zeros-line s k z = (zeros-parts line_length (drop (line_length * k) s) (zeros-parts (line_length * k) s z).1).0

pub zeros-block : (s : List ℕ) (k : ℕ) → Zeros s → block_at s k ≡ 0
unfolding block_at
zeros-block s k z = blank_block (line_at s k) (zeros-line s k z)

module _ (room : ℕ) (ls : List Line) (k : ℕ) where
  abbrev s : List ℕ
  s = filled room (map line_bytes ls)

  abbrev l : Line
  l = get_or ls k none

  -- at line k stands its own line, or nothing
  placed : (line_at s k ≡ line_bytes l) ⊎ ((l ≡ none) × Zeros (line_at s k))
  unfolding line_at
  placed = ⊎_elim (λ h. inl (line_at_lem room ls k none h)) (λ h. inr (get_or-eq_default ls none h, past h)) (lt_or_le k (length ls))
    where
      left : ℕ
      left = room - length (run ls)

      past : length ls ≤ k → Zeros (take line_length (drop (line_length * k) s))
      past h =
          let r = past-lines ls (replicate left 0) k h in
          (zeros-parts line_length (drop (line_length * k) s) (subst Zeros (sym r.1) (zeros-parts r.0 (replicate left 0) (zeros left)).1)).0

  -- a field of the line, where it is read back from its bytes, and from none
  field-read : (field : Line → ℕ) → field (decoded (line_bytes l)) ≡ field l → ((b : List ℕ) → Zeros b → field (decoded b) ≡ field none)
      → field (decoded (line_at s k)) ≡ field l
  field-read field back blank =
      ⊎_elim (λ e. ap (λ (b : List ℕ). field (decoded b)) e ∙ back) (λ r. blank (line_at s k) r.1 ∙ ap field (sym r.0)) placed

  pub person-read : person_at (filled room (map line_bytes ls)) k ≡ (get_or ls k none).person
  unfolding person_at decoded line_bytes
  person-read = field-read (λ l. l.person) refl (λ b. blank_byte b 0)

  pub kind-read : kind_at (filled room (map line_bytes ls)) k ≡ (get_or ls k none).kind
  unfolding kind_at decoded line_bytes
  kind-read = field-read (λ l. l.kind) refl (λ b. blank_byte b 1)

  pub role-read : role_at (filled room (map line_bytes ls)) k ≡ (get_or ls k none).role
  unfolding role_at decoded line_bytes
  role-read = field-read (λ l. l.role) refl (λ b. blank_byte b 2)

  pub block_read : (get_or ls k none).block < 2 ^ 64 → block_at (filled room (map line_bytes ls)) k ≡ (get_or ls k none).block
  unfolding block_at
  block_read h = field-read (λ l. l.block) (block_back l h) blank_block
