-- A pass over the records of one kind, and pass after pass: each record read, a refusal, or the end of the kind.
use mathlib.Core.Path.{◌≡◌, refl, sym, ap, ap₂, ◌∙◌}
use mathlib.Core.Bool.{Bool, true, false, cond}
use mathlib.Core.List.{List, [], ◌∷◌, ◌++◌}
use Prim.Native.Nat.{ℕ, zero, suc, ◌+◌, ◌-◌, ◌≤◌, ◌<◌}
use mathlib.Core.Logic.{⊎_elim}
use native.Mathlib.Nat.{le_refl}
use native.Mathlib.Omega.{arith}
use lib.ListN.{length, get_or}
use lib.Dec.{eqb, ltb, leb}
use borrow.Author.Tests.{lt-ltb, le-ltb, le-leb, lt-leb, ltb-true, ltb-false, eq-eqb, eqb-true}
use Rattle.records.specs.paper.Fields.{Read, got, bad, and_then, Raw, Format, Range, byte_at, record_at, Verdict, fine, refused, read_from}
use Rattle.records.specs.code.Readers.{map_read}
use Rattle.records.specs.code.Passes.{raw_of, WithBits, with_bits, Reading, read_on, after, reading, Passed, end_number}
use Rattle.records.specs.declared.fields.passing.Passing.{Passing}
use Rattle.records.proofs.Reading.{found, none, byte_next, byte_in, bad-got}
use Rattle.records.proofs.Chain.{raw, raw_parts}
use Rattle.sets.proofs.SetLaws.{lt_or_le}

-- ---- the record at a place, by its first byte

module _ (formats : List Format) (s : List ℕ) (at : ℕ) where
  abbrev kinds : Range
  kinds = record { low = 1; top = length formats }

  abbrev by_kind : Read ℕ → Read Raw
  by_kind x = and_then x (λ kind q. raw_of formats kind s q)

  opened : record_at formats s at ≡ by_kind (byte_at s at kinds)
  unfolding record_at
  opened = refl

  record_kind : {r : Raw} {p : ℕ} → record_at formats s at ≡ got r p → (r.kind ≡ get_or s at 0) × (1 ≤ r.kind) × (r.kind ≤ length formats)
  record_kind {r = r} {p = p} h = pick (byte_at s at kinds) refl (sym opened ∙ h)
    where
      pick : (x : Read ℕ) → byte_at s at kinds ≡ x → by_kind x ≡ got r p → (r.kind ≡ get_or s at 0) × (1 ≤ r.kind) × (r.kind ≤ length formats)
      pick (got kind q) h e =
          let b = byte_next s at kinds h in
          let w = raw_parts formats kind s q e in
          let z : r.kind ≡ kind = ap (λ (x : Raw). x.kind) w.is in
          (z ∙ b.0, omega (arith, z, b.4), omega (arith, z, b.3))
      pick bad h e = bad-got e

  record_of_lem : (K : ℕ) → 1 ≤ K → K ≤ length formats → at < length s → get_or s at 0 ≡ K → record_at formats s at ≡ raw_of formats K s (at + 1)
  record_of_lem K l u h e = opened ∙ ap by_kind (byte_in s at 1 (length formats) h e l u)

-- what a kind's reader says of a record
module _ {A : Type 0} (formats : List Format) (K : ℕ) (make : Raw → A) (s : List ℕ) (at : ℕ) where
  record Taken (b : ℕ) (x : A) (p : ℕ) : Type 0 where
    pub fields : List (List ℕ)
    pub reads : raw_of formats K s at ≡ got (raw K b fields) p
    pub makes : make (raw K b fields) ≡ x
    pub later : at < p

  taken : {b : ℕ} {x : A} {p : ℕ} → map_read (with_bits make) (raw_of formats K s at) ≡ got (record { bits = b; item = x }) p → Taken b x p
  taken {b = b} {x = x} {p = p} e =
      let f = found (with_bits make) (raw_of formats K s at) e in
      let q = raw_parts formats K s at f.is in
      let w = f.bytes in
      let h : w.bits ≡ b = ap (λ (z : WithBits A). z.bits) f.means in
      let k : w ≡ raw K b w.fields = q.is ∙ ap (λ (z : ℕ). raw K z w.fields) h in
      record { fields = w.fields; reads = f.is ∙ ap (λ (z : Raw). got z p) k; makes = ap make (sym k) ∙ ap (λ (z : WithBits A). z.item) f.means; later = q.later }

-- ---- one step of reading

module _ {F : Type 0} (R : Reading F) (s : List ℕ) (at kind : ℕ) (a : F) (k : ℕ) where
  module _ (h : at < length s) where
    step_bad : record_at R.formats s at ≡ bad → read_on R s at kind a k ≡ refused 1 k
    unfolding read_from
    step_bad e = rw (lt-leb (length s) at h, e)

    module _ {r : Raw} {p : ℕ} (e : record_at R.formats s at ≡ got r p) where
      step_fallen : ltb r.kind kind ≡ true → read_on R s at kind a k ≡ refused 1 k
      unfolding read_from
      step_fallen f = rw (lt-leb (length s) at h, e, f)

      step_judged : {m : ℕ} → ltb r.kind kind ≡ false → R.judge r (R.add r a) ≡ suc m → read_on R s at kind a k ≡ refused (suc m) k
      unfolding read_from
      step_judged f g = rw (lt-leb (length s) at h, e, f, g)

      step_next : ltb r.kind kind ≡ false → R.judge r (R.add r a) ≡ 0 → k < length s → read_on R s at kind a k ≡ read_on R s p r.kind (R.add r a) (k + 1)
      unfolding read_from
      step_next f g l = let m : length s - k ≡ suc (length s - (k + 1)) = omega arith in rw (lt-leb (length s) at h, e, f, g, m)

  -- what comes has another kind, or nothing comes
  module _ (kind' : ℕ) where
    next-kind : ((r : Raw) (p : ℕ) → record_at R.formats s at ≡ got r p → ltb r.kind kind ≡ ltb r.kind kind') → read_on R s at kind a k ≡ read_on R s at kind' a k
    unfolding read_from
    next-kind same = pick (record_at R.formats s at) refl
      where
        go : ℕ → Read Raw → Verdict F
        go kind x = cond (leb (length s) at) (cond (eqb k 0) (refused 3 0) (fine a))
            (elim x [
              | bad ↦ refused 1 k
              | got r p ↦ elim (ltb r.kind kind) [
                | true ↦ refused 1 k
                | false ↦ elim (R.judge r (R.add r a)) [ zero ↦ read_from R.formats R.add R.judge (length s - k) s p r.kind (R.add r a) (k + 1) | suc m ↦ refused (suc m) k ]
              ]
            ])

        pick : (x : Read Raw) → record_at R.formats s at ≡ x → go kind x ≡ go kind' x
        pick (got r p) e = rw (same r p e)
        pick bad e = refl

  pass_done : length s ≤ at → read_on R s at kind a k ≡ cond (eqb k 0) (refused 3 0) (fine a)
  unfolding read_from
  pass_done h = rw (le-leb (length s) at h)

  pass-last : length R.formats < kind → at < length s → read_on R s at kind a k ≡ refused 1 k
  pass-last l h = pick (record_at R.formats s at) refl
    where
      pick : (x : Read Raw) → record_at R.formats s at ≡ x → read_on R s at kind a k ≡ refused 1 k
      pick (got r p) e = let z = (record_kind R.formats s at e).2 in step_fallen h e (lt-ltb r.kind kind (omega (arith, z, l)))
      pick bad e = step_bad h e

  -- after the last kind, when nothing is refused so far
  read-last : length R.formats < kind → (more none : Bool) → ltb at (length s) ≡ more → eqb k 0 ≡ none
      → cond (eqb (cond more 1 (cond none 3 0)) 0) (fine a) (refused (cond more 1 (cond none 3 0)) k) ≡ read_on R s at kind a k
  read-last l true z e f = sym (pass-last l (ltb-true at (length s) e))
  read-last l false true e f = ap (refused 3) (eqb-true k 0 f) ∙ sym (pass_done (ltb-false at (length s) e) ∙ ap (λ (b : Bool). cond b (refused 3 0) (fine a)) f)
  read-last l false false e f = sym (pass_done (ltb-false at (length s) e) ∙ ap (λ (b : Bool). cond b (refused 3 0) (fine a)) f)

other : (a K : ℕ) → (a ≡ K → ⊥) → ltb a K ≡ ltb a (suc K)
other a K n = pick (ltb a K) refl
  where
    pick : (b : Bool) → ltb a K ≡ b → ltb a K ≡ ltb a (suc K)
    pick true e = let l = ltb-true a K e in e ∙ sym (lt-ltb a (suc K) (omega (arith, l)))
    pick false e = let l = ltb-false a K e in e ∙ sym (le-ltb a (suc K) (⊎_elim (λ z. z) (λ z. absurd (n (omega (arith, l, z)))) (lt_or_le K a)))

module _ {F : Type 0} (R : Reading F) (s : List ℕ) (at : ℕ) (a : F) (k : ℕ) where
  pass_other : (K : ℕ) → (get_or s at 0 ≡ K → ⊥) → read_on R s at K a k ≡ read_on R s at (suc K) a k
  pass_other K n = next-kind R s at K a k (suc K) (λ r p e. let z = (record_kind R.formats s at e).0 in other r.kind K (λ q. n (sym z ∙ q)))

  pass-short : (K : ℕ) → length s ≤ at → read_on R s at K a k ≡ read_on R s at (suc K) a k
  pass-short K h = pass_done R s at K a k h ∙ sym (pass_done R s at (suc K) a k h)

  pass-first : read_on R s at 0 a k ≡ read_on R s at 1 a k
  pass-first = next-kind R s at 0 a k 1 (λ r p e. let z = (record_kind R.formats s at e).1 in le-ltb r.kind 0 (omega arith) ∙ sym (le-ltb r.kind 1 (omega (arith, z))))

-- a kind of record: where what was read keeps it, what a raw record makes, what is wrong with one more of them, and what holds of those that
-- passed
pub record Kind {F : Type 0} (R : Reading F) (A : Type 0) : Type 1 where
  pub K : ℕ
  pub low : 1 ≤ K
  pub top : K ≤ length R.formats
  pub put : F → List A → F
  pub make : Raw → A
  pub judge : Bool → List A → ℕ → A → ℕ
  pub Fine : List A → Type 0
  pub adds : (a : F) (xs : List A) (b : ℕ) (vs : List (List ℕ)) → R.add (raw K b vs) (put a xs) ≡ put a (xs ++ (make (raw K b vs) ∷ []))
  pub judges : (headed : Bool) (a : F) (xs : List A) (b : ℕ) (vs : List (List ℕ)) → R.Clean headed a → Fine xs
      → R.judge (raw K b vs) (put a (xs ++ (make (raw K b vs) ∷ []))) ≡ judge headed xs b (make (raw K b vs))

-- ---- a pass, from where it has come to

-- no more records than bytes before the place, so that one more can be counted
pub counted : {k at : ℕ} → k ≤ at → mir.Val.Fits mir.Syntax.w64 (at + 1) → mir.Val.Fits mir.Syntax.w64 (k + 1)
counted le h = record { fits = omega (arith, h.fits, le) }

module _ {F : Type 0} {R : Reading F} {A : Type 0} (D : Kind R A) (s : List ℕ) (from : Passing) where
  -- what was handed in says of reading what is said here
  pub record Going (n k at : ℕ) (xs : List A) : Type 0 where
    pub same : (a : F) → R.Clean from.headed a → reading R s D.K from (D.put a []) ≡ after R s D.K n k at (D.put a xs)

  pub going : (xs : List A) → xs ≡ [] → Going from.number from.«record» from.at xs
  going xs e = record { same = λ a c. ap (λ (ys : List A). reading R s D.K from (D.put a ys)) (sym e) }

  module _ {n k at : ℕ} {xs : List A} (inv : Going n k at xs) where
    abbrev Ends : ℕ → Type 0
    Ends m = (a : F) → R.Clean from.headed a → reading R s D.K from (D.put a []) ≡ after R s (suc D.K) m k at (D.put a xs)

    ends_by : ((a : F) → read_on R s at D.K (D.put a xs) k ≡ read_on R s at (suc D.K) (D.put a xs) k) → Ends n
    ends_by e a c = inv.same a c ∙ ap (λ (v : Verdict F). cond (eqb n 0) v (refused n k)) (e a)

    pub ends-short : length s ≤ at → Ends n
    ends-short h = ends_by (λ a. pass-short R s at (D.put a xs) k D.K h)

    pub ends_other : (get_or s at 0 ≡ D.K → ⊥) → Ends n
    ends_other o = ends_by (λ a. pass_other R s at (D.put a xs) k D.K o)

    -- a refusal that was handed in is handed on
    pub ends-refused : eqb n 0 ≡ false → Ends n
    ends-refused z a c = inv.same a c ∙ rw z

    module _ (z : eqb n 0 ≡ true) (le : k ≤ at) (h : at < length s) (e : get_or s at 0 ≡ D.K) where
      goes : (a : F) → R.Clean from.headed a → reading R s D.K from (D.put a []) ≡ read_on R s at D.K (D.put a xs) k
      goes a c = inv.same a c ∙ ap (λ (b : Bool). cond b (read_on R s at D.K (D.put a xs) k) (refused n k)) z

      here : record_at R.formats s at ≡ raw_of R.formats D.K s (at + 1)
      here = record_of_lem R.formats s at D.K D.low D.top h e

      pub refused-bad : map_read (with_bits D.make) (raw_of R.formats D.K s (at + 1)) ≡ bad → Ends 1
      refused-bad f a c = goes a c ∙ step_bad R s at D.K (D.put a xs) k h (here ∙ none (with_bits D.make) (raw_of R.formats D.K s (at + 1)) f)

      module _ (g : D.Fine xs) {b : ℕ} {x : A} {p : ℕ} (f : map_read (with_bits D.make) (raw_of R.formats D.K s (at + 1)) ≡ got (record { bits = b; item = x }) p) where
        reads : Taken R.formats D.K D.make s (at + 1) b x p
        reads = taken R.formats D.K D.make s (at + 1) f

        abbrev r : Raw
        r = raw D.K b reads.fields

        is : record_at R.formats s at ≡ got r p
        is = here ∙ reads.reads

        level : ltb D.K D.K ≡ false
        level = le-ltb D.K D.K (le_refl D.K)

        grown : (a : F) → R.add r (D.put a xs) ≡ D.put a (xs ++ (x ∷ []))
        grown a = D.adds a xs b reads.fields ∙ ap (λ (z : A). D.put a (xs ++ (z ∷ []))) reads.makes

        says : (a : F) → R.Clean from.headed a → R.judge r (R.add r (D.put a xs)) ≡ D.judge from.headed xs b x
        says a c = ap (R.judge r) (D.adds a xs b reads.fields) ∙ D.judges from.headed a xs b reads.fields c g ∙ ap (D.judge from.headed xs b) reads.makes

        pub refused_judged : (m : ℕ) → m ≡ D.judge from.headed xs b x → (m ≡ 0 → ⊥) → Ends m
        refused_judged zero j z a c = absurd (z refl)
        refused_judged (suc m) j z a c = rw (lib.Dec.eqb-suc-zero m) (goes a c ∙ step_judged R s at D.K (D.put a xs) k h is level (says a c ∙ sym j))

        pub goes_on : (m : ℕ) → m ≡ D.judge from.headed xs b x → m ≡ 0 → (ys : List A) → ys ≡ xs ++ (x ∷ []) → Going m (k + 1) p ys
        goes_on m j y ys q = record {
          same = λ a c.
              goes a c ∙ step_next R s at D.K (D.put a xs) k h is level (says a c ∙ sym j ∙ y) (omega arith)
              ∙ ap (λ (b : F). read_on R s p D.K b (k + 1)) (grown a ∙ ap (D.put a) (sym q))
              ∙ sym (ap (λ (b : Bool). cond b (read_on R s p D.K (D.put a ys) (k + 1)) (refused m (k + 1))) (eq-eqb m 0 y));
        }

        pub goes_later : at < p
        goes_later = let w = reads.later in omega (arith, w)

-- ---- pass after pass

-- what reading all gives, when the passes have come to here, and nothing is wrong with what was read
pub record Reached {F : Type 0} (R : Reading F) (s : List ℕ) (v : Verdict F) (kind : ℕ) (p : Passing) (a : F) : Type 0 where
  pub is : v ≡ reading R s kind p a
  pub clean : R.Clean p.headed a

pub first_kind_lem : {F : Type 0} (R : Reading F) (s : List ℕ) (a : F) → read_from R.formats R.add R.judge (length s + 1) s 0 0 a 0 ≡ read_on R s 0 1 a 0
first_kind_lem R s a = ap (λ (n : ℕ). read_from R.formats R.add R.judge n s 0 0 a 0) (omega arith) ∙ pass-first R s 0 a 0

module _ {F : Type 0} {R : Reading F} {s : List ℕ} {v : Verdict F} {kind : ℕ} {p : Passing} {a : F} (w : Reached R s v kind p a) where
  pub next-pass : {A : Type 0} (put : F → List A → F) (q : Passing) (xs : List A) → put a [] ≡ a → Passed R put kind s p q xs → q.headed ≡ p.headed → R.Clean p.headed (put a xs)
      → Reached R s v (suc kind) q (put a xs)
  next-pass put q xs e h same c = record {
    is = w.is ∙ ap (reading R s kind p) (sym e) ∙ h a w.clean;
    clean = rw same c;
  }

  -- after the last kind: what is refused, or what was read
  pub all_read : {n k : ℕ} → length R.formats < kind → n ≡ end_number s p → k ≡ p.«record» → cond (eqb n 0) (fine a) (refused n k) ≡ v
  all_read l e f = ap₂ (λ (x y : ℕ). cond (eqb x 0) (fine a) (refused x y)) e f ∙ pick (eqb p.number 0) refl ∙ sym w.is
    where
      last : ℕ
      last = cond (ltb p.at (length s)) 1 (cond (eqb p.«record» 0) 3 0)

      pick : (x : Bool) → eqb p.number 0 ≡ x
          → cond (eqb (cond x last p.number) 0) (fine a) (refused (cond x last p.number) p.«record») ≡ cond x (read_on R s p.at kind a p.«record») (refused p.number p.«record»)
      pick true h = read-last R s p.at kind a p.«record» l (ltb p.at (length s)) (eqb p.«record» 0) refl refl
      pick false h = ap (λ (x : Bool). cond x (fine a) (refused p.number p.«record»)) h
