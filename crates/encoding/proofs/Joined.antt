-- Records that stand one behind the other are read back one by one.
use mathlib.Core.Path.{◌≡◌, refl, sym, ap, ap₂, ◌∙◌}
use mathlib.Core.List.{List, [], ◌∷◌, ◌++◌, flat_map}
use Prim.Native.Nat.{ℕ, zero, suc, ◌+◌, ◌≤◌, ◌<◌, zero-le, suc-le-suc}
use native.Mathlib.Omega.{arith}
use lib.ListN.{length, length-append}
use borrow.Author.Tests.{le-leb, lt-leb, le-ltb, ne_eqb}
use Rattle.records.specs.paper.Fields.{Format, Raw, fine, read_from}
use Rattle.encoding.specs.paper.Encoded.{record_bytes}
use Rattle.encoding.proofs.RecordBack.{Fits, record_back, move}

record_long : (formats : List Format) (r : Raw) → 2 ≤ length (record_bytes formats r)
unfolding record_bytes
record_long formats r = suc-le-suc (suc-le-suc zero-le)

module _ {A : Type 0} (formats : List Format) (add : Raw → A → A) (judge : Raw → A → ℕ) where
  -- one after the other, kinds never fall and nothing is wrong with any; what is there in the end
  abbrev pub Reads : ℕ → A → List Raw → A → Type 0
  Reads kind a [] b = a ≡ b
  Reads kind a (r ∷ rs) b = Fits formats r × (kind ≤ r.kind) × (judge r (add r a) ≡ 0) × Reads r.kind (add r a) rs b

  pub read-joined : (rs : List Raw) (n : ℕ) (pre : List ℕ) (kind : ℕ) (a b : A) (k : ℕ) → length rs < n → 1 ≤ k + length rs → Reads kind a rs b
      → read_from formats add judge n (pre ++ flat_map (record_bytes formats) rs) (length pre) kind a k ≡ fine b
  unfolding read_from flat_map
  read-joined rs zero pre kind a b k l m h = absurd (omega arith)
  read-joined [] (suc n) pre kind a b k l m h =
      rw (le-leb (length (pre ++ [])) (length pre) (let z = length-append pre [] in let y : length {A = ℕ} [] ≡ 0 = refl in omega arith), ne_eqb k 0 (λ e. let y : length {A = Raw} [] ≡ 0 = refl in omega arith))
      (ap fine h)
  read-joined (r ∷ rs) (suc n) pre kind a b k l m h =
      rw (lt-leb (length s) (length pre) longer, record_back formats r h.0 pre tail, le-ltb r.kind kind h.1, h.2)
      (ap₂ (λ (t : List ℕ) (i : ℕ). read_from formats add judge n t i r.kind (add r a) (k + 1)) (move pre (record_bytes formats r) tail) (sym (length-append pre (record_bytes formats r)))
      ∙ read-joined rs n (pre ++ record_bytes formats r) r.kind (add r a) b (k + 1) (let y : length (r ∷ rs) ≡ suc (length rs) = refl in omega arith) (omega arith) h.3)
    where
      tail : List ℕ
      tail = flat_map (record_bytes formats) rs

      s : List ℕ
      s = pre ++ (record_bytes formats r ++ tail)

      longer : length pre < length s
      longer =
          let x = length-append pre (record_bytes formats r ++ tail) in
          let y = length-append (record_bytes formats r) tail in
          let z = record_long formats r in
          omega arith

  -- there is fuel enough
  pub records_fewer : (rs : List Raw) → length rs ≤ length (flat_map (record_bytes formats) rs)
  unfolding flat_map
  records_fewer [] = omega arith
  records_fewer (r ∷ rs) =
      let x = length-append (record_bytes formats r) (flat_map (record_bytes formats) rs) in
      let z = record_long formats r in
      let y : length (r ∷ rs) ≡ suc (length rs) = refl in
      let ih = records_fewer rs in
      omega arith
