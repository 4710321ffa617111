-- A record's bytes are read back as the record, wherever they stand.
use mathlib.Core.Path.{◌≡◌, refl, sym, ap, ap₂, ◌∙◌, subst}
use mathlib.Core.Bool.{Bool, true, false, cond}
use mathlib.Core.List.{List, [], ◌∷◌, ◌++◌, append_assoc}
use Prim.Native.Nat.{ℕ, suc, ◌+◌, ◌/◌, ◌%◌, ◌≤◌}
use native.Mathlib.Omega.{arith}
use lib.ListN.{length, length-append}
use lib.Seq.{get_or-append_seam}
use lib.Dec.{leb}
use borrow.Author.Tests.{eq-eqb, le-leb}
use Rattle.sets.specs.paper.Sets.{odd}
use Rattle.records.specs.paper.Fields.{Range, number, up_to, Shape, bytes, list, most, repeat, little, got, bad, and_then, byte_at, bytes_at, field_at, fields_at, Format, format_of, Raw, record_at}
use Rattle.records.proofs.FieldLaws.{In, Ranged}
use Rattle.records.proofs.Reading.{byte_in}
use Rattle.encoding.specs.paper.Encoded.{field_bytes, fields_bytes, record_bytes}

-- ---- fields that can be read back

abbrev pub FieldFits : Shape → List ℕ → Type 0
FieldFits (bytes rs) v = Ranged rs v
FieldFits (list n rs) v = (k : ℕ) × (k ≤ n) × (length v / length rs ≡ k) × Ranged (repeat k rs) v
FieldFits most v = Ranged (number ∷ number ∷ []) v × (little v ≤ 4096)

-- that, if its bit stands, else absent
abbrev pub FitsIf : Bool → Shape → List ℕ → Type 0
FitsIf true f v = FieldFits f v
FitsIf false f v = v ≡ []

abbrev pub FieldsFit : ℕ → List Shape → List (List ℕ) → Type 0
FieldsFit bits [] [] = bits ≡ 0
FieldsFit bits [] (v ∷ vs) = ⊥
FieldsFit bits (f ∷ fs) [] = ⊥
FieldsFit bits (f ∷ fs) (v ∷ vs) = FitsIf (odd (bits % 2)) f v × FieldsFit (bits / 2) fs vs

-- a record that can be read back
pub record Fits (fs : List Format) (r : Raw) : Type 0 where
  pub kind : In (record { low = 1; top = length fs }) r.kind
  pub bits : r.bits ≤ 255
  pub fields : FieldsFit r.bits (format_of fs r.kind).fields r.fields

-- one byte behind a beginning
byte_back : (r : Range) (b : ℕ) → In r b → (pre post : List ℕ) → byte_at (pre ++ (b ∷ post)) (length pre) r ≡ got b (length pre + 1)
byte_back r b h pre post =
    byte_in (pre ++ (b ∷ post)) (length pre) r.low r.top (let l = length-append pre (b ∷ post) in let z : length (b ∷ post) ≡ suc (length post) = refl in omega arith)
    (get_or-append_seam pre b post 0) h.0 h.1

-- the beginning grows by what was read
pub move : (pre v post : List ℕ) → pre ++ (v ++ post) ≡ (pre ++ v) ++ post
move pre v post = sym (append_assoc pre v post)

bytes_back : (rs : List Range) (v : List ℕ) → Ranged rs v → (pre post : List ℕ) → bytes_at (pre ++ (v ++ post)) (length pre) rs ≡ got v (length pre + length v)
unfolding bytes_at
bytes_back [] [] h pre post = ap (got []) (omega arith)
bytes_back [] (b ∷ bs) h pre post = absurd h
bytes_back (r ∷ rs) [] h pre post = absurd h
bytes_back (r ∷ rs) (b ∷ bs) h pre post =
    ap (λ x. and_then x (λ b p. and_then (bytes_at s p rs) (λ bs q. got (b ∷ bs) q))) (byte_back r b h.0 pre (bs ++ post))
    ∙ ap (λ x. and_then x (λ bs q. got (b ∷ bs) q))
    (ap₂ (λ (t : List ℕ) (k : ℕ). bytes_at t k rs) (move pre (b ∷ []) (bs ++ post)) (sym (length-append pre (b ∷ []))) ∙ bytes_back rs bs h.1 (pre ++ (b ∷ [])) post)
    ∙ ap (got (b ∷ bs)) (let z = length-append pre (b ∷ []) in let y : length (b ∷ bs) ≡ suc (length bs) = refl in let x : length (b ∷ []) ≡ 1 = refl in omega arith)
  where
    s : List ℕ
    s = pre ++ (b ∷ (bs ++ post))

field_back : (f : Shape) (v : List ℕ) → FieldFits f v → (pre post : List ℕ) → field_at (pre ++ (field_bytes f v ++ post)) (length pre) f ≡ got v (length pre + length (field_bytes f v))
unfolding field_at field_bytes
field_back (bytes rs) v h pre post = bytes_back rs v h pre post
field_back (list n rs) v h pre post =
    ap (λ x. and_then x (λ k p. bytes_at s p (repeat k rs))) (byte_back (up_to n) k (omega arith, omega (arith, h.1, h.2)) pre (v ++ post))
    ∙ ap₂ (λ (t : List ℕ) (i : ℕ). bytes_at t i (repeat k rs)) (move pre (k ∷ []) (v ++ post)) (sym (length-append pre (k ∷ [])))
    ∙ bytes_back (repeat k rs) v (subst (λ (i : ℕ). Ranged (repeat i rs) v) (sym h.2) h.3) (pre ++ (k ∷ [])) post
    ∙ ap (got v) (let z = length-append pre (k ∷ []) in let y : length (k ∷ v) ≡ suc (length v) = refl in let x : length (k ∷ []) ≡ 1 = refl in omega arith)
  where
    k : ℕ
    k = length v / length rs

    s : List ℕ
    s = pre ++ (k ∷ (v ++ post))
field_back most v h pre post =
    ap (λ x. and_then x (λ bs p. cond (leb (little bs) 4096) (got bs p) bad)) (bytes_back (number ∷ number ∷ []) v h.0 pre post)
    ∙ ap (λ (b : Bool). cond b (got v (length pre + length v)) bad) (le-leb (little v) 4096 h.1)

fields_back : (bits : ℕ) (fs : List Shape) (vs : List (List ℕ)) → FieldsFit bits fs vs → (pre post : List ℕ)
    → fields_at (pre ++ (fields_bytes bits fs vs ++ post)) (length pre) bits fs ≡ got vs (length pre + length (fields_bytes bits fs vs))
unfolding fields_at fields_bytes
fields_back bits [] [] h pre post = ap (λ (b : Bool). cond b (got [] (length pre)) bad) (eq-eqb bits 0 h) ∙ ap (got []) (omega arith)
fields_back bits [] (v ∷ vs) h pre post = absurd h
fields_back bits (f ∷ fs) [] h pre post = absurd h
fields_back bits (f ∷ fs) (v ∷ vs) h pre post = go (odd (bits % 2)) h.0 (λ p q. fields_back (bits / 2) fs vs h.1 p q)
  where
    tail : List ℕ
    tail = fields_bytes (bits / 2) fs vs

    whole : Bool → List ℕ
    whole b = pre ++ ((cond b (field_bytes f v) [] ++ tail) ++ post)

    go : (b : Bool) → FitsIf b f v
        → ((p q : List ℕ) → fields_at (p ++ (tail ++ q)) (length p) (bits / 2) fs ≡ got vs (length p + length tail))
        → and_then (cond b (field_at (whole b) (length pre) f) (got [] (length pre))) (λ w p. and_then (fields_at (whole b) p (bits / 2) fs) (λ ws q. got (w ∷ ws) q))
        ≡ got (v ∷ vs) (length pre + length (cond b (field_bytes f v) [] ++ tail))
    go true e ih =
        let fb = field_bytes f v in
        let apart : whole true ≡ pre ++ (fb ++ (tail ++ post)) = ap (λ (t : List ℕ). pre ++ t) (append_assoc fb tail post) in
        ap (λ (t : List ℕ). and_then (field_at t (length pre) f) (λ w p. and_then (fields_at t p (bits / 2) fs) (λ ws q. got (w ∷ ws) q))) apart
        ∙ ap (λ x. and_then x (λ w p. and_then (fields_at (pre ++ (fb ++ (tail ++ post))) p (bits / 2) fs) (λ ws q. got (w ∷ ws) q))) (field_back f v e pre (tail ++ post))
        ∙ ap (λ x. and_then x (λ ws q. got (v ∷ ws) q))
        (ap₂ (λ (t : List ℕ) (k : ℕ). fields_at t k (bits / 2) fs) (move pre fb (tail ++ post)) (sym (length-append pre fb)) ∙ ih (pre ++ fb) post)
        ∙ ap (got (v ∷ vs)) (let z = length-append pre fb in let y = length-append fb tail in omega arith)
    go false e ih =
        ap (λ x. and_then x (λ ws q. got ([] ∷ ws) q)) (ih pre post) ∙ ap (λ (w : List ℕ). got (w ∷ vs) (length pre + length tail)) (sym e)

-- A RECORD'S BYTES ARE READ BACK AS THE RECORD
pub record_back : (fs : List Format) (r : Raw) → Fits fs r
    → (pre post : List ℕ) → record_at fs (pre ++ (record_bytes fs r ++ post)) (length pre) ≡ got r (length pre + length (record_bytes fs r))
unfolding record_at record_bytes
record_back fs r h pre post =
    ap (λ x. and_then x (λ k p. and_then (byte_at s p number) (λ b q. and_then (fields_at s q b (format_of fs k).fields) (λ vs e. got (record { kind = k; bits = b; fields = vs }) e))))
    (byte_back (record { low = 1; top = length fs }) r.kind h.kind pre (r.bits ∷ (tail ++ post)))
    ∙ ap (λ x. and_then x (λ b q. and_then (fields_at s q b (format_of fs r.kind).fields) (λ vs e. got (record { kind = r.kind; bits = b; fields = vs }) e))) second
    ∙ ap (λ x. and_then x (λ vs e. got (record { kind = r.kind; bits = r.bits; fields = vs }) e)) third
    ∙ ap (got r) (let x = length-append pre (r.kind ∷ []) in let y = length-append (pre ++ (r.kind ∷ [])) (r.bits ∷ []) in
    let u : length (r.kind ∷ []) ≡ 1 = refl in let v : length (r.bits ∷ []) ≡ 1 = refl in let w : length (r.kind ∷ r.bits ∷ tail) ≡ suc (suc (length tail)) = refl in omega arith)
  where
    tail : List ℕ
    tail = fields_bytes r.bits (format_of fs r.kind).fields r.fields

    s : List ℕ
    s = pre ++ (r.kind ∷ r.bits ∷ (tail ++ post))

    one : List ℕ
    one = pre ++ (r.kind ∷ [])

    two : List ℕ
    two = one ++ (r.bits ∷ [])

    second : byte_at s (length pre + 1) number ≡ got r.bits (length one + 1)
    second =
        ap₂ (λ (t : List ℕ) (k : ℕ). byte_at t k number) (move pre (r.kind ∷ []) (r.bits ∷ (tail ++ post))) (sym (length-append pre (r.kind ∷ [])))
        ∙ byte_back number r.bits (omega arith, h.bits) one (tail ++ post)

    third : fields_at s (length one + 1) r.bits (format_of fs r.kind).fields ≡ got r.fields (length two + length tail)
    third =
        ap₂ (λ (t : List ℕ) (k : ℕ). fields_at t k r.bits (format_of fs r.kind).fields) (move pre (r.kind ∷ []) (r.bits ∷ (tail ++ post)) ∙ move one (r.bits ∷ []) (tail ++ post))
        (sym (length-append one (r.bits ∷ [])))
        ∙ fields_back r.bits (format_of fs r.kind).fields r.fields h.fields two post
