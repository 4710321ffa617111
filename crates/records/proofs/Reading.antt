-- What reading fields by place gives: the bytes of a span, the place after them, and the values that the answers stand for.
use mathlib.Core.Path.{◌≡◌, refl, sym, ap, ap₂, ◌∙◌}
use mathlib.Core.Bool.{Bool, true, false, ◌&&◌, cond, true≢false, false≢true}
use mathlib.Core.List.{List, [], ◌∷◌, ◌++◌}
use Prim.Native.Nat.{ℕ, zero, suc, ◌+◌, ◌-◌, ◌*◌, ◌≤◌, ◌<◌}
use native.Mathlib.Omega.{arith}
use lib.ListN.{length, get_or}
use lib.Dec.{ltb, leb}
use borrow.Author.Tests.{ltb-true, leb-true, lt-ltb, le-leb}
use Rattle.records.specs.paper.Fields.{Range, bytes, list, Read, got, bad, and_then, byte_at, bytes_at, field_at, repeat, little, mask}
use Rattle.records.specs.code.Readers.{map_read, is_got, first, bytes_from}

-- ---- answers by what they are made from

pub record Found {A B : Type 0} (f : A → B) (x : Read A) (v : B) (n : ℕ) : Type 0 where
  pub bytes : A
  pub is : x ≡ got bytes n
  pub means : f bytes ≡ v

pub got_inj : {A : Type 0} {a b : A} {m n : ℕ} → got a m ≡ got b n → (a ≡ b) × (m ≡ n)
got_inj e = (cc, cc)

pub bad-got : {A B : Type 0} {a : A} {n : ℕ} → ◌≡◌ {A = Read A} bad (got a n) → B
bad-got e = let z : ◌≡◌ {A = ℕ} 0 1 = cc in absurd (omega arith)

pub found : {A B : Type 0} (f : A → B) (x : Read A) {v : B} {n : ℕ} → map_read f x ≡ got v n → Found f x v n
found f (got a m) e = record { bytes = a; is = ap (got a) (got_inj e).1; means = (got_inj e).0 }
found f bad e = bad-got e

pub none : {A B : Type 0} (f : A → B) (x : Read A) → map_read f x ≡ bad → x ≡ bad
none f (got a m) e = bad-got (sym e)
none f bad e = refl

-- what a reader's contract says of its answer, once that is known
pub seen : {A B : Type 0} (f : A → B) {x y : A} {z : B} → f x ≡ z → x ≡ y → z ≡ f y
seen f e g = sym e ∙ ap f g

-- ---- one byte

pub one_field : (s : List ℕ) (at : ℕ) (r : Range) → map_read first (field_at s at (bytes (r ∷ []))) ≡ byte_at s at r
unfolding field_at bytes_at
one_field s at r = pick (byte_at s at r)
  where
    pick : (x : Read ℕ) → map_read first (and_then x (λ b p. and_then (bytes_at s p []) (λ bs q. got (b ∷ bs) q))) ≡ x
    pick (got b p) = refl
    pick bad = refl

pub byte_next : (s : List ℕ) (at : ℕ) (r : Range) {v n : ℕ} → byte_at s at r ≡ got v n → (v ≡ get_or s at 0) × (n ≡ at + 1) × (at < length s) × (v ≤ r.top) × (r.low ≤ v)
unfolding byte_at
byte_next s at r {v = v} {n = n} = pick (ltb at (length s)) refl (leb r.low (get_or s at 0)) refl (leb (get_or s at 0) r.top) refl
  where
    pick : (a : Bool) → ltb at (length s) ≡ a → (b : Bool) → leb r.low (get_or s at 0) ≡ b → (d : Bool) → leb (get_or s at 0) r.top ≡ d
        → cond a (cond (b && d) (got (get_or s at 0) (at + 1)) bad) bad ≡ got v n → (v ≡ get_or s at 0) × (n ≡ at + 1) × (at < length s) × (v ≤ r.top) × (r.low ≤ v)
    pick true h true k true l e =
        let q = (got_inj e).0 in
        (sym q, sym (got_inj e).1, ltb-true at (length s) h, omega (arith, q, leb-true (get_or s at 0) r.top l), omega (arith, q, leb-true r.low (get_or s at 0) k))
    pick true h true k false l e = bad-got e
    pick true h false k d l e = bad-got e
    pick false h b k d l e = bad-got e

-- a byte of any value
pub byte_free : (s : List ℕ) (at : ℕ) → at < length s → get_or s at 0 < 256 → byte_at s at (record { low = 0; top = 255 }) ≡ got (get_or s at 0) (at + 1)
unfolding byte_at
byte_free s at h l = rw (lt-ltb at (length s) h, le-leb 0 (get_or s at 0) (omega arith), le-leb (get_or s at 0) 255 (omega arith))

-- ---- several bytes

record Cons (x : Read ℕ) (k : ℕ → Read (List ℕ)) (vs : List ℕ) (n : ℕ) : Type 0 where
  pub byte : ℕ
  pub place : ℕ
  pub rest : List ℕ
  pub head : x ≡ got byte place
  pub tail : k place ≡ got rest n
  pub whole : vs ≡ byte ∷ rest

cons_of : (x : Read ℕ) (k : ℕ → Read (List ℕ)) {vs : List ℕ} {n : ℕ} → and_then x (λ b p. and_then (k p) (λ bs q. got (b ∷ bs) q)) ≡ got vs n → Cons x k vs n
cons_of (got b p) k {vs = vs} {n = n} = pick (k p) refl
  where
    pick : (y : Read (List ℕ)) → k p ≡ y → and_then y (λ bs q. got (b ∷ bs) q) ≡ got vs n → Cons (got b p) k vs n
    pick (got bs q) h e = record { byte = b; place = p; rest = bs; head = refl; tail = h ∙ ap (got bs) (got_inj e).1; whole = sym (got_inj e).0 }
    pick bad h e = bad-got e
cons_of bad k = λ e. bad-got e

pub bytes_cons : (s : List ℕ) (at : ℕ) (r : Range) (rs : List Range) {b p q : ℕ} {bs : List ℕ} → byte_at s at r ≡ got b p → bytes_at s p rs ≡ got bs q → bytes_at s at (r ∷ rs) ≡ got (b ∷ bs) q
unfolding bytes_at
bytes_cons s at r rs e f = rw (e, f)

-- what was read is a span, and ends within the bytes
pub bytes-got : (s : List ℕ) (at : ℕ) (rs : List Range) {bs : List ℕ} {n : ℕ} → bytes_at s at rs ≡ got bs n → (bs ≡ bytes_from s at (length rs)) × (n ≡ at + length rs) × (at ≤ length s → n ≤ length s)
unfolding bytes_at bytes_from
bytes-got s at [] e = (sym (got_inj e).0, (let h = (got_inj e).1 in omega (arith, h)), (λ l. let h = (got_inj e).1 in omega (arith, h)))
bytes-got s at (r ∷ rs) e =
    let c = cons_of (byte_at s at r) (λ p. bytes_at s p rs) e in
    let h = byte_next s at r c.head in
    let t : bytes_at s (at + 1) rs ≡ got c.rest _ = ap (λ (p : ℕ). bytes_at s p rs) (sym h.1) ∙ c.tail in
    let i = bytes-got s (at + 1) rs t in
    (c.whole ∙ ap₂ ◌∷◌ h.0 i.0, omega (arith, i.1), (λ l. i.2 (omega (arith, h.2))))

-- no room
pub bytes-short : (s : List ℕ) (at : ℕ) (r : Range) (rs : List Range) → length s < at + suc (length rs) → bytes_at s at (r ∷ rs) ≡ bad
unfolding bytes_at
bytes-short s at r rs l = pick (bytes_at s at (r ∷ rs)) refl
  where
    pick : (x : Read (List ℕ)) → bytes_at s at (r ∷ rs) ≡ x → bytes_at s at (r ∷ rs) ≡ bad
    pick (got bs n) e =
        let h = bytes-got s at (r ∷ rs) e in
        let b = byte_next s at r (cons_of (byte_at s at r) (λ p. bytes_at s p rs) e).head in
        let z = h.2 (omega (arith, b.2)) in
        absurd (omega (arith, z, h.1))
    pick bad e = e

pub bytes_append : (s : List ℕ) (at : ℕ) (rs qs : List Range) {bs cs : List ℕ} {p q : ℕ} → bytes_at s at rs ≡ got bs p → bytes_at s p qs ≡ got cs q → bytes_at s at (rs ++ qs) ≡ got (bs ++ cs) q
unfolding bytes_at
bytes_append s at [] qs {bs = bs} {cs = cs} e f = rw (← (got_inj e).0) (ap (λ (x : ℕ). bytes_at s x qs) (got_inj e).1 ∙ f)
bytes_append s at (r ∷ rs) qs {cs = cs} {q = q} e f =
    let c = cons_of (byte_at s at r) (λ p. bytes_at s p rs) e in
    bytes_cons s at r (rs ++ qs) c.head (bytes_append s c.place rs qs c.tail f) ∙ ap (λ (xs : List ℕ). got (xs ++ cs) q) (sym c.whole)

-- an answer that stands, and one that does not
pub stands : {A : Type 0} (x : Read A) → is_got x ≡ true → (a : A) × (n : ℕ) × (x ≡ got a n)
stands (got a n) e = (a, n, refl)
stands bad e = absurd (false≢true e)

pub stands-not : {A : Type 0} (x : Read A) → is_got x ≡ false → x ≡ bad
stands-not (got a n) e = absurd (true≢false e)
stands-not bad e = refl

-- two bytes as a number
pub word_is : {a b x y : ℕ} → x ≡ a → y ≡ b → x + y * 256 ≡ little (a ∷ b ∷ [])
unfolding little
word_is e f = omega (arith, e, f)

-- four bytes of any value
module _ (s : List ℕ) (at : ℕ) where
  ahead : (k m : ℕ) → k ≡ m → get_or s k 0 ≡ get_or s m 0
  ahead k m e = ap (λ (x : ℕ). get_or s x 0) e

  pub four_is : {a b c d : ℕ} → a ≡ get_or s at 0 → b ≡ get_or s (at + 1) 0 → c ≡ get_or s (at + 2) 0 → d ≡ get_or s (at + 3) 0
      → a + b * 256 + c * 65536 + d * 16777216 ≡ little (bytes_from s at 4)
  unfolding little bytes_from
  four_is e f g h = omega (arith, e, f, g ∙ ahead (at + 2) (at + 1 + 1) (omega arith), h ∙ ahead (at + 3) (at + 1 + 1 + 1) (omega arith))

  pub four_free : at + 4 ≤ length s → get_or s at 0 < 256 → get_or s (at + 1) 0 < 256 → get_or s (at + 2) 0 < 256 → get_or s (at + 3) 0 < 256
      → bytes_at s at (repeat 4 (record { low = 0; top = 255 } ∷ [])) ≡ got (bytes_from s at 4) (at + 4)
  unfolding bytes_from repeat bytes_at
  four_free l a b c d =
      let g = ahead (at + 2) (at + 1 + 1) (omega arith) in
      let h = ahead (at + 3) (at + 1 + 1 + 1) (omega arith) in
      let e : at + 1 + 1 + 1 + 1 ≡ at + 4 = omega arith in
      rw (byte_free s at (omega arith) a, byte_free s (at + 1) (omega arith) b, byte_free s (at + 1 + 1) (omega arith) (omega (arith, g)), byte_free s (at + 1 + 1 + 1) (omega arith) (omega (arith, h)))
      (ap (got (bytes_from s at 4)) e)

  little_eight : {x y : ℕ} → x ≡ little (bytes_from s at 4) → y ≡ little (bytes_from s (at + 4) 4) → x + y * 4294967296 ≡ little (bytes_from s at 4 ++ bytes_from s (at + 4) 4)
  unfolding little bytes_from
  little_eight g h = omega (arith, g, h)

  -- and eight
  pub eight_free : {x y : ℕ} → bytes_at s at (repeat 4 (record { low = 0; top = 255 } ∷ [])) ≡ got (bytes_from s at 4) (at + 4)
      → bytes_at s (at + 4) (repeat 4 (record { low = 0; top = 255 } ∷ [])) ≡ got (bytes_from s (at + 4) 4) (at + 4 + 4)
      → x ≡ little (bytes_from s at 4) → y ≡ little (bytes_from s (at + 4) 4)
      → got (x + y * 4294967296) (at + 8) ≡ map_read little (field_at s at mask)
  unfolding field_at repeat
  eight_free {x = x} {y = y} e f g h =
      let z : bytes_at s at (repeat 4 (record { low = 0; top = 255 } ∷ []) ++ repeat 4 (record { low = 0; top = 255 } ∷ [])) ≡ got (bytes_from s at 4 ++ bytes_from s (at + 4) 4) (at + 4 + 4) =
      bytes_append s at (repeat 4 (record { low = 0; top = 255 } ∷ [])) (repeat 4 (record { low = 0; top = 255 } ∷ [])) e f in
      let w : x + y * 4294967296 ≡ little (bytes_from s at 4 ++ bytes_from s (at + 4) 4) = little_eight g h in
      ap₂ (λ (a b : ℕ). got a b) w (omega arith) ∙ sym (ap (map_read little) z)

-- ---- the entries of a list: of one byte, of two; what is left of n after i

left_one : (n i : ℕ) → i < n → n - i ≡ suc (n - (i + 1))
left_one n i h = omega arith

left-none : (n i : ℕ) → n ≤ i → n - i ≡ 0
left-none n i h = omega arith

got-more : {A B : Type 0} (x : Read A) (f : A → B) → is_got (and_then x (λ bs q. got (f bs) q)) ≡ is_got x
got-more (got a n) f = refl
got-more bad f = refl

pub entries_none : (s : List ℕ) (p n i : ℕ) (rs : List Range) → n ≤ i → true ≡ is_got (bytes_at s p (repeat (n - i) rs))
unfolding bytes_at repeat
entries_none s p n i rs h = rw (left-none n i h)

module _ (s : List ℕ) (p n i : ℕ) (h : i < n) (r : Range) where
  pub entry-bad : (rs : List Range) → byte_at s p r ≡ bad → false ≡ is_got (bytes_at s p (repeat (n - i) (r ∷ rs)))
  unfolding bytes_at repeat
  entry-bad rs e = rw (left_one n i h, e)

  pub entry_more : {b q : ℕ} → byte_at s p r ≡ got b q → is_got (bytes_at s q (repeat (n - (i + 1)) (r ∷ []))) ≡ is_got (bytes_at s p (repeat (n - i) (r ∷ [])))
  unfolding bytes_at repeat
  entry_more {b = b} {q = q} e = rw (left_one n i h, e) (sym (got-more (bytes_at s q (repeat (n - (i + 1)) (r ∷ []))) (◌∷◌ b)))

  pub pair-bad : (r' : Range) {b q : ℕ} → byte_at s p r ≡ got b q → byte_at s q r' ≡ bad → false ≡ is_got (bytes_at s p (repeat (n - i) (r ∷ r' ∷ [])))
  unfolding bytes_at repeat
  pair-bad r' e f = rw (left_one n i h, e, f)

  pub pair-more : (r' : Range) {b q b' q' : ℕ} → byte_at s p r ≡ got b q → byte_at s q r' ≡ got b' q'
      → is_got (bytes_at s q' (repeat (n - (i + 1)) (r ∷ r' ∷ []))) ≡ is_got (bytes_at s p (repeat (n - i) (r ∷ r' ∷ [])))
  unfolding bytes_at repeat
  pair-more r' {b = b} {b' = b'} {q' = q'} e f =
      let x = bytes_at s q' (repeat (n - (i + 1)) (r ∷ r' ∷ [])) in
      rw (left_one n i h, e, f) (sym (got-more (and_then x (λ bs z. got (b' ∷ bs) z)) (◌∷◌ b) ∙ got-more x (◌∷◌ b')))

length-repeat : {A : Type 0} (n : ℕ) (xs : List A) → length (repeat n xs) ≡ n * length xs
unfolding repeat
length-repeat zero xs = sym (native.Mathlib.Nat.zero-mul (length xs))
length-repeat (suc n) xs = let h = length-repeat n xs in lib.ListN.length-append xs (repeat n xs) ∙ omega (arith, h, native.Mathlib.Nat.suc-mul n (length xs))

-- a counted list: its entries are a span, within the bytes
module _ (s : List ℕ) (at limit : ℕ) (rs : List Range) where
  pub list-bad : byte_at s at (record { low = 0; top = limit }) ≡ bad → bad ≡ field_at s at (list limit rs)
  unfolding field_at
  list-bad e = rw e

  pub list-stands-not : {k p : ℕ} → byte_at s at (record { low = 0; top = limit }) ≡ got k p → false ≡ is_got (bytes_at s p (repeat k rs)) → bad ≡ field_at s at (list limit rs)
  unfolding field_at
  list-stands-not {k = k} {p = p} e f = rw e (sym (stands-not (bytes_at s p (repeat k rs)) (sym f)))

  pub list-stands : {k p : ℕ} → byte_at s at (record { low = 0; top = limit }) ≡ got k p → true ≡ is_got (bytes_at s p (repeat k rs))
      → (got (bytes_from s p (k * length rs)) (p + k * length rs) ≡ field_at s at (list limit rs)) × (k ≤ limit) × (p + k * length rs ≤ length s)
  unfolding field_at
  list-stands {k = k} {p = p} e f =
      let w = stands (bytes_at s p (repeat k rs)) (sym f) in
      let g = bytes-got s p (repeat k rs) w.2 in
      let b = byte_next s at (record { low = 0; top = limit }) e in
      let n = length-repeat k rs in
      let z = g.2 (omega (arith, b.1, b.2)) in
      (rw e (ap₂ (λ (x : List ℕ) (y : ℕ). got x y) (ap (bytes_from s p) (sym n) ∙ sym g.0) (omega (arith, n, g.1)) ∙ sym w.2), b.3, omega (arith, z, n, g.1))

-- a byte in its range
pub byte_in : (s : List ℕ) (at low top : ℕ) {v : ℕ} → at < length s → get_or s at 0 ≡ v → low ≤ v → v ≤ top → byte_at s at (record { low = low; top = top }) ≡ got v (at + 1)
unfolding byte_at
byte_in s at low top {v = v} h e l u = rw (lt-ltb at (length s) h, e, le-leb low v l, le-leb v top u)
