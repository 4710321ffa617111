-- The first bytes of a file decide what is read of it: records without fault end early enough, and what lies behind the first faulty one is
-- not looked at.
use mathlib.Core.Path.{◌≡◌, refl, sym, ap, ◌∙◌, subst}
use mathlib.Core.Bool.{Bool, true, false, cond}
use mathlib.Core.List.{List}
use Prim.Native.Nat.{ℕ, zero, suc, ◌+◌, ◌-◌, ◌≤◌, ◌<◌}
use native.Mathlib.Omega.{arith}
use lib.ListN.{length, get_or, take}
use lib.Seq.{get_or-take, length-take-le, take_all}
use lib.Dec.{eqb, ltb, leb}
use borrow.Author.Tests.{lt-ltb, lt-leb, leb-true}
use Rattle.records.specs.paper.Fields.{Read, got, bad, Format, no_format, Raw, format_of, record_at, Verdict, fine, refused, read_from}
use Rattle.records.proofs.ReadLaws.{OnFine}
use Rattle.sets.proofs.SetLaws.{lt_or_le}
use mathlib.Core.Logic.{⊎_elim}
use Rattle.listing.specs.Rooms.{records_most, longest_record, room_for}
use Rattle.listing.proofs.Alike.{Ended, Alike, Begins, Reaches, record_alike, longest-some}
use Rattle.listing.proofs.Counted.{bump, used, Within, within-most, bump_length, bump_used, bump_within}

take_begins : (n : ℕ) (s : List ℕ) → n ≤ length s → Begins n s (take n s)
take_begins n s h = record {
  byte = λ i l. get_or-take n s i 0 l;
  there = λ i l. let e = length-take-le n s h in lt-ltb i (length (take n s)) (omega arith) ∙ sym (lt-ltb i (length s) (omega arith));
}

same-begins : (n : ℕ) (s : List ℕ) → Begins n s s
same-begins n s = record { byte = λ i l. refl; there = λ i l. refl }

-- `counts`: how many records of each kind were read; a record raises that of its kind, and a limit that is passed is judged
module _ {A : Type 0} (formats : List Format) (add : Raw → A → A) (judge : Raw → A → ℕ) (counts : A → List ℕ)
    (grows : (r : Raw) (a : A) → 1 ≤ r.kind → counts (add r a) ≡ bump (counts a) (r.kind - 1))
    (limits : (r : Raw) (a : A) → judge r a ≡ 0 → get_or (counts a) (r.kind - 1) 0 ≤ (format_of formats r.kind).limit) where
  -- what was read takes no more bytes than its records can
  pub record Sized (a : A) (at : ℕ) : Type 0 where
    pub long : length (counts a) ≡ length formats
    pub within : Within formats (counts a)
    pub used : at ≤ used formats (counts a)

  sized_most : (a : A) (at : ℕ) → Sized a at → at ≤ records_most formats
  sized_most a at h = let m = within-most formats (counts a) h.within in let u = h.used in omega arith

  sized_add : (r : Raw) (a : A) (at p : ℕ) → Sized a at → Reaches formats at r p → judge r (add r a) ≡ 0 → Sized (add r a) p
  sized_add r a at p h w e = record {
    long = ap length g ∙ bump_length (counts a) i ∙ h.long;
    within = subst (Within formats) (sym g) (bump_within formats (counts a) i h.within (subst (λ (cs : List ℕ). get_or cs i 0 ≤ (get_or formats i no_format).limit) g (limits r (add r a) e)));
    used =
        let more = bump_used formats (counts a) i (let l = w.0 in let m = w.1 in omega arith) h.long in
        let before = h.used in
        let reach = w.3 in
        subst (λ (cs : List ℕ). p ≤ used formats cs) (sym g) (omega arith);
  }
    where
      i : ℕ
      i = r.kind - 1

      g : counts (add r a) ≡ bump (counts a) i
      g = grows r a w.0

  abbrev read : ℕ → List ℕ → ℕ → ℕ → A → ℕ → Verdict A
  read = read_from formats add judge

  -- ---- with the first n bytes of a longer file
  module _ (s : List ℕ) (n : ℕ) (longer : n < length s) (room : room_for formats ≤ n) where
    prefix_from : (i j at kind : ℕ) (a : A) (k : ℕ) → Sized a at → length s < i + at → n < j + at → read j (take n s) at kind a k ≡ read i s at kind a k
    unfolding read_from
    prefix_from zero j at kind a k h l m = let most = sized_most a at h in absurd (omega arith)
    prefix_from (suc i) zero at kind a k h l m = let most = sized_most a at h in absurd (omega arith)
    prefix_from (suc i) (suc j) at kind a k h l m =
        ap (λ (b : Bool). cond b (cond (eqb k 0) (refused 3 0) (fine a)) (after j (take n s) (record_at formats (take n s) at))) (lt-leb (length (take n s)) at below)
        ∙ next (λ r p w e. prefix_from i j p r.kind (add r a) (k + 1) (sized_add r a at p h w e) (let b = w.2 in omega arith) (let b = w.2 in omega arith))
        (record_at formats s at) (record_at formats (take n s) at) found
        ∙ sym (ap (λ (b : Bool). cond b (cond (eqb k 0) (refused 3 0) (fine a)) (after i s (record_at formats s at))) (lt-leb (length s) at (omega (arith, most))))
      where
        most : at ≤ records_most formats
        most = sized_most a at h

        below : at < length (take n s)
        below = let e = length-take-le n s (omega arith) in let some = longest-some formats in omega (arith, most)

        found : Alike (Reaches formats at) (record_at formats s at) (record_at formats (take n s) at)
        found = record_alike n s (take n s) (take_begins n s (omega arith)) formats at (omega (arith, most))

        judged : ℕ → List ℕ → Raw → ℕ → ℕ → Verdict A
        judged f t r p z = elim z [ zero ↦ read f t p r.kind (add r a) (k + 1) | suc m ↦ refused (suc m) k ]

        after : ℕ → List ℕ → Read Raw → Verdict A
        after f t m = elim m [ bad ↦ refused 1 k | got r p ↦ elim (ltb r.kind kind) [ true ↦ refused 1 k | false ↦ judged f t r p (judge r (add r a)) ] ]

        Later : Type 0
        Later = (r : Raw) (p : ℕ) → Reaches formats at r p → judge r (add r a) ≡ 0 → read j (take n s) p r.kind (add r a) (k + 1) ≡ read i s p r.kind (add r a) (k + 1)

        joins : Later → (r : Raw) (p : ℕ) → Reaches formats at r p → (z : ℕ) → judge r (add r a) ≡ z → judged j (take n s) r p z ≡ judged i s r p z
        joins ih r p w zero e = ih r p w e
        joins ih r p w (suc m) e = refl

        rising : Later → (r : Raw) (p : ℕ) → Reaches formats at r p → (b : Bool)
            → ◌≡◌ {A = Verdict A} (elim b [ true ↦ refused 1 k | false ↦ judged j (take n s) r p (judge r (add r a)) ]) (elim b [ true ↦ refused 1 k | false ↦ judged i s r p (judge r (add r a)) ])
        rising ih r p w true = refl
        rising ih r p w false = joins ih r p w (judge r (add r a)) refl

        same : Later → (m : Read Raw) → Ended (Reaches formats at) m → after j (take n s) m ≡ after i s m
        same ih bad w = refl
        same ih (got r p) w = rising ih r p w (ltb r.kind kind)

        next : Later → (m m' : Read Raw) → Alike (Reaches formats at) m m' → after j (take n s) m' ≡ after i s m
        next ih m m' g = ap (after j (take n s)) g.same ∙ same ih m g.ended

  -- the first bytes, however long the file is
  pub prefix : (s : List ℕ) (n : ℕ) (a : A) → room_for formats ≤ n → Sized a 0 → read (length (take n s) + 1) (take n s) 0 0 a 0 ≡ read (length s + 1) s 0 0 a 0
  prefix s n a room h =
      ⊎_elim (λ l. let e = length-take-le n s (omega arith) in prefix_from s n l room (length s + 1) (length (take n s) + 1) 0 0 a 0 h (omega arith) (omega arith))
      (λ l. ap (λ (t : List ℕ). read (length t + 1) t 0 0 a 0) (take_all n s l)) (lt_or_le n (length s))

  -- what is read whole is no longer than records without fault can be
  pub short : (i : ℕ) (s : List ℕ) (at kind : ℕ) (a : A) (k : ℕ) → Sized a at → OnFine (λ _. length s ≤ records_most formats) (read i s at kind a k)
  unfolding read_from
  short zero s at kind a k h = tt
  short (suc i) s at kind a k h = whole (λ r p w e. short i s p r.kind (add r a) (k + 1) (sized_add r a at p h w e)) (leb (length s) at) refl
    where
      judged : Raw → ℕ → ℕ → Verdict A
      judged r p z = elim z [ zero ↦ read i s p r.kind (add r a) (k + 1) | suc m ↦ refused (suc m) k ]

      after : Read Raw → Verdict A
      after m = elim m [ bad ↦ refused 1 k | got r p ↦ elim (ltb r.kind kind) [ true ↦ refused 1 k | false ↦ judged r p (judge r (add r a)) ] ]

      Short : Verdict A → Type 0
      Short v = OnFine (λ _. length s ≤ records_most formats) v

      Later : Type 0
      Later = (r : Raw) (p : ℕ) → Reaches formats at r p → judge r (add r a) ≡ 0 → Short (read i s p r.kind (add r a) (k + 1))

      joins : Later → (r : Raw) (p : ℕ) → Reaches formats at r p → (z : ℕ) → judge r (add r a) ≡ z → Short (judged r p z)
      joins ih r p w zero e = ih r p w e
      joins ih r p w (suc m) e = tt

      rising : Later → (r : Raw) (p : ℕ) → Reaches formats at r p → (b : Bool) → Short (elim b [ true ↦ refused 1 k | false ↦ judged r p (judge r (add r a)) ])
      rising ih r p w true = tt
      rising ih r p w false = joins ih r p w (judge r (add r a)) refl

      next : Later → (m : Read Raw) → Ended (Reaches formats at) m → Short (after m)
      next ih bad w = tt
      next ih (got r p) w = rising ih r p w (ltb r.kind kind)

      ended : (b : Bool) → at ≤ records_most formats → length s ≤ at → Short (cond b (refused 3 0) (fine a))
      ended true l m = tt
      ended false l m = omega arith

      whole : Later → (b : Bool) → leb (length s) at ≡ b → Short (cond b (cond (eqb k 0) (refused 3 0) (fine a)) (after (record_at formats s at)))
      whole ih true e = ended (eqb k 0) (sized_most a at h) (leb-true _ _ e)
      whole ih false e = next ih (record_at formats s at) (record_alike (at + longest_record formats) s s (same-begins (at + longest_record formats) s) formats at (omega arith)).ended
