-- The place of an event among rising ones, as std's search finds it, and the buffer with one event more put there.
use mathlib.Core.Path.{◌≡◌, refl, sym, ap, ap₂, ◌∙◌}
use mathlib.Core.Bool.{true}
use mathlib.Core.List.{List, [], ◌∷◌, ◌++◌, append_assoc, flat_map}
use Prim.Native.Nat.{ℕ, zero, suc, ◌+◌, ◌-◌, ◌*◌, ◌≤◌, ◌<◌}
use native.Mathlib.Nat.{le_of_suc-le-suc, not-suc-le-zero}
use native.Mathlib.Numerals.{add-one}
use native.Mathlib.Omega.{arith}
use lib.ListN.{length, get_or, take, drop, length-append, length-take, length-drop, take-append-drop}
use lib.Seq.{take_at, drop_at, length-take-le, drop-drop, take-take}
use borrow.Rule.Slice.PartMut.{put_mid}
use Rattle.std.proofs.Common.{Result, Ok, Err, Less, Equal, Greater}
use Rattle.std.proofs.lemmas.Bool.Decides.{nat_tests}
use Rattle.std.proofs.lemmas.Cmp.{same_from_slice_cmp}
use Rattle.std.proofs.lemmas.List.{take-append-le}
use Rattle.std.proofs.lemmas.List.Sorted.{searchable_from_sorted}
use Rattle.std.specs.Cmp.Lexicographic.{slice_cmp, nat_list_cmp_total}
use Rattle.std.specs.List.{copy_within}
use Rattle.std.specs.List.Sorted.{IsBinarySearchResult, IsSearchInRange, IsSortedBy}
use Rattle.std.specs.Ordering.{nat_cmp, is_lt, ordering_reverse}
use Rattle.std.specs.Simd.{first_chunks}
use Rattle.sets.specs.paper.Sets.{lex_less}
use Rattle.sets.proofs.Every.{all_parts}
use Rattle.sets.proofs.LoopLaws.{all_at, all_append}
use Rattle.records.proofs.UsedLaws.{flat_append}
use Rattle.report.specs.paper.EventList.{event_length, insert}
use Rattle.report.specs.code.Happened.{Rises}
use Rattle.report.specs.code.EventBytes.{chunks}
use Rattle.report.specs.code.Nine.{PlaceOf, Inserted}
use Rattle.report.proofs.RisingSet.{Order, less, same, more, order}
use Rattle.report.proofs.NineLaws.{not-both, insert_front, insert-on, insert-same, Sized, flat, flat_length, flat_chunks, chunks_flat, chunks-length}

-- ---- std's order of lists is the byte order

less_cmp : (f e : List ℕ) → is_lt (slice_cmp nat_cmp f e) ≡ lex_less f e
unfolding lex_less
less_cmp f e = same_from_slice_cmp nat_cmp is_lt lex_less refl (λ _ _. refl) (λ _ _. refl) (λ x y xs ys o h. grind (arith, nat_tests)) f e _ refl

flipped : (f e : List ℕ) → slice_cmp nat_cmp f e ≡ ordering_reverse (slice_cmp nat_cmp e f)
flipped = nat_list_cmp_total.antisymm

less_of : (f e : List ℕ) → slice_cmp nat_cmp f e ≡ Less → lex_less f e ≡ true
less_of f e h = sym (less_cmp f e) ∙ ap is_lt h

more_of : (f e : List ℕ) → slice_cmp nat_cmp f e ≡ Greater → lex_less e f ≡ true
more_of f e h = less_of e f (flipped e f ∙ ap ordering_reverse h)

same_of : (f e : List ℕ) → slice_cmp nat_cmp f e ≡ Equal → f ≡ e
same_of f e h = go (order f e)
  where
    go : Order f e → f ≡ e
    go (less l) = absurd (cc (sym (less_cmp f e) ∙ ap is_lt h, l))
    go (same q) = q
    go (more l) = absurd (cc (sym (less_cmp e f) ∙ ap is_lt (flipped e f ∙ ap ordering_reverse h), l))

-- ---- a place among rising ones

-- the back of rising ones rises
rises-behind : (xs ys : List (List ℕ)) → Rises (xs ++ ys) → Rises ys
rises-behind [] ys r = r
rises-behind (x ∷ xs) ys r = rises-behind xs ys r.1

rises-next : (xs : List (List ℕ)) → Rises xs → (k : ℕ) (d : List ℕ) → suc k < length xs → lex_less (get_or xs k d) (get_or xs (suc k) d) ≡ true
rises-next [] r k d l = absurd (omega arith)
rises-next (x ∷ xs) r zero d l = all_at (λ f. lex_less x f ≡ true) xs d 0 r.0 (omega arith)
rises-next (x ∷ xs) r (suc k) d l = rises-next xs r.1 k d (omega arith)

sorted : (xs : List (List ℕ)) → Rises xs → IsSortedBy (λ a b. is_lt (slice_cmp nat_cmp a b)) xs
sorted xs r k d z l = less_cmp (get_or xs (k + 1) d) (get_or xs k d) ∙ not-both (get_or xs k d) (get_or xs (k + 1) d) (rw add-one (rises-next xs r k d (omega arith)))

-- one that stands in the list changes nothing
insert-known : (e : List ℕ) (xs : List (List ℕ)) (i : ℕ) → Rises xs → i < length xs → get_or xs i [] ≡ e → insert e xs ≡ xs
insert-known e [] i r l q = absurd (omega arith)
insert-known e (x ∷ xs) zero r l q = insert-same e x xs q
insert-known e (x ∷ xs) (suc i) r l q =
    insert-on e x xs (ap (lex_less x) (sym q) ∙ all_at (λ f. lex_less x f ≡ true) xs [] i r.0 (omega arith))
    ∙ ap (λ (l : List (List ℕ)). x ∷ l) (insert-known e xs i r.1 (omega arith) q)

-- another comes between the lesser ones and the greater ones
insert-between : (e : List ℕ) (xs : List (List ℕ)) (i : ℕ) → i ≤ length xs → ((k : ℕ) → k < i → lex_less (get_or xs k []) e ≡ true)
    → ((k : ℕ) → i ≤ k → k < length xs → lex_less e (get_or xs k []) ≡ true) → insert e xs ≡ take i xs ++ (e ∷ drop i xs)
insert-between e [] zero h below above = (unfold insert in refl)
insert-between e [] (suc i) h below above = absurd (omega arith)
insert-between e (x ∷ xs) zero h below above = insert_front e x xs (above 0 (omega arith) (omega arith))
insert-between e (x ∷ xs) (suc i) h below above =
    insert-on e x xs (below 0 (omega arith))
    ∙ ap (λ (l : List (List ℕ)). x ∷ l) (insert-between e xs i (omega arith) (λ k l. below (suc k) (omega arith)) (λ k l m. above (suc k) (omega arith) (omega arith)))

-- WHAT THE SEARCH FINDS
pub placed : (n : ℕ) (e s : List ℕ) (r : Result ℕ ℕ) → IsSearchInRange r (length (chunks n s)) → IsBinarySearchResult (λ f. slice_cmp nat_cmp f e) (chunks n s) r → PlaceOf n e s r
placed n e s (Ok i) l q = record {
  within = let c = chunks-length n s in omega arith;
  at = λ rise. insert-known e (chunks n s) i rise l (same_of _ _ (q []));
}
placed n e s (Err i) l q = record {
  within = let c = chunks-length n s in omega arith;
  at = λ rise.
      let p = q (searchable_from_sorted nat_list_cmp_total (λ f. f) (chunks n s) e (sorted (chunks n s) rise)) in
      insert-between e (chunks n s) i l (λ k m. less_of _ _ (p.0 k [] (omega arith) m)) (λ k m o. more_of _ _ (p.1 k [] m o));
}

-- the first of more chunks
pub chunks_front : (n m : ℕ) (s : List ℕ) → n ≤ m → take n (first_chunks event_length m s) ≡ chunks n s
unfolding chunks
chunks_front zero m s h = refl
chunks_front (suc n) zero s h = absurd (omega arith)
chunks_front (suc n) (suc m) s h = ap (λ (l : List (List ℕ)). take event_length s ∷ l) (chunks_front n m (drop event_length s) (omega arith))

-- ---- events by their places

-- the event at a place, places counted from 0
abbrev pub chunk : ℕ → List ℕ → List ℕ
chunk i s = take event_length (drop (i * event_length) s)

chunk_next : (i : ℕ) (s : List ℕ) → chunk i (drop event_length s) ≡ chunk (suc i) s
chunk_next i s =
    let k : event_length + i * event_length ≡ suc i * event_length = omega arith in
    ap (take event_length) (drop-drop (i * event_length) event_length s ∙ ap (λ (m : ℕ). drop m s) k)

chunk_at : (n : ℕ) (s : List ℕ) (i : ℕ) → i < n → get_or (chunks n s) i [] ≡ chunk i s
unfolding chunks
chunk_at zero s i h = absurd (not-suc-le-zero h)
chunk_at (suc n) s zero h = refl
chunk_at (suc n) s (suc i) h = chunk_at n (drop event_length s) i (le_of_suc-le-suc h) ∙ chunk_next i s

-- ---- the buffer

-- the first k + m events are the first k and the m behind them
chunks-add : (k m : ℕ) (s : List ℕ) → chunks (k + m) s ≡ chunks k s ++ chunks m (drop (k * event_length) s)
unfolding chunks
chunks-add zero m s = let z : 0 + m ≡ m = omega arith in ap (λ (i : ℕ). chunks i s) z
chunks-add (suc k) m s =
    let z : suc k + m ≡ suc (k + m) = omega arith in
    let j : event_length + k * event_length ≡ suc k * event_length = omega arith in
    let rest = drop event_length s in
    ap (λ (i : ℕ). chunks i s) z
    ∙ ap (λ (l : List (List ℕ)). take event_length s ∷ l)
    (chunks-add k m rest ∙ ap (λ (t : List ℕ). chunks k rest ++ chunks m t) (drop-drop (k * event_length) event_length s ∙ ap (λ (i : ℕ). drop i s) j))

chunks_sized : (n : ℕ) (s : List ℕ) → n * event_length ≤ length s → Sized (chunks n s)
unfolding chunks
chunks_sized zero s h = tt
chunks_sized (suc n) s h = (length-take-le event_length s (omega arith), chunks_sized n (drop event_length s) (simp length-drop (omega arith)))

-- bytes move up by an event's length, and e is put in front of them
moved : (a b r e : List ℕ) (i n : ℕ) → length a ≡ i → i + length b ≡ n → event_length ≤ length r
    → put_mid i event_length (copy_within (a ++ (b ++ r)) i n (i + event_length)) e ≡ a ++ (e ++ (b ++ drop event_length r))
moved a b r e i n p q h =
    let s = a ++ (b ++ r) in
    let u = take (i + event_length) s in
    let v = take (n - i) (drop i s) in
    let w = drop (i + event_length + (n - i)) s in
    let long : length u ≡ i + event_length = simp (length-take, length-append) (omega arith) in
    let front : take i ((u ++ v) ++ w) ≡ a =
    rw append_assoc (take-append-le i u (v ++ w) (omega arith) ∙ take-take i (i + event_length) s (omega arith) ∙ take_at a (b ++ r) i p) in
    let back : drop event_length (drop i ((u ++ v) ++ w)) ≡ v ++ w =
    drop-drop event_length i ((u ++ v) ++ w) ∙ ap (drop (i + event_length)) (append_assoc u v w) ∙ drop_at u (v ++ w) (i + event_length) long in
    let middle : v ≡ b = ap (take (n - i)) (drop_at a (b ++ r) i p) ∙ take_at b r (n - i) (omega arith) in
    let last : w ≡ drop event_length r =
    ap (λ (k : ℕ). drop k s) (let z : i + event_length + (n - i) ≡ n + event_length = omega arith in z) ∙ sym (drop-drop event_length n s)
    ∙ ap (drop event_length) (ap (drop n) (sym (append_assoc a b r)) ∙ drop_at (a ++ b) r n (rw length-append (omega arith))) in
    ap₂ (λ (x y : List ℕ). x ++ (e ++ y)) front (back ∙ ap₂ (λ (x y : List ℕ). x ++ y) middle last)

-- ONE EVENT MORE
module _ (n : ℕ) (e s : List ℕ) (k : ℕ) (h : length e ≡ event_length) (room : n * event_length + event_length ≤ length s) (p : PlaceOf n e s (Err k)) where
  abbrev those : List (List ℕ)
  those = chunks n s

  abbrev all : List (List ℕ)
  all = take k those ++ (e ∷ drop k those)

  abbrev rest : List ℕ
  rest = drop event_length (drop (n * event_length) s)

  parts : Sized (take k those) × Sized (drop k those)
  parts = all_parts (λ f. length f ≡ event_length) (take k those) (drop k those) (rw take-append-drop (chunks_sized n s (omega arith)))

  sized : Sized all
  sized = all_append (λ f. length f ≡ event_length) (take k those) (e ∷ drop k those) parts.0 (h, parts.1)

  count : length all ≡ n + 1
  count = let few = p.within in let c = chunks-length n s in simp (length-append, length-take, length-drop) (omega arith)

  bytes : put_mid (k * event_length) event_length (copy_within s (k * event_length) (n * event_length) (k * event_length + event_length)) e ≡ flat all ++ rest
  unfolding flat_map
  bytes =
      let few = p.within in
      let c = chunks-length n s in
      let a = flat (take k those) in
      let b = flat (drop k those) in
      let r = drop (n * event_length) s in
      let split : s ≡ a ++ (b ++ r) =
      sym (chunks_flat n s) ∙ ap (λ (fs : List (List ℕ)). flat fs ++ r) (sym (take-append-drop k those))
      ∙ ap (λ (l : List ℕ). l ++ r) (flat_append (λ f. f) (take k those) (drop k those)) ∙ append_assoc a b r in
      let la : length a ≡ k * event_length = flat_length (take k those) parts.0 ∙ simp length-take (omega arith) in
      let lb : k * event_length + length b ≡ n * event_length = let z = flat_length (drop k those) parts.1 in omega (arith, simp length-drop at z) in
      ap (λ (t : List ℕ). put_mid (k * event_length) event_length (copy_within t (k * event_length) (n * event_length) (k * event_length + event_length)) e) split
      ∙ moved a b r e (k * event_length) (n * event_length) la lb (simp length-drop (omega arith))
      ∙ sym (ap (λ (l : List ℕ). l ++ drop event_length r) (flat_append (λ f. f) (take k those) (e ∷ drop k those)) ∙ append_assoc a (e ++ b) (drop event_length r)
      ∙ ap (λ (l : List ℕ). a ++ l) (append_assoc e b (drop event_length r)))

  pub inserted_new : (after : List ℕ) → after ≡ put_mid (k * event_length) event_length (copy_within s (k * event_length) (n * event_length) (k * event_length + event_length)) e
      → Inserted n e s after (n + 1)
  inserted_new after q =
      let now : after ≡ flat all ++ rest = q ∙ bytes in
      let fl : length (flat all) ≡ (n + 1) * event_length = let z = flat_length all sized in let c = count in omega arith in record {
        events = λ rise. ap (chunks (n + 1)) now ∙ ap (λ (m : ℕ). chunks m (flat all ++ rest)) (sym count) ∙ flat_chunks all rest sized ∙ sym (p.at rise);
        behind = ap (drop ((n + 1) * event_length)) now ∙ drop_at (flat all) rest ((n + 1) * event_length) fl
            ∙ drop-drop event_length (n * event_length) s ∙ ap (λ (m : ℕ). drop m s) (let z : n * event_length + event_length ≡ (n + 1) * event_length = omega arith in z);
        few = omega arith;
        long = ap length now ∙ simp (length-append, length-drop) (omega arith);
      }

-- one that stands stays alone
pub inserted_known : (n : ℕ) (e s : List ℕ) (i : ℕ) → PlaceOf n e s (Ok i) → Inserted n e s s n
inserted_known n e s i p = record { events = λ rise. sym (p.at rise); behind = refl; few = omega arith; long = refl }
