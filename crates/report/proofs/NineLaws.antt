-- Events of kind 9 in a buffer: bytes compared one by one, events as bytes, and one event more in the list that is kept.
use mathlib.Core.Path.{◌≡◌, refl, sym, ap, ap₂, ◌∙◌, subst}
use mathlib.Core.Bool.{Bool, true, false, cond}
use mathlib.Core.List.{List, [], ◌∷◌, ◌++◌, append_assoc, flat_map, map}
use Prim.Native.Nat.{ℕ, zero, suc, ◌+◌, ◌-◌, ◌*◌, ◌≤◌, ◌<◌}
use native.Mathlib.Omega.{arith}
use lib.ListN.{length, take, drop, replicate, length-append, length-take, length-drop, take-append-drop}
use lib.Seq.{take_at, drop_at, take_all, drop-drop, drop-append-add}
use Rattle.std.proofs.Common.{Result, Ok, Err, is_err}
use Rattle.sets.specs.paper.Sets.{lex_less, members, All}
use Rattle.sets.proofs.Local.{clash}
use Rattle.worlds.specs.paper.Events.{event}
use Rattle.worlds.specs.code.Over.{entry}
use Rattle.report.specs.paper.EventList.{event_length, insert, rising}
use Rattle.report.specs.code.Happened.{Rises}
use Rattle.report.specs.code.EventBytes.{chunks}
use Rattle.report.specs.code.Nine.{PlaceOf, Inserted, Nines, prepended, PartListed, PartsListed}
use Rattle.report.specs.declared.nine.Listing.{Listing}
use Rattle.report.proofs.EventLaws.{event-length}
use Rattle.report.proofs.AmongLaws.{all_each, each_all}
use Rattle.report.proofs.RisingSet.{less-self, less_thru, rising-rises, of_rising}

-- ---- inserting, by the first of the list

pub insert_front : (e x : List ℕ) (xs : List (List ℕ)) → lex_less e x ≡ true → insert e (x ∷ xs) ≡ e ∷ x ∷ xs
unfolding insert
insert_front e x xs h = rw h

pub not-both : (x e : List ℕ) → lex_less x e ≡ true → lex_less e x ≡ false
not-both x e h = go (lex_less e x) refl
  where
    go : (b : Bool) → lex_less e x ≡ b → lex_less e x ≡ false
    go true z = clash (less_thru x e x h z) (less-self x)
    go false z = z

pub insert-on : (e x : List ℕ) (xs : List (List ℕ)) → lex_less x e ≡ true → insert e (x ∷ xs) ≡ x ∷ insert e xs
unfolding insert
insert-on e x xs h = rw (not-both x e h, h)

pub insert-same : (e x : List ℕ) (xs : List (List ℕ)) → x ≡ e → insert e (x ∷ xs) ≡ x ∷ xs
unfolding insert
insert-same e x xs h = rw (h, less-self e)

-- those that are less stay in front
pub insert-past : (e : List ℕ) (xs ys : List (List ℕ)) → All (λ f. lex_less f e ≡ true) xs → insert e (xs ++ ys) ≡ xs ++ insert e ys
insert-past e [] ys h = refl
insert-past e (x ∷ xs) ys h = insert-on e x (xs ++ ys) h.0 ∙ ap (λ (l : List (List ℕ)). x ∷ l) (insert-past e xs ys h.1)

pub insert_grows : (e : List ℕ) (xs : List (List ℕ)) → length xs ≤ length (insert e xs)
unfolding insert
insert_grows e [] = omega arith
insert_grows e (x ∷ xs) = go (lex_less e x) (lex_less x e) (insert_grows e xs)
  where
    go : (b c : Bool) → length xs ≤ length (insert e xs) → length (x ∷ xs) ≤ length (cond b (e ∷ x ∷ xs) (cond c (x ∷ insert e xs) (x ∷ xs)))
    go true c ih = omega arith
    go false true ih = omega arith
    go false false ih = omega arith

-- ---- parts of a buffer

-- the part behind k bytes
pub rest_is : (s : List ℕ) (k : ℕ) → take (length s - k) (drop k s) ≡ drop k s
rest_is s k = take_all (length s - k) (drop k s) (simp length-drop (omega arith))

-- ---- events one after another as bytes

-- each is as long as an event
abbrev pub Sized : List (List ℕ) → Type 0
Sized es = All (λ e. length e ≡ event_length) es

abbrev pub flat : List (List ℕ) → List ℕ
flat es = flat_map (λ e. e) es

pub flat_length : (es : List (List ℕ)) → Sized es → length (flat es) ≡ event_length * length es
unfolding flat_map
flat_length [] h = refl
flat_length (e ∷ es) h = let k = h.0 in let ih = flat_length es h.1 in simp length-append (omega arith)

pub chunk_cons : (k : ℕ) (f t : List ℕ) → length f ≡ event_length → chunks (suc k) (f ++ t) ≡ f ∷ chunks k t
unfolding chunks
chunk_cons k f t h = rw (take_at f t event_length h, drop_at f t event_length h)

pub flat_chunks : (es : List (List ℕ)) (t : List ℕ) → Sized es → chunks (length es) (flat es ++ t) ≡ es
unfolding flat_map chunks
flat_chunks [] t h = refl
flat_chunks (e ∷ es) t h =
    ap (chunks (suc (length es))) (append_assoc e (flat es) t) ∙ chunk_cons (length es) e (flat es ++ t) h.0
    ∙ ap (λ (l : List (List ℕ)). e ∷ l) (flat_chunks es t h.1)

pub chunks_flat : (n : ℕ) (s : List ℕ) → flat (chunks n s) ++ drop (n * event_length) s ≡ s
unfolding chunks flat_map
chunks_flat zero s = refl
chunks_flat (suc n) s =
    let k : suc n * event_length ≡ event_length + n * event_length = omega arith in
    let rest = drop event_length s in
    append_assoc (take event_length s) (flat (chunks n rest)) (drop (suc n * event_length) s)
    ∙ ap (λ (t : List ℕ). take event_length s ++ t)
    (ap (λ (t : List ℕ). flat (chunks n rest) ++ t) (ap (λ (m : ℕ). drop m s) k ∙ sym (drop-drop (n * event_length) event_length s)) ∙ chunks_flat n rest)
    ∙ take-append-drop event_length s

pub chunks-length : (n : ℕ) (s : List ℕ) → length (chunks n s) ≡ n
unfolding chunks
chunks-length zero s = refl
chunks-length (suc n) s = ap suc (chunks-length n (drop event_length s))

drop-same : (z k j : ℕ) → z - k ≡ j → drop k (replicate {A = ℕ} z 0) ≡ replicate j 0
drop-same z zero j h = let e : z ≡ j = omega arith in ap (λ (n : ℕ). replicate {A = ℕ} n 0) e
drop-same zero (suc k) j h = let e : 0 ≡ j = omega arith in ap (λ (n : ℕ). replicate {A = ℕ} n 0) e
drop-same (suc z) (suc k) j h = drop-same z k j (omega arith)

drop-zeros : (s : List ℕ) (z k j : ℕ) → length s ≤ k → z - (k - length s) ≡ j → drop k (s ++ replicate z 0) ≡ replicate j 0
drop-zeros s z k j l h =
    let m : k ≡ length s + (k - length s) = omega arith in
    ap (λ (n : ℕ). drop n (s ++ replicate z 0)) m ∙ drop-append-add s (replicate z 0) (k - length s) ∙ drop-same z (k - length s) j h

-- ---- one event more

pub rising_sized : (es : List (List ℕ)) → Sized es → Sized (rising es)
rising_sized es h = each_all (λ e. length e ≡ event_length) (rising es) (λ e k. all_each (λ e. length e ≡ event_length) es h e (of_rising es e k))

pub rising_grows : (e : List ℕ) (es : List (List ℕ)) → length (rising es) ≤ length (rising (e ∷ es))
unfolding rising
rising_grows e es = insert_grows e (rising es)

-- the events that a buffer holds are its first ones
nines-chunks : (es : List (List ℕ)) (l : Listing) (s : List ℕ) → Nines es l s → l.full ≡ false → chunks l.count s ≡ rising es
nines-chunks es l s N p =
    let f = N.fitting p in
    ap₂ chunks f.0 f.2 ∙ flat_chunks (rising es) (replicate (length s - event_length * length (rising es)) 0) (rising_sized es N.each)

nines-rises : (es : List (List ℕ)) (l : Listing) (s : List ℕ) → Nines es l s → l.full ≡ false → Rises (chunks l.count s)
nines-rises es l s N p = subst Rises (sym (nines-chunks es l s N p)) (rising-rises es)

pub nines-none : (s : List ℕ) → s ≡ replicate (length s) 0 → Nines [] (record { count = 0; full = false }) s
unfolding rising flat_map
nines-none s h =
    let z : length s ≡ length s - event_length * 0 = omega arith in
    record { each = tt; fitting = λ q. (refl, omega arith, h ∙ ap (λ (n : ℕ). replicate {A = ℕ} n 0) z); over = λ q. clash q refl }

-- with no room left the list stays as it is, or is too long
pub nines-full : (es : List (List ℕ)) (l : Listing) (s e : List ℕ) → length e ≡ event_length → l.full ≡ true → Nines es l s → Nines (e ∷ es) l s
nines-full es l s e h p N = record {
  each = (h, N.each);
  fitting = λ q. clash p q;
  over = λ q. omega (arith, N.over p, rising_grows e es);
}

pub nines-kept : (es : List (List ℕ)) (l : Listing) (s e : List ℕ) (r : Result ℕ ℕ) → length e ≡ event_length → l.full ≡ false
    → length s < l.count * event_length + event_length → PlaceOf l.count e s r → Nines es l s → Nines (e ∷ es) (record { count = l.count; full = is_err r }) s
unfolding rising
nines-kept es l s e (Ok i) h p room P N =
    let c = nines-chunks es l s N p in record {
      each = (h, N.each);
      fitting = λ r. rw (sym (ap (insert e) c) ∙ P.at (nines-rises es l s N p) ∙ c) (N.fitting p);
      over = λ r. clash r refl;
    }
nines-kept es l s e (Err i) h p room P N =
    let c = nines-chunks es l s N p in
    let n = (N.fitting p).0 in
    let m = ap length (sym (ap (insert e) c) ∙ P.at (nines-rises es l s N p)) in
    let k = P.within in
    record { each = (h, N.each); fitting = λ r. clash refl r; over = λ r. omega (arith, m, simp (length-append, length-take, length-drop, chunks-length) at m) }

pub nines-more : (es : List (List ℕ)) (l : Listing) (s t e : List ℕ) (r : ℕ) → length e ≡ event_length → l.full ≡ false
    → l.count * event_length + event_length ≤ length s → Inserted l.count e s t r
    → Nines es l s → Nines (e ∷ es) (record { count = r; full = false }) t
unfolding rising
nines-more es l s t e r h p room i N =
    let f = N.fitting p in let n = f.0 in let few = i.few in let long = i.long in
    let c = nines-chunks es l s N p in
    let after : chunks r t ≡ rising (e ∷ es) = i.events (nines-rises es l s N p) ∙ ap (insert e) c in
    let count : r ≡ length (rising (e ∷ es)) = sym (chunks-length r t) ∙ ap length after in
    let grown = rising_grows e es in
    let fl = flat_length (rising es) (rising_sized es N.each) in
    let rest = ap (drop (r * event_length)) f.2
    ∙ drop-zeros (flat (rising es)) (length s - event_length * length (rising es)) (r * event_length)
    (length t - event_length * length (rising (e ∷ es))) (omega arith) (omega arith) in
    record {
      each = (h, N.each);
      fitting = λ q. (count, omega arith, sym (chunks_flat r t) ∙ ap₂ ◌++◌ (ap flat after) (i.behind ∙ rest));
      over = λ q. clash q refl;
    }

-- a component more: what is kept of it, by whether the listing is full, the event fits or stands already
pub part_full : (part : ℕ) (l : Listing) (s : List ℕ) → l.full ≡ true → l.count * event_length ≤ length s → PartListed part l s s l
part_full part l s p h = record { at = λ es N. nines-full es l s _ (event-length 9 0 0 0 part) p N; fits = h; long = refl }

pub part_kept : (part : ℕ) (l : Listing) (s e : List ℕ) (r : Result ℕ ℕ) (b : Bool) → e ≡ event 9 0 0 0 part → l.full ≡ false → l.count * event_length ≤ length s
    → length s < l.count * event_length + event_length → PlaceOf l.count e s r → b ≡ is_err r → PartListed part l s s (record { count = l.count; full = b })
part_kept part l s e r b q p h room P z =
    record { at = λ es N. rw z (nines-kept es l s _ r (event-length 9 0 0 0 part) p room (rw q at P) N); fits = h; long = refl }

pub part_more : (part : ℕ) (l : Listing) (s t e : List ℕ) (r : ℕ) → e ≡ event 9 0 0 0 part → l.full ≡ false → l.count * event_length + event_length ≤ length s
    → Inserted l.count e s t r → PartListed part l s t (record { count = r; full = false })
part_more part l s t e r q p room i = record {
  at = λ es N. nines-more es l s t _ r (event-length 9 0 0 0 part) p room (rw q at i) N;
  fits = let few = i.few in let long = i.long in omega arith;
  long = i.long;
}

-- ---- the components at several persons, those at `left` still to come

abbrev pub events_at : List ℕ → List ℕ → List (List ℕ)
events_at parts persons = map (λ h. event 9 0 0 0 (entry parts h)) persons

pub record Turns (parts all left : List ℕ) (before : Listing) (events₀ : List ℕ) (now : Listing) (events : List ℕ) : Type 0 where
  pub at : (es : List (List ℕ)) → Nines es before events₀
      → (fs : List (List ℕ)) × (Nines fs now events) × (prepended (events_at parts left) fs ≡ prepended (events_at parts all) es)
  pub fits : now.count * event_length ≤ length events
  pub long : length events ≡ length events₀

pub turns_start : (parts all : List ℕ) (l : Listing) (s : List ℕ) → l.count * event_length ≤ length s → Turns parts all all l s l s
turns_start parts all l s h = record { at = λ es N. (es, N, refl); fits = h; long = refl }

pub turns_next : (parts all left rest : List ℕ) (h part : ℕ) (l₀ l m : Listing) (s₀ s t : List ℕ) → left ≡ h ∷ rest → part ≡ entry parts h
    → PartListed part l s t m → Turns parts all left l₀ s₀ l s → Turns parts all rest l₀ s₀ m t
unfolding prepended
turns_next parts all left rest h part l₀ l m s₀ s t z w p T = record {
  at = λ es N. let r = T.at es N in (
    event 9 0 0 0 part ∷ r.0,
    p.at r.0 r.1,
    ap (λ (k : ℕ). prepended (events_at parts rest) (event 9 0 0 0 k ∷ r.0)) w ∙ ap (λ (x : List ℕ). prepended (events_at parts x) r.0) (sym z) ∙ r.2,
  );
  fits = p.fits;
  long = p.long ∙ T.long;
}

pub turns_end : (parts : List ℕ) (heads : ℕ) (left : List ℕ) (l₀ l : Listing) (s₀ s : List ℕ) → left ≡ [] → Turns parts (members heads) left l₀ s₀ l s → PartsListed parts heads l₀ s₀ s l
unfolding prepended
turns_end parts heads left l₀ l s₀ s z T = record {
  at = λ es N. let r = T.at es N in
      subst (λ (x : List (List ℕ)). Nines x l s) (ap (λ (x : List ℕ). prepended (events_at parts x) r.0) (sym z) ∙ r.2) r.1;
  fits = T.fits;
  long = T.long;
}
