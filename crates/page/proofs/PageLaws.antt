-- Text that is put into a buffer byte after byte stands there whole, as far as there is room.
use mathlib.Core.Path.{◌≡◌, refl, sym, ap, ap₂, ◌∙◌}
use mathlib.Core.Bool.{Bool, true, false, cond}
use mathlib.Core.List.{List, [], ◌∷◌, ◌++◌, append_assoc, append-nil, flat_map}
use Prim.Native.Nat.{ℕ, suc, ◌+◌, ◌-◌, ◌≤◌, ◌<◌, min}
use native.Mathlib.Omega.{arith}
use native.Mathlib.Nat.{min-eq_left, min_comm, zero-min, min-zero, suc-min-suc}
use lib.ListN.{length, get_or, take, drop, set, replicate, length-append, length-take, length-set, length-replicate, drop_of_length-le}
use lib.Seq.{drop-cons, set-append_seam, drop-nil, take_all}
use lib.Dec.{ltb}
use borrow.Author.Tests.{lt-ltb, le-ltb}
use Rattle.page.specs.Page.{Page, put_byte, puts, begun}
use Rattle.page.proofs.ZeroLaws.{zeros-drop}

pub puts_append : (p : Page) (a b : List ℕ) → puts p (a ++ b) ≡ puts (puts p a) b
unfolding puts
puts_append p [] b = refl
puts_append p (x ∷ a) b = puts_append (put_byte p x) a b

pub puts_none : (p : Page) → puts p [] ≡ p
unfolding puts
puts_none p = refl

pub puts_one : (p : Page) (b : ℕ) → puts p (b ∷ []) ≡ put_byte p b
unfolding puts
puts_one p b = refl

pub puts_first : (p : Page) (b : ℕ) (bs : List ℕ) → puts p (b ∷ bs) ≡ puts (put_byte p b) bs
unfolding puts
puts_first p b bs = refl

pub put_length : (p : Page) (b : ℕ) → length (put_byte p b).out ≡ length p.out
put_length p b = pick (ltb p.count (length p.out))
  where
    pick : (t : Bool) → length (cond t (record { count = p.count + 1; out = set p.out p.count b }) p).out ≡ length p.out
    pick true = length-set p.out p.count b
    pick false = refl

pub puts-length : (p : Page) (text : List ℕ) → length (puts p text).out ≡ length p.out
unfolding puts
puts-length p [] = refl
puts-length p (b ∷ bs) = puts-length (put_byte p b) bs ∙ put_length p b

-- a text byte by byte: what is still to be put from byte i on
pub put_next : (text : List ℕ) (i : ℕ) (p q : Page) → i < length text → q ≡ put_byte p (get_or text i 0) → puts q (drop (i + 1) text) ≡ puts p (drop i text)
unfolding puts
put_next text i p q h e =
    ap (λ (q : Page). puts q (drop (i + 1) text)) e
    ∙ sym (ap (puts p) (drop-cons text i 0 h ∙ ap (λ (k : ℕ). get_or text i 0 ∷ drop k text) (let f : suc i ≡ i + 1 = omega arith in f)))

pub put_end : (text : List ℕ) (i : ℕ) (p : Page) → length text ≤ i → p ≡ puts p (drop i text)
unfolding puts
put_end text i p h = sym (ap (puts p) (drop_of_length-le text h))

-- a byte behind a text
pub put_last : (p q r : Page) (text : List ℕ) (b : ℕ) → q ≡ puts p text → r ≡ put_byte q b → r ≡ puts p (text ++ (b ∷ []))
unfolding puts
put_last p q r text b e f = f ∙ ap (λ (q : Page). put_byte q b) e ∙ sym (puts_append p text (b ∷ []))

-- a text behind a text
pub puts_then : (p q r : Page) (a b : List ℕ) → q ≡ puts p a → r ≡ puts q b → r ≡ puts p (a ++ b)
puts_then p q r a b e f = f ∙ ap (λ (q : Page). puts q b) e ∙ sym (puts_append p a b)

-- record after record: one more is put, then those that are left; or none is left
module _ {A : Type 0} (f : A → List ℕ) where
  pub put_more : (p q : Page) (x : A) (all rest : List A) → all ≡ x ∷ rest → q ≡ puts p (f x) → puts q (flat_map f rest) ≡ puts p (flat_map f all)
  unfolding flat_map
  put_more p q x all rest e h = puts_then p q (puts q (flat_map f rest)) (f x) (flat_map f rest) h refl ∙ ap (λ (xs : List A). puts p (flat_map f xs)) (sym e)

  pub put_done : (p : Page) (all : List A) → all ≡ [] → p ≡ puts p (flat_map f all)
  unfolding flat_map puts
  put_done p all e = sym (ap (λ (xs : List A). puts p (flat_map f xs)) e)

pub page : {n m : ℕ} {s t : List ℕ} → n ≡ m → s ≡ t → ◌≡◌ {A = Page} (record { count = n; out = s }) (record { count = m; out = t })
page e f = ap₂ (λ (n : ℕ) (s : List ℕ). record { count = n; out = s }) e f

-- a full buffer
full : (text xs : List ℕ) → puts (record { count = length xs; out = xs }) text ≡ record { count = length xs; out = xs }
unfolding puts
full [] xs = refl
full (b ∷ bs) xs =
    ap (λ (t : Bool). puts (cond t (record { count = length xs + 1; out = set xs (length xs) b }) (record { count = length xs; out = xs })) bs) (le-ltb (length xs) (length xs) (omega arith))
    ∙ full bs xs

-- behind what stands already
behind : (text xs ys : List ℕ) → puts (record { count = length xs; out = xs ++ ys }) text ≡ record { count = length xs + min (length text) (length ys); out = xs ++ (take (length ys) text ++ drop (length text) ys) }
unfolding puts
behind text xs [] =
    ap (λ (s : List ℕ). puts (record { count = length xs; out = s }) text) (append-nil xs) ∙ full text xs
    ∙ page (let e = min-zero (length text) in omega arith) (sym (ap (λ (s : List ℕ). xs ++ s) (drop-nil (length text)) ∙ append-nil xs))
behind [] xs (y ∷ ys) = page (let e = zero-min (length (y ∷ ys)) in omega arith) refl
behind (b ∷ bs) xs (y ∷ ys) =
    ap (λ (t : Bool). puts (cond t (record { count = length xs + 1; out = set (xs ++ y ∷ ys) (length xs) b }) (record { count = length xs; out = xs ++ y ∷ ys })) bs)
    (lt-ltb (length xs) (length (xs ++ y ∷ ys)) (let e = length-append xs (y ∷ ys) in omega arith))
    ∙ ap (λ (p : Page). puts p bs) (page (sym one) (set-append_seam xs y ys b ∙ sym (append_assoc xs (b ∷ []) ys)))
    ∙ behind bs (xs ++ (b ∷ [])) ys
    ∙ page (let e = suc-min-suc (length bs) (length ys) in omega (arith, one)) (append_assoc xs (b ∷ []) (take (length ys) bs ++ drop (length bs) ys))
  where
    one : length (xs ++ (b ∷ [])) ≡ length xs + 1
    one = length-append xs (b ∷ [])

pub puts-begun : (text out : List ℕ) → puts (record { count = 0; out = out }) text ≡ begun text out
puts-begun text out = behind text [] out ∙ page (omega arith) refl

-- the count lies within the buffer
pub begun-inside : (text out : List ℕ) → (begun text out).count ≤ length (begun text out).out
begun-inside text out =
    let l = length-append (take (length out) text) (drop (length text) out) in
    let t = length-take (length out) text in
    let m = min_comm (length out) (length text) in
    omega arith

-- a text for which there is room is not cut
pub begun-whole : (text out : List ℕ) → length text ≤ length out → begun text out ≡ record { count = length text; out = text ++ drop (length text) out }
begun-whole text out h = page (min-eq_left h) (ap (λ (s : List ℕ). s ++ drop (length text) out) (take_all (length out) text h))

-- and stands with zeros behind it, if all was zero
pub puts-zeros : (text : List ℕ) (room : ℕ) → length text ≤ room
    → puts (record { count = 0; out = replicate room 0 }) text ≡ record { count = length text; out = text ++ replicate (room - length text) 0 }
puts-zeros text room h =
    puts-begun text (replicate room 0)
    ∙ begun-whole text (replicate room 0) (let l = length-replicate {A = ℕ} room 0 in omega arith)
    ∙ ap (λ (s : List ℕ). record { count = length text; out = text ++ s }) (zeros-drop room (length text))
