-- Pieces of one length, n bytes each, written one after another into a lent buffer, one for each number of a set.
use mathlib.Core.Path.{◌≡◌, refl, sym, ap, ap₂, ◌∙◌}
use mathlib.Core.Bool.{Bool, true, ◌||◌, or-true}
use mathlib.Core.List.{List, [], ◌∷◌, ◌++◌, append_assoc, append-nil, flat_map, map}
use Prim.Native.Nat.{ℕ, suc, ◌+◌, ◌-◌, ◌*◌, ◌^◌, ◌≤◌, ◌<◌}
use native.Mathlib.Nat.{lt_trans}
use native.Mathlib.Omega.{arith}
use lib.Dec.{eqb}
use lib.ListN.{length, take, drop, take-append-drop, length-append, length-drop, length-map, drop_of_length-le}
use lib.Seq.{length-take-le, take_at, take_all, drop-append-add, drop-drop}
use borrow.Author.Tests.{eq-eqb}
use borrow.Rule.Slice.PartMut.{put_mid}
use Rattle.sets.specs.paper.Sets.{has, size, members}
use Rattle.sets.specs.code.Members.{Turn}
use Rattle.sets.proofs.MemberLaws.{members-length}
use Rattle.sets.proofs.TurnLaws.{members-none, turn_has}

-- ---- bytes in place of others

-- b with vs, k of them, in place of what stood at a place
abbrev pub over : ℕ → ℕ → List ℕ → List ℕ → List ℕ
over place k vs b = take place b ++ (vs ++ drop (place + k) b)

pub over-long : (place k : ℕ) (vs b : List ℕ) → length vs ≡ k → place + k ≤ length b → length (over place k vs b) ≡ length b
over-long place k vs b e h = rw (length-append, length-append, length-take-le place b (omega arith), length-drop) (omega arith)

-- behind vs come ws: both at once
pub over-both : (place k j : ℕ) (vs ws b : List ℕ) → length vs ≡ k → place + k ≤ length b → over (place + k) j ws (over place k vs b) ≡ over place (k + j) (vs ++ ws) b
over-both place k j vs ws b e h =
    let f = take place b ++ vs in
    let l : length f ≡ place + k = rw (length-append, length-take-le place b (omega arith)) (omega arith) in
    let x : over place k vs b ≡ f ++ drop (place + k) b = sym (append_assoc (take place b) vs (drop (place + k) b)) in
    let t : take (place + k) (over place k vs b) ≡ f = ap (take (place + k)) x ∙ take_at f (drop (place + k) b) (place + k) l in
    let d : drop (place + k + j) (over place k vs b) ≡ drop (place + (k + j)) b =
    ap (drop (place + k + j)) x ∙ ap (λ (i : ℕ). drop (i + j) (f ++ drop (place + k) b)) (sym l) ∙ drop-append-add f (drop (place + k) b) j ∙ drop-drop j (place + k) b
    ∙ ap (λ (i : ℕ). drop i b) (let z : place + k + j ≡ place + (k + j) = omega arith in z) in
    ap₂ (λ (y z : List ℕ). y ++ (ws ++ z)) t d ∙ simp append_assoc

-- a part of b that is written from its start on
pub part-over : (place k : ℕ) (vs b : List ℕ) → place + k ≤ length b
    → put_mid place (length b - place) b (vs ++ drop k (take (length b - place) (drop place b))) ≡ over place k vs b
part-over place k vs b h =
    let q : length (drop place b) ≤ length b - place = simp length-drop (omega arith) in
    simp (take_all (length b - place) (drop place b) q, drop_of_length-le (drop place b) q, drop-drop, append-nil)

-- ---- pieces for the numbers of a set

pub size_none : (m : ℕ) → m ≡ 0 → size m ≡ 0
size_none m e = sym (members-length m) ∙ ap length (members-none m e)

module _ (n : ℕ) where
  -- pieces still to come, put at a place
  abbrev pub will : ℕ → List (List ℕ) → List ℕ → List ℕ
  will place es b = over place (n * length es) (flat_map (λ e. e) es) b

  will_next : (place : ℕ) (vs : List ℕ) (es : List (List ℕ)) (b : List ℕ) → length vs ≡ n → place + n ≤ length b
      → will (place + n) es (over place n vs b) ≡ will place (vs ∷ es) b
  unfolding flat_map
  will_next place vs es b e h =
      over-both place n (n * length es) vs (flat_map (λ e. e) es) b e h
      ∙ ap (λ (k : ℕ). over place k (vs ++ flat_map (λ e. e) es) b) (let z : n + n * length es ≡ n * suc (length es) = omega arith in z)

  pub will_none : (place : ℕ) (b : List ℕ) → will place [] b ≡ b
  unfolding flat_map
  will_none place b = ap (λ (k : ℕ). take place b ++ drop k b) (let z : place + n * 0 ≡ place = omega arith in z) ∙ take-append-drop place b

  -- a loop over the numbers of a set that writes a piece for each: those of m are left. What `X` says is not needed to write, only to tell what the
  -- pieces are.
  pub record Writing {X : Type 0} (f : X → ℕ → List ℕ) (at all : ℕ) (before : List ℕ) (m place : ℕ) (after : List ℕ) : Type 0 where
    pub fits : m < 2 ^ 64
    pub within : (i : ℕ) → has m i ≡ true → has all i ≡ true
    pub long : length after ≡ length before
    pub room : place + n * size m ≡ at + n * size all
    pub same : (x : X) → will place (map (f x) (members m)) after ≡ will at (map (f x) (members all)) before

  pub writing_none : {X : Type 0} (f : X → ℕ → List ℕ) (at all : ℕ) (before : List ℕ) → all < 2 ^ 64 → Writing f at all before all at before
  writing_none f at all before h = record { fits = h; within = λ i e. e; long = refl; room = refl; same = λ x. refl }

  module _ {X : Type 0} {f : X → ℕ → List ℕ} {at all : ℕ} {before : List ℕ} {m place : ℕ} {after : List ℕ} (w : Writing f at all before m place after) where
    -- the next number is of the set, and its piece fits
    pub writing_has : (t r : ℕ) → Turn m t r → has all t ≡ true
    writing_has t r s = w.within t (turn_has m r t w.fits s.first s.rest t ∙ ap (λ (b : Bool). b || has r t) (eq-eqb t t refl))

    smaller : (t r : ℕ) → Turn m t r → n * size m ≡ n * suc (size r)
    smaller t r s = ap (λ (k : ℕ). n * k) (sym (members-length m) ∙ ap length s.rest.0 ∙ ap suc (members-length r))

    pub writing_room : (t r : ℕ) → Turn m t r → at + n * size all ≤ length before → place + n ≤ length after
    writing_room t r s h = let e = smaller t r s in omega (arith, w.long, w.room)

    -- ONE PIECE MORE
    pub writing_next : (t r : ℕ) → Turn m t r → (vs ys : List ℕ) → length vs ≡ n → place + n ≤ length after
        → ys ≡ vs ++ drop n (take (length after - place) (drop place after)) → ((x : X) → vs ≡ f x t)
        → Writing f at all before r (place + n) (put_mid place (length after - place) after ys)
    writing_next t r s vs ys l h y v =
        let x = ap (put_mid place (length after - place) after) y ∙ part-over place n vs after h in
        let e = smaller t r s in
        let left = turn_has m r t w.fits s.first s.rest in record {
          fits = lt_trans s.rest.1 w.fits;
          within = λ i h. w.within i (left i ∙ ap (λ (b : Bool). eqb t i || b) h ∙ or-true (eqb t i));
          long = ap length x ∙ over-long place n vs after l h ∙ w.long;
          room = omega (arith, w.room);
          same = λ u.
              ap (will (place + n) (map (f u) (members r))) x ∙ will_next place vs (map (f u) (members r)) after l h
              ∙ ap (λ (v : List ℕ). will place (v ∷ map (f u) (members r)) after) (v u ∙ ap (f u) s.first.0)
              ∙ ap (λ (ps : List ℕ). will place (map (f u) ps) after) (sym s.rest.0) ∙ w.same u;
        }

    -- at the end all are written
    pub writing_place : m ≡ 0 → place ≡ at + n * size all
    writing_place e = let z : n * size m ≡ n * 0 = ap (λ (k : ℕ). n * k) (size_none m e) in omega (arith, w.room)

    pub writing_bytes : m ≡ 0 → (x : X) → after ≡ will at (map (f x) (members all)) before
    writing_bytes e x = sym (will_none place after) ∙ ap (λ (ps : List ℕ). will place (map (f x) ps) after) (sym (members-none m e)) ∙ w.same x

flat_made : (f : ℕ → List ℕ) (ps : List ℕ) → flat_map (λ e. e) (map f ps) ≡ flat_map f ps
unfolding flat_map
flat_made f [] = refl
flat_made f (p ∷ ps) = ap (λ (l : List ℕ). f p ++ l) (flat_made f ps)

module _ (n : ℕ) {X : Type 0} {f : X → ℕ → List ℕ} {all : ℕ} {before : List ℕ} {m place : ℕ} {after : List ℕ} (w : Writing n f 0 all before m place after) where
  -- all of them, at the start
  pub writing_front : m ≡ 0 → (x : X) → after ≡ flat_map (f x) (members all) ++ drop (n * size all) before
  writing_front e x =
      writing_bytes n w e x
      ∙ ap₂ (λ (l : List ℕ) (k : ℕ). l ++ drop k before) (flat_made (f x) (members all))
      (let z = ap (λ (k : ℕ). n * k) (length-map (members all) (f x) ∙ members-length all) in omega arith)
