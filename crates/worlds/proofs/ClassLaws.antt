-- Classes by some sets become classes by one more: who is joined to whom, and what a table of classes then holds.
use mathlib.Core.Path.{◌≡◌, refl, sym, ap, ap₂, ◌∙◌, subst}
use mathlib.Core.Bool.{Bool, true, false, ◌&&◌, not, cond, true≢false}
use mathlib.Core.Logic.{⊎_elim}
use mathlib.Core.List.{List, [], ◌∷◌, ◌++◌, map, append-nil, append_assoc}
use Prim.Native.Nat.{ℕ, ◌+◌, ◌-◌, ◌^◌, ◌≤◌, ◌<◌}
use native.Mathlib.Omega.{arith}
use native.Mathlib.Numerals.{add-one}
use lib.ListN.{length, get_or, set, take}
use lib.Seq.{get_or-set_same, get_or-set_other, take-suc, take_all}
use lib.Dec.{eqb}
use borrow.Author.Tests.{eqb-true, eqb-false}
use Rattle.sets.specs.paper.Sets.{has, one, union, meet, minus, only, subset, lowest, members, close_of, all_of, union_of}
use Rattle.sets.proofs.SetLaws.{Within, has-none, has_one, has_meet, has_high, has-not, ext, antisym, along, thru, in_minus, of_minus, subset-true, within-subset, and_parts, lt_or_le}
use Rattle.sets.proofs.Closing.{Takes, Closed, close_closed, close_within, close_least, close_mono, close_same, close_sym, close_union, closed-minus, in_one, one-within}
use Rattle.records.proofs.ListLaws.{all_append}
use Rattle.worlds.specs.code.Over.{entry, Marked}
use Rattle.worlds.specs.code.Classes.{Alone, ClassesBy, Joins, joinable}
use Rattle.sets.proofs.TurnLaws.{members-none, union-has, has-union_of}

-- ---- closed sets and closings

-- lists of sets with the same closed sets have the same closings
pub close_alike : (ss ts : List ℕ) → ((m : ℕ) → Closed ss m → Closed ts m) → ((m : ℕ) → Closed ts m → Closed ss m) → (m : ℕ) → close_of ss m ≡ close_of ts m
close_alike ss ts f g m =
    antisym (close_of ss m) (close_of ts m) (close_least ss m (close_of ts m) (close_within ts m) (g (close_of ts m) (close_closed ts m)))
    (close_least ts m (close_of ss m) (close_within ss m) (f (close_of ss m) (close_closed ss m)))

pub closed-more : (ss ts : List ℕ) (m : ℕ) → Closed ss m → Closed ts m → Closed (ss ++ ts) m
closed-more [] ts m a b = b
closed-more (s ∷ ss) ts m a b = (a.0, closed-more ss ts m a.1 b)

pub closed_parts : (ss ts : List ℕ) (m : ℕ) → Closed (ss ++ ts) m → Closed ss m × Closed ts m
closed_parts [] ts m c = (tt, c)
closed_parts (s ∷ ss) ts m c =
    let r = closed_parts ss ts m c.1 in
    ((c.0, r.0), r.1)

-- sets that lie within a set
pub closed-inside : (ss : List ℕ) (m : ℕ) → all_of (λ s. subset s m) ss ≡ true → Closed ss m
unfolding all_of
closed-inside [] m e = tt
closed-inside (s ∷ ss) m e =
    let t = and_parts (subset s m) (all_of (λ s. subset s m) ss) e in
    (λ p x y. subset-true s m t.0, closed-inside ss m t.1)

pub closed_none : (ss : List ℕ) → Closed ss 0
closed_none [] = tt
closed_none (s ∷ ss) = (λ p x y. absurd (true≢false (sym y ∙ has-none p)), closed_none ss)

-- ---- one set more

-- a set that what is closed takes in already adds nobody
close_taken : (ss : List ℕ) (s m : ℕ) → Takes s (close_of ss m) → close_of (ss ++ (s ∷ [])) m ≡ close_of ss m
close_taken ss s m t =
    let new = close_of (ss ++ (s ∷ [])) m in
    antisym new (close_of ss m)
    (close_least (ss ++ (s ∷ [])) m (close_of ss m) (close_within ss m) (closed-more ss (s ∷ []) (close_of ss m) (close_closed ss m) (t, tt)))
    (close_least ss m new (close_within (ss ++ (s ∷ [])) m) (closed_parts ss (s ∷ []) new (close_closed (ss ++ (s ∷ [])) m)).0)

-- who is joined to someone of the set is joined to all who are
close_joined : (ss : List ℕ) (s p : ℕ) → has (close_of ss s) p ≡ true → close_of (ss ++ (s ∷ [])) (one p) ≡ close_of ss s
close_joined ss s p h =
    antisym new whole
    (close_least (ss ++ (s ∷ [])) (one p) whole (one-within p whole h) (closed-more ss (s ∷ []) whole (close_closed ss s) (λ q x y. close_within ss s, tt)))
    (close_least ss s new (record { at = λ q x. reached q x (has new q) refl }) parts.0)
  where
    whole : ℕ
    whole = close_of ss s

    new : ℕ
    new = close_of (ss ++ (s ∷ [])) (one p)

    parts : Closed ss new × Closed (s ∷ []) new
    parts = closed_parts ss (s ∷ []) new (close_closed (ss ++ (s ∷ [])) (one p))

    mine : has new p ≡ true
    mine = (close_within (ss ++ (s ∷ [])) (one p)).at p (in_one p)

    -- were nobody of the set reached, what is not reached would be closed and hold the set
    rest : ((q : ℕ) → has s q ≡ true → has new q ≡ false) → Within whole (minus whole new)
    rest f = close_least ss s (minus whole new) (record { at = λ q x. in_minus whole new q ((close_within ss s).at q x) (f q x) }) (closed-minus ss whole new (close_closed ss s) parts.0)

    reached : (q : ℕ) → has s q ≡ true → (b : Bool) → has new q ≡ b → has new q ≡ true
    reached q x true e = e
    reached q x false e =
        absurd (true≢false (sym mine ∙ (of_minus whole new p ((rest (λ r y. apart r y (has new r) refl)).at p h)).1))
      where
        apart : (r : ℕ) → has s r ≡ true → (b : Bool) → has new r ≡ b → has new r ≡ false
        apart r y true k = absurd (true≢false (sym ((parts.1.0 r y k).at q x) ∙ e))
        apart r y false k = k

-- ---- the union of what a table holds at the persons of a set

union_alike : (f g : ℕ → ℕ) (m : ℕ) → m < 2 ^ 64 → ((i : ℕ) → has m i ≡ true → f i ≡ g i) → Within (union_of f (members m)) (union_of g (members m))
union_alike f g m b e = record {
  at = λ q h.
      let w = union-has f m q b h in
      has-union_of g m w.0 q b w.1 (ap (λ (x : ℕ). has x q) (sym (e w.0 w.1)) ∙ w.2);
}

-- a set is the union of its persons
union-ones : (m : ℕ) → m < 2 ^ 64 → union_of one (members m) ≡ m
union-ones m b =
    antisym (union_of one (members m)) m
    (record { at = λ q h. let w = union-has one m q b h in (one-within w.0 m w.1).at q w.2 })
    (record { at = λ q h. has-union_of one m q q b h (in_one q) })

union_closes : (ss ps : List ℕ) → union_of (λ q. close_of ss (one q)) ps ≡ close_of ss (union_of one ps)
unfolding union_of
union_closes ss [] = sym (close_same ss 0 (closed_none ss))
union_closes ss (p ∷ ps) = ap (union (close_of ss (one p))) (union_closes ss ps) ∙ sym (close_union ss (one p) (union_of one ps))

-- where it holds the classes of a set's persons: all who are joined to someone of the set
pub gathered : (ss table : List ℕ) (s : ℕ) → s < 2 ^ 64 → ((q : ℕ) → has s q ≡ true → entry table q ≡ close_of ss (one q)) → union_of (entry table) (members s) ≡ close_of ss s
gathered ss table s b h =
    antisym (union_of (entry table) (members s)) (union_of (λ q. close_of ss (one q)) (members s))
    (union_alike (entry table) (λ q. close_of ss (one q)) s b h) (union_alike (λ q. close_of ss (one q)) (entry table) s b (λ q e. sym (h q e)))
    ∙ union_closes ss (members s) ∙ ap (close_of ss) (union-ones s b)

-- ---- joining

-- who is joined to someone of the set is joined to all who are, and nobody else's class changes
pub joined_class : (ss : List ℕ) (s p : ℕ) → close_of (ss ++ (s ∷ [])) (one p) ≡ cond (has (close_of ss s) p) (close_of ss s) (close_of ss (one p))
joined_class ss s p = pick (has (close_of ss s) p) refl
  where
    pick : (b : Bool) → has (close_of ss s) p ≡ b → close_of (ss ++ (s ∷ [])) (one p) ≡ cond b (close_of ss s) (close_of ss (one p))
    pick true e = close_joined ss s p e
    pick false e = close_taken ss s (one p) (λ q x y. absurd (true≢false (sym ((close_mono ss (one q) s (one-within q s x)).at p (close_sym ss p q y)) ∙ e)))

-- where the set lies within one class, nobody's class changes
pub joined_already : (ss : List ℕ) (s a p : ℕ) → Within s (close_of ss (one a)) → close_of (ss ++ (s ∷ [])) (one p) ≡ close_of ss (one p)
joined_already ss s a p f = close_taken ss s (one p) (λ q x y. thru f (along (class a q (f.at q x) ∙ sym (class p q y))))
  where
    class : (a q : ℕ) → has (close_of ss (one a)) q ≡ true → close_of ss (one a) ≡ close_of ss (one q)
    class a q h =
        antisym (close_of ss (one a)) (close_of ss (one q))
        (close_least ss (one a) (close_of ss (one q)) (one-within a (close_of ss (one q)) (close_sym ss a q h)) (close_closed ss (one q)))
        (close_least ss (one q) (close_of ss (one a)) (one-within q (close_of ss (one a)) h) (close_closed ss (one a)))

-- ---- what a table holds after joins

inside-more : (persons : ℕ) (ss ts : List ℕ) → all_of (λ s. subset s persons) ss ≡ true → all_of (λ s. subset s persons) ts ≡ true → all_of (λ s. subset s persons) (ss ++ ts) ≡ true
inside-more persons ss ts a b = all_append (λ s. subset s persons) ss ts ∙ ap₂ ◌&&◌ a b

pub joins-none : (classes : List ℕ) → Joins [] classes classes
joins-none classes = record { classes = λ persons sets e by. subst (λ (l : List ℕ). ClassesBy persons l classes) (sym (append-nil sets)) by; others = λ persons sets e by p h. refl }

pub joins-next : (xs ys a b c : List ℕ) → Joins xs a b → Joins ys b c → Joins (xs ++ ys) a c
joins-next xs ys a b c j k = record {
  classes = λ persons sets e by.
      let t = parts persons e in
      subst (λ (l : List ℕ). ClassesBy persons l c) (append_assoc sets xs ys) (k.classes persons (sets ++ xs) t.1 (j.classes persons sets t.0 by));
  others = λ persons sets e by p h.
      let t = parts persons e in
      k.others persons (sets ++ xs) t.1 (j.classes persons sets t.0 by) p h ∙ j.others persons sets t.0 by p h;
}
  where
    parts : (persons : ℕ) → all_of (λ s. subset s persons) (xs ++ ys) ≡ true → (all_of (λ s. subset s persons) xs ≡ true) × (all_of (λ s. subset s persons) ys ≡ true)
    parts persons e = and_parts (all_of (λ s. subset s persons) xs) (all_of (λ s. subset s persons) ys) (sym (all_append (λ s. subset s persons) xs ys) ∙ e)

inside_one : (persons s : ℕ) → all_of (λ t. subset t persons) (s ∷ []) ≡ true → Within s persons
unfolding all_of
inside_one persons s e = subset-true s persons (and_parts (subset s persons) true e).0

-- a set by which no class changes
joins-same : (s : ℕ) (classes : List ℕ) → ((persons : ℕ) (sets : List ℕ) → Within s persons → ClassesBy persons sets classes → (p : ℕ) → close_of (sets ++ (s ∷ [])) (one p) ≡ close_of sets (one p)) → Joins (s ∷ []) classes classes
joins-same s classes f = record {
  classes = λ persons sets e by. record {
    few = by.few;
    inside = inside-more persons sets (s ∷ []) by.inside e;
    at = λ p h. by.at p h ∙ sym (f persons sets (inside_one persons s e) by p);
  };
  others = λ persons sets e by p h. refl;
}

-- such is nobody
pub joins_nobody : (s : ℕ) (classes : List ℕ) → s ≡ 0 → Joins (s ∷ []) classes classes
joins_nobody s classes z = joins-same s classes (λ persons sets i by p. close_taken sets s (one p) (λ q x y. absurd (true≢false (sym x ∙ ap (λ (m : ℕ). has m q) z ∙ has-none q))))

-- and a set that lies within the class of one of its persons
pub joins-inside : (s a : ℕ) (classes : List ℕ) → has s a ≡ true → subset s (entry classes a) ≡ true → Joins (s ∷ []) classes classes
joins-inside s a classes h e =
    joins-same s classes (λ persons sets i by p. joined_already sets s a p (thru (subset-true s (entry classes a) e) (along (by.at a (i.at a h)))))

-- the classes of a set's persons become one where their union is put at each person of it
pub joins-whole : (s whole : ℕ) (before after : List ℕ) → s < 2 ^ 64 → whole ≡ union_of (entry before) (members s) → Marked whole whole before after → Joins (s ∷ []) before after
joins-whole s whole before after b w m = record {
  classes = λ persons sets e by. record {
    few = by.few;
    inside = inside-more persons sets (s ∷ []) by.inside e;
    at = λ p h. m.at p 0 ∙ ap₂ (λ (x y : ℕ). cond (has x p) x y) (is persons sets e by) (by.at p h) ∙ sym (joined_class sets s p);
  };
  others = λ persons sets e by p h.
      m.at p 0 ∙ ap (λ (b : Bool). cond b whole (entry before p)) (ap (λ (x : ℕ). has x p) (is persons sets e by) ∙ outside persons sets e by p h);
}
  where
    is : (persons : ℕ) (sets : List ℕ) → all_of (λ t. subset t persons) (s ∷ []) ≡ true → ClassesBy persons sets before → whole ≡ close_of sets s
    is persons sets e by = w ∙ gathered sets before s b (λ q h. by.at q ((inside_one persons s e).at q h))

    -- the classes of persons inside stay inside
    outside : (persons : ℕ) (sets : List ℕ) → all_of (λ t. subset t persons) (s ∷ []) ≡ true → ClassesBy persons sets before → (p : ℕ) → has persons p ≡ false → has (close_of sets s) p ≡ false
    outside persons sets e by p h = pick (has (close_of sets s) p) refl
      where
        pick : (b : Bool) → has (close_of sets s) p ≡ b → has (close_of sets s) p ≡ false
        pick true k = absurd (true≢false (sym ((close_least sets s persons (inside_one persons s e) (closed-inside sets persons by.inside)).at p k) ∙ h))
        pick false k = k

-- ---- each person alone

-- a person's mask within a set
pub alone_in : (persons p : ℕ) → meet (one p) persons ≡ only (has persons p) (one p)
alone_in persons p = ext _ _ (λ q. has_meet (one p) persons q ∙ ap (λ (b : Bool). b && has persons q) (has_one p q) ∙ pick (has persons p) refl q (eqb p q) refl)
  where
    pick : (b : Bool) → has persons p ≡ b → (q : ℕ) (d : Bool) → eqb p q ≡ d → (d && has persons q) ≡ has (only b (one p)) q
    pick true e q true k = ap (has persons) (sym (eqb-true p q k)) ∙ e ∙ sym (has_one p q ∙ k)
    pick true e q false k = sym (has_one p q ∙ k)
    pick false e q true k = ap (has persons) (sym (eqb-true p q k)) ∙ e ∙ sym (has-none q)
    pick false e q false k = sym (has-none q)

-- a turn of the loop, which is at k
pub alone_next : (persons k v : ℕ) (table : List ℕ) → k < length table → v ≡ only (has persons k) (one k)
    → ((p : ℕ) → p < k → entry table p ≡ only (has persons p) (one p)) → (p : ℕ) → p < k + 1 → entry (set table k v) p ≡ only (has persons p) (one p)
alone_next persons k v table l e h p b = pick (eqb k p) refl
  where
    pick : (d : Bool) → eqb k p ≡ d → entry (set table k v) p ≡ only (has persons p) (one p)
    pick true q =
        let s = eqb-true k p q in
        ap (entry (set table k v)) (sym s) ∙ get_or-set_same table k v 0 l ∙ e ∙ ap (λ (x : ℕ). only (has persons x) (one x)) s
    pick false q = get_or-set_other table k p v 0 (λ z. eqb-false k p q (sym z)) ∙ h p (omega (arith, eqb-false k p q))

pub everyone : (p : ℕ) → p < 64 → has (2 ^ 64 - 1) p ≡ true
everyone p l = has-not 64 0 p (omega arith) l ∙ ap not (has-none p)

-- all 64 persons alone: classes by no sets
pub alone_classes : (classes : List ℕ) → Alone (2 ^ 64 - 1) classes → ClassesBy (2 ^ 64 - 1) [] classes
unfolding all_of
alone_classes classes a = record {
  few = omega arith;
  inside = refl;
  at = λ p h. a.at p ∙ ap (λ (b : Bool). only b (one p)) h ∙ sym (close_same [] (one p) tt);
}

-- ---- the classes of all persons by the first sets of a list

-- one set more, of a u64
pub classes-next : (sets before after : List ℕ) (i : ℕ) → i < length sets → get_or sets i 0 < 2 ^ 64 → Joins (get_or sets i 0 ∷ []) before after
    → ClassesBy (2 ^ 64 - 1) (take i sets) before → ClassesBy (2 ^ 64 - 1) (take (i + 1) sets) after
unfolding all_of
classes-next sets before after i l b j by =
    subst (λ (xs : List ℕ). ClassesBy (2 ^ 64 - 1) xs after) (sym (ap (λ (k : ℕ). take k sets) (add-one i) ∙ take-suc sets i 0 l))
    (j.classes (2 ^ 64 - 1) (take i sets) (ap (λ (t : Bool). t && true) (within-subset s (2 ^ 64 - 1) (record { at = λ p h. everyone p (under p h) }))) by)
  where
    s : ℕ
    s = get_or sets i 0

    under : (p : ℕ) → has s p ≡ true → p < 64
    under p h = ⊎_elim (λ k. k) (λ k. absurd (true≢false (sym h ∙ has_high 64 s p b k))) (lt_or_le p 64)

pub classes_end : (sets classes : List ℕ) (i : ℕ) → length sets ≤ i → ClassesBy (2 ^ 64 - 1) (take i sets) classes → (p : ℕ) → p < 64 → entry classes p ≡ close_of sets (one p)
classes_end sets classes i l by p k = by.at p (everyone p k) ∙ ap (λ (xs : List ℕ). close_of xs (one p)) (take_all i sets l)

-- ---- the pairs of edges

-- a turn of the loop, which is at t and leaves r of m
pub pairs_next : (pairs : List ℕ) (within m t r : ℕ) {a b last : List ℕ} → members m ≡ lowest m ∷ members r → t ≡ lowest m → Joins (joinable pairs within t ∷ []) a b
    → Joins (map (joinable pairs within) (members r)) b last → Joins (map (joinable pairs within) (members m)) a last
pairs_next pairs within m t r {a} {b} {last} e k j js =
    subst (λ (xs : List ℕ). Joins (map (joinable pairs within) xs) a last) (sym (e ∙ ap (λ (x : ℕ). x ∷ members r) (sym k)))
    (joins-next (joinable pairs within t ∷ []) (map (joinable pairs within) (members r)) a b last j js)

pub pairs_end : (pairs : List ℕ) (within m : ℕ) (classes : List ℕ) → m ≡ 0 → Joins (map (joinable pairs within) (members m)) classes classes
pairs_end pairs within m classes e = subst (λ (xs : List ℕ). Joins (map (joinable pairs within) xs) classes classes) (sym (members-none m e)) (joins-none classes)

-- an edge whose pair lies within the set, and one whose pair does not
pub pair-joined : (pairs : List ℕ) (within t : ℕ) {a b : List ℕ} → subset (entry pairs t) within ≡ true → Joins (entry pairs t ∷ []) a b → Joins (joinable pairs within t ∷ []) a b
pair-joined pairs within t e j = rw e j

pub pair_left : (pairs : List ℕ) (within t : ℕ) (a : List ℕ) → subset (entry pairs t) within ≡ false → Joins (joinable pairs within t ∷ []) a a
pair_left pairs within t a e = joins_nobody (joinable pairs within t) a (rw e)
