-- A pass over records that is left at the first fault, from where it has come to.
use mathlib.Core.Path.{◌≡◌, refl, sym, ap, ◌∙◌}
use mathlib.Core.Bool.{Bool, true, false}
use mathlib.Core.List.{List, [], ◌∷◌, ◌++◌, map}
use Prim.Native.Nat.{ℕ, zero, suc, ◌+◌, ◌≤◌, ◌<◌}
use native.Mathlib.Omega.{arith}
use lib.ListN.{length, get_or, take, drop, length-map}
use Rattle.records.specs.paper.Fields.{fault, Verdict, fine, first_fault}
use Rattle.records.specs.paper.Plan as paper
use Rattle.records.specs.code.Decoded.{node_of}
use Rattle.records.specs.code.Check.{checked_of}
use Rattle.records.specs.declared.plan.Node.{Node}
use Rattle.records.specs.declared.checked.Checked.{Checked}
use Rattle.records.specs.declared.checked.Checked.TheVariants.{Accepted, Refused}
use Rattle.records.proofs.ListLaws.{get_or_mapped, get_d_front, fault_goes, fault_stops, fault-ends}
use Rattle.records.proofs.NamingLaws.{length-each, get_or-each}
use Rattle.records.proofs.CheckLaws.{or_else, fault_then, refused-stands, accepted_passes}

module _ {A : Type 0} (first : ℕ) (fs : List ℕ) (a : A) where
  -- what is still to be said is what the pass says from its start
  abbrev pub NoneYet : ℕ → Type 0
  NoneYet k = first_fault (first + k) (drop k fs) (fine a) ≡ first_fault first fs (fine a)

  pub none_yet : NoneYet 0
  none_yet = ap (λ (i : ℕ). first_fault i fs (fine a)) (omega arith)

  module _ (k : ℕ) (g : NoneYet k) where
    pub faulty : {b : Bool} → k < length fs → fault 4 b ≡ get_or fs k 0 → b ≡ false → Refused 4 (first + k) ≡ checked_of (first_fault first fs (fine a))
    unfolding checked_of
    faulty h t e = ap checked_of (fault_stops first fs k 3 (fine a) (first_fault first fs (fine a)) h (ap (fault 4) (sym e) ∙ t) g)

    pub sound : {b : Bool} → k < length fs → fault 4 b ≡ get_or fs k 0 → b ≡ true → NoneYet (k + 1)
    sound h t e = fault_goes first fs k (fine a) (first_fault first fs (fine a)) h (ap (fault 4) (sym e) ∙ t) g

    pub ends : length fs ≤ k → Accepted ≡ checked_of (first_fault first fs (fine a))
    unfolding checked_of
    ends h = ap checked_of (fault-ends first fs k (fine a) (first_fault first fs (fine a)) h g)

-- ---- the items of a list

module _ {B C : Type 0} (ok : B → Bool) (ys : List B) (first : ℕ) (a : C) (k : ℕ) (g : NoneYet first (paper.faults 4 ok ys) a k) where
  long : length (paper.faults 4 ok ys) ≡ length ys
  long = length-map ys (λ x. fault 4 (ok x))

  module _ (y d : B) (e : get_or ys k d ≡ y) (l : k < length ys) where
    its : fault 4 (ok y) ≡ get_or (paper.faults 4 ok ys) k 0
    its = sym (get_or_mapped (λ x. fault 4 (ok x)) ys k d 0 l ∙ ap (λ x. fault 4 (ok x)) e)

    pub item_faulty : ok y ≡ false → Refused 4 (first + k) ≡ checked_of (first_fault first (paper.faults 4 ok ys) (fine a))
    item_faulty z = faulty first (paper.faults 4 ok ys) a k g (omega (arith, long)) its z

    pub item-sound : ok y ≡ true → NoneYet first (paper.faults 4 ok ys) a (k + 1)
    item-sound z = sound first (paper.faults 4 ok ys) a k g (omega (arith, long)) its z

  pub items_end : length ys ≤ k → Accepted ≡ checked_of (first_fault first (paper.faults 4 ok ys) (fine a))
  items_end l = ends first (paper.faults 4 ok ys) a k g (omega (arith, long))

-- records that are made from the first n of an array
module _ {A B C : Type 0} (ok : B → Bool) (f : A → B) (xs : List A) (n m : ℕ) (long : m ≡ length (map f (take n xs))) (first : ℕ) (a : C) (k : ℕ) (g : NoneYet first (paper.faults 4 ok (map f (take n xs))) a k) where
  abbrev ys : List B
  ys = map f (take n xs)

  pub one_faulty : (d : A) → k < m → ok (f (get_or xs k d)) ≡ false → Refused 4 (first + k) ≡ checked_of (first_fault first (paper.faults 4 ok ys) (fine a))
  one_faulty d l e = let u : k < length ys = omega (arith, long) in item_faulty ok ys first a k g (f (get_or xs k d)) (f d) (get_d_front f xs n k d (f d) u) u e

  pub one-sound : (d : A) → k < m → ok (f (get_or xs k d)) ≡ true → NoneYet first (paper.faults 4 ok ys) a (k + 1)
  one-sound d l e = let u : k < length ys = omega (arith, long) in item-sound ok ys first a k g (f (get_or xs k d)) (f d) (get_d_front f xs n k d (f d) u) u e

  pub none_left : m ≤ k → Accepted ≡ checked_of (first_fault first (paper.faults 4 ok ys) (fine a))
  none_left l = items_end ok ys first a k g (omega (arith, long))

-- ---- nodes, whose fault hangs on their number

module _ (P : paper.Plan) (xs : List Node) (n m : ℕ) (long : m ≡ length (map node_of (take n xs))) (first k : ℕ) where
  abbrev test : ℕ → paper.Node → ℕ
  test k x = fault 4 (paper.node_sound P k x)

  abbrev nodes : List ℕ
  nodes = paper.each_from test 0 (map node_of (take n xs))

  module _ (g : NoneYet first nodes P k) where
    all_nodes : length nodes ≡ m
    all_nodes = length-each test 0 (map node_of (take n xs)) ∙ sym long

    this : (d : Node) → k < m → fault 4 (paper.node_sound P k (node_of (get_or xs k d))) ≡ get_or nodes k 0
    this d l =
        let u : k < length (map node_of (take n xs)) = omega (arith, long) in
        let z : 0 + k ≡ k = omega arith in
        sym (get_or-each test 0 k (map node_of (take n xs)) (node_of d) 0 u ∙ ap (λ (j : ℕ). test j (get_or (map node_of (take n xs)) k (node_of d))) z ∙ ap (test k) (get_d_front node_of xs n k d (node_of d) u))

    pub node_faulty : (d : Node) → k < m → paper.node_sound P k (node_of (get_or xs k d)) ≡ false → Refused 4 (first + k) ≡ checked_of (first_fault first nodes (fine P))
    node_faulty d l e = faulty first nodes P k g (omega (arith, all_nodes)) (this d l) e

    pub node_goes : (d : Node) → k < m → paper.node_sound P k (node_of (get_or xs k d)) ≡ true → NoneYet first nodes P (k + 1)
    node_goes d l e = sound first nodes P k g (omega (arith, all_nodes)) (this d l) e

    pub no_node_left : m ≤ k → Accepted ≡ checked_of (first_fault first nodes (fine P))
    no_node_left l = ends first nodes P k g (omega (arith, all_nodes))

-- ---- one kind's faults, then those of the kinds after it

fault_append : {A : Type 0} (k : ℕ) (fs gs : List ℕ) (v : Verdict A) → first_fault k (fs ++ gs) v ≡ first_fault k fs (first_fault (k + length fs) gs v)
unfolding first_fault
fault_append k [] gs v = ap (λ (i : ℕ). first_fault i gs v) (omega arith)
fault_append k (zero ∷ fs) gs v = fault_append (k + 1) fs gs v ∙ ap (λ (i : ℕ). first_fault (k + 1) fs (first_fault i gs v)) (omega arith)
fault_append k (suc n ∷ fs) gs v = refl

module _ {A : Type 0} (k next : ℕ) (fs gs : List ℕ) (a : A) (r : Checked) (e : next ≡ k + length fs) (is : r ≡ checked_of (first_fault k fs (fine a))) where
  joined : or_else r (checked_of (first_fault next gs (fine a))) ≡ checked_of (first_fault k (fs ++ gs) (fine a))
  joined =
      ap (λ x. or_else x (checked_of (first_fault next gs (fine a)))) is ∙ fault_then k fs a (first_fault next gs (fine a))
      ∙ ap (λ (i : ℕ). checked_of (first_fault k fs (first_fault i gs (fine a)))) e ∙ ap checked_of (sym (fault_append k fs gs (fine a)))

  pub kind-refused : {n j : ℕ} → r ≡ Refused n j → r ≡ checked_of (first_fault k (fs ++ gs) (fine a))
  kind-refused h = refused-stands r (checked_of (first_fault next gs (fine a))) h ∙ joined

  pub kind_passed : {s : Checked} → r ≡ Accepted → s ≡ checked_of (first_fault next gs (fine a)) → s ≡ checked_of (first_fault k (fs ++ gs) (fine a))
  kind_passed h z = z ∙ accepted_passes r (checked_of (first_fault next gs (fine a))) h ∙ joined
