-- The component of a person, grown by those to whom its persons are led; and the components that are at discretion, each at one person.
use mathlib.Core.Path.{◌≡◌, refl, sym, ap, ◌∙◌, subst, fun_ext}
use mathlib.Core.Bool.{true, false}
use mathlib.Core.Logic.{◌⊎◌, inl, inr, ⊎_elim}
use mathlib.Core.List.{List, map}
use Prim.Native.Nat.{ℕ, ◌≤◌, ◌<◌, ◌^◌}
use native.Mathlib.Omega.{arith}
use lib.Bits.{bit_or, or_add_and, and_comm, and_le_l}
use Rattle.sets.specs.paper.Sets.{has, one, union, only, union_of, members, all_of, subset}
use Rattle.sets.proofs.SetLaws.{Within, has-none, antisym, along, in_union_l, in_union_r, of_union}
use Rattle.sets.proofs.Closing.{Closed, close_closed, close_within, close_least, in_one, one-within}
use Rattle.sets.proofs.BelowLaws.{of_only, in_only}
use Rattle.sets.proofs.Local.{which, clash}
use Rattle.worlds.specs.code.Over.{entry}
use Rattle.worlds.specs.code.Discretion.{near, loose_by, joined_to, Leads, Component, Heads, HeadsBy, Renewed, LooseParts}
use Rattle.sets.proofs.TurnLaws.{union-has, has-union_of}
use Rattle.worlds.proofs.ClassLaws.{closed-inside}
use Rattle.worlds.proofs.FirstBlocks.{close_class}
use Rattle.worlds.proofs.LooseLaws.{one_tight, close_alone, pairs-inside, Shared}
use Rattle.worlds.proofs.DiscretionLaws.{closed-members, members-closed}

-- a union is no smaller number
pub or_grows : (a b : ℕ) → a ≤ bit_or a b
or_grows a b = let x = or_add_and a b in let y = and_le_l b a in let z = and_comm a b in omega arith

module _ (lead pairs : List ℕ) (edges : ℕ) (L : Leads lead pairs edges) where
  abbrev sets : List ℕ
  sets = map (entry pairs) (members edges)

  -- a closed set holds all to whom its persons are led
  led_inside : (m : ℕ) → Closed sets m → (q r : ℕ) → has m q ≡ true → has (entry lead q) r ≡ true → has m r ≡ true
  unfolding near
  led_inside m c q r h k =
      let w = union-has (λ e. only (has (entry pairs e) q) (entry pairs e)) edges r L.few (ap (λ (x : ℕ). has x r) (sym (L.at q)) ∙ k) in
      let o = of_only (has (entry pairs w.0) q) (entry pairs w.0) r w.2 in
      (closed-members (entry pairs) edges m w.0 L.few c w.1 q o.0 h).at r o.1

  -- and a set that holds them is closed
  led_closed : (m : ℕ) → ((q r : ℕ) → has m q ≡ true → has (entry lead q) r ≡ true → has m r ≡ true) → Closed sets m
  unfolding near
  led_closed m h = members-closed (entry pairs) edges m L.few (λ e k q x y. record {
    at = λ r z. h q r y (ap (λ (x : ℕ). has x r) (L.at q)
        ∙ has-union_of (λ e. only (has (entry pairs e) q) (entry pairs e)) edges e r L.few k ((in_only (has (entry pairs e) q) (entry pairs e) x).at r z));
  })

-- the part of a person's component that is found so far
pub record Grown (lead : List ℕ) (p part : ℕ) : Type 0 where
  pub self : has part p ≡ true
  pub inside : (pairs : List ℕ) (edges : ℕ) → Leads lead pairs edges → Within part (joined_to pairs edges p)

module _ (lead : List ℕ) (p : ℕ) where
  pub grown_one : (part : ℕ) → part ≡ one p → Grown lead p part
  grown_one part e = subst (Grown lead p) (sym e) (record { self = in_one p; inside = λ pairs edges L. close_within (map (entry pairs) (members edges)) (one p) })

  module _ (part more : ℕ) (few : part < 2 ^ 64) (is : more ≡ union_of (entry lead) (members part)) (g : Grown lead p part) where
    pub grown_more : Grown lead p (union part more)
    grown_more = record {
      self = (in_union_l part more).at p g.self;
      inside = λ pairs edges L. record {
        at = λ r h. ⊎_elim (λ x. (g.inside pairs edges L).at r x)
            (λ x.
            let w = union-has (entry lead) part r few (ap (λ (y : ℕ). has y r) (sym is) ∙ x) in
            led_inside lead pairs edges L (joined_to pairs edges p) (close_closed (map (entry pairs) (members edges)) (one p)) w.0 r ((g.inside pairs edges L).at w.0 w.1) w.2)
            (of_union part more r h);
      };
    }

    -- nothing is added: it is the whole
    pub grown_all : union part more ≡ part → Component lead p part
    grown_all e = record {
      at = λ pairs edges L.
          antisym part (joined_to pairs edges p) (g.inside pairs edges L)
          (close_least (map (entry pairs) (members edges)) (one p) part (one-within p part g.self) (led_closed lead pairs edges L part (λ q r h k.
          ap (λ (x : ℕ). has x r) (sym e) ∙ (in_union_r part more).at r (ap (λ (x : ℕ). has x r) is ∙ has-union_of (entry lead) part q r few h k))));
    }

-- ---- a table in which some heads got another component

pub renewed-none : (parts : List ℕ) → Renewed 0 0 parts parts
renewed-none parts = record { among = λ p h. clash h (has-none p); kept = λ p h. refl }

-- the same by other names
pub renewed_as : {heads found fresh more : ℕ} {before parts last : List ℕ} → heads ≡ found → fresh ≡ more → parts ≡ last → Renewed found more before last
    → Renewed heads fresh before parts
renewed_as {heads} {found} {fresh} {more} {before} {parts} {last} a b c R =
    subst (λ (x : ℕ). Renewed x fresh before parts) (sym a) (subst (λ (x : ℕ). Renewed found x before parts) (sym b) (subst (Renewed found more before) (sym c) R))

module _ (heads fresh t : ℕ) (before parts : List ℕ) (R : Renewed heads fresh before parts) where
  -- a head whose component stands in the table
  pub renewed-same : Renewed (union heads (one t)) fresh before parts
  renewed-same = record { among = λ p h. (in_union_l heads (one t)).at p (R.among p h); kept = R.kept }

  pub renewed-more : (last : List ℕ) → ((p : ℕ) → (p ≡ t → ⊥) → entry last p ≡ entry parts p) → Renewed (union heads (one t)) (union fresh (one t)) before last
  renewed-more last same = record {
    among = λ p h. ⊎_elim (λ x. (in_union_l heads (one t)).at p (R.among p x)) (λ x. (in_union_r heads (one t)).at p x) (of_union fresh (one t) p h);
    kept = λ p h. same p (λ e. clash ((in_union_r fresh (one t)).at p (ap (has (one t)) e ∙ in_one t)) h)
        ∙ R.kept p (⊎_elim (λ x. absurd (out p h x)) (λ x. x) (which (has fresh p)));
  }
    where
      out : (p : ℕ) → has (union fresh (one t)) p ≡ false → has fresh p ≡ true → ⊥
      out p h x = clash ((in_union_l fresh (one t)).at p x) h

-- ---- the components by the pairs of some edges

pub heads-parts : (pairs : List ℕ) (edges persons : ℕ) (lead : List ℕ) (heads : ℕ) (parts : List ℕ) → Leads lead pairs edges → persons ≡ union_of (entry pairs) (members edges)
    → HeadsBy lead persons heads parts → LooseParts pairs edges heads parts
heads-parts pairs edges persons lead heads parts L u by = record {
  sound = λ p h.
      let s = hs.sound p h in
      (s.1, test (entry parts p) ∙ ap (loose_by (entry lead)) s.1 ∙ s.2);
  complete = λ p h. pick p h (which (has persons p));
}
  where
    sets : List ℕ
    sets = map (entry pairs) (members edges)

    hs : Heads (loose_by (entry lead)) persons (joined_to pairs edges) heads parts
    hs = by.at pairs edges L

    test : (m : ℕ) → loose_by (near pairs edges) m ≡ loose_by (entry lead) m
    test m = ap (λ (f : ℕ → ℕ). loose_by f m) (sym (fun_ext L.at))

    inside : all_of (λ s. subset s persons) (map (entry pairs) (members edges)) ≡ true
    inside = pairs-inside pairs persons (members edges) (along (sym u))

    shared : Shared persons (joined_to pairs edges)
    shared p q x y = (
      (close_least (map (entry pairs) (members edges)) (one p) persons (one-within p persons x) (closed-inside (map (entry pairs) (members edges)) persons inside)).at q y,
      close_class (map (entry pairs) (members edges)) p q y,
    )

    pick : (p : ℕ) → loose_by (near pairs edges) (joined_to pairs edges p) ≡ true → (has persons p ≡ true) ⊎ (has persons p ≡ false)
        → (h : ℕ) × (has heads h ≡ true) × (entry parts h ≡ joined_to pairs edges p)
    pick p h (inl e) = hs.complete shared p e (sym (test (joined_to pairs edges p)) ∙ h)
    pick p h (inr e) =
        clash h (ap (loose_by (near pairs edges)) (close_alone (map (entry pairs) (members edges)) persons p inside e) ∙ one_tight (near pairs edges) p)
