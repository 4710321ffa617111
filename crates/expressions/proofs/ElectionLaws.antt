-- Laws of the elections on a fact: the first of them, record by record.
use mathlib.Core.Path.{◌≡◌, refl, sym, ap, ap₂, ◌∙◌, subst}
use mathlib.Core.Bool.{Bool, true, false, cond}
use mathlib.Core.List.{List, [], ◌∷◌, ◌++◌, map, map-map, flat_map, append_assoc}
use mathlib.Core.Logic.{◌⊎◌, ⊎_elim}
use Prim.Native.Nat.{ℕ, ◌+◌, ◌-◌, ◌≤◌, ◌<◌, min}
use native.Mathlib.Omega.{arith}
use lib.ListN.{length, get_or, take, drop, set, length-set}
use lib.Dec.{eqb}
use borrow.Author.Tests.{eq-eqb, ne_eqb, eqb-true, eqb-false}
use Rattle.records.specs.paper.Plan as paper
use Rattle.records.specs.code.Decoded.{if_given, no_election, cut_of, attachment_of, election_of, cuts_of, attachments_of}
use Rattle.records.specs.declared.plan.Election.{Election}
use Rattle.records.specs.declared.plan.Cuts.{Cuts}
use Rattle.records.specs.declared.plan.Attachments.{Attachments}
use Rattle.expressions.specs.paper.Bindings.{elections, elections_in, default_of}
use Rattle.records.proofs.UsedLaws.{flat_append}
use Rattle.expressions.proofs.ListLaws.{changed_at}
use Rattle.expressions.proofs.Rests.{made-next, made_none}

-- one record more: its election if it is on the fact
election-here : (f : ℕ) (e : Election) (ess : List (List paper.Election)) → e.given ≡ true → e.fact ≡ f
    → elections_in (election_of e ∷ ess) f ≡ election_of e ++ elections_in ess f
unfolding elections_in election_of flat_map
election-here f e ess g k = rw (g, eq-eqb e.fact f k)

election_other : (f : ℕ) (e : Election) (ess : List (List paper.Election)) → (e.fact ≡ f → ⊥) → elections_in (election_of e ∷ ess) f ≡ elections_in ess f
unfolding elections_in election_of flat_map
election_other f e ess k = pick e.given
  where
    pick : (g : Bool) → flat_map (λ x. cond (eqb x.fact f) (x ∷ []) []) (cond g (record { fact = e.fact; actor = e.actor; policy = e.policy; citation = e.citation } ∷ []) []) ++ elections_in ess f
        ≡ elections_in ess f
    pick true = rw (ne_eqb e.fact f k)
    pick false = refl

election-none : (f : ℕ) (e : Election) (ess : List (List paper.Election)) → e.given ≡ false → elections_in (election_of e ∷ ess) f ≡ elections_in ess f
unfolding elections_in election_of flat_map
election-none f e ess g = rw g

first-given : (e : Election) (ess : List paper.Election) → e.given ≡ true → take 1 (election_of e ++ ess) ≡ election_of e
unfolding election_of
first-given e ess g = rw g

-- ---- the table of first elections, from the last record to the first

one-election : (e : Election) → take 1 (election_of e) ≡ election_of e
unfolding election_of
one-election e = pick e.given
  where
    pick : (g : Bool) → take {A = paper.Election} 1 (if_given g (record { fact = e.fact; actor = e.actor; policy = e.policy; citation = e.citation }))
        ≡ if_given g (record { fact = e.fact; actor = e.actor; policy = e.policy; citation = e.citation })
    pick true = refl
    pick false = refl

module _ {A : Type 0} (e : A → Election) (items : List A) (n : ℕ) where
  -- the first election from record i on, else x
  abbrev pub elected_over : ℕ → Election → ℕ → List paper.Election
  elected_over f x i = take 1 (elections_in (drop i (map (λ a. election_of (e a)) (take n items))) f ++ election_of x)

  module _ (f i : ℕ) (x : Election) (d : A) (h : i < min n (length items)) where
    abbrev here : Election
    here = e (get_or items i d)

    abbrev rest : List (List paper.Election)
    rest = drop (i + 1) (map (λ a. election_of (e a)) (take n items))

    over-next : elected_over f x i ≡ take 1 (elections_in (election_of here ∷ rest) f ++ election_of x)
    over-next = ap (λ (ess : List (List paper.Election)). take 1 (elections_in ess f ++ election_of x)) (made-next (λ a. election_of (e a)) items n i d h)

    over-here : here.given ≡ true → here.fact ≡ f → election_of here ≡ elected_over f x i
    over-here g k =
        sym (over-next ∙ ap (λ (es : List paper.Election). take 1 (es ++ election_of x)) (election-here f here rest g k)
        ∙ ap (take 1) (append_assoc (election_of here) (elections_in rest f) (election_of x)) ∙ first-given here (elections_in rest f ++ election_of x) g)

    over_other : (here.fact ≡ f → ⊥) → elected_over f x (i + 1) ≡ elected_over f x i
    over_other k = sym (over-next ∙ ap (λ (es : List paper.Election). take 1 (es ++ election_of x)) (election_other f here rest k))

    over-not : here.given ≡ false → elected_over f x (i + 1) ≡ elected_over f x i
    over-not g = sym (over-next ∙ ap (λ (es : List paper.Election). take 1 (es ++ election_of x)) (election-none f here rest g))

  -- the table where the records from i on are passed: what they elect, else what was there
  pub record Electing (most : ℕ) (old table : List Election) (i : ℕ) : Type 0 where
    pub long : length items ≡ most
    pub room : length table ≡ 64
    pub few : i ≤ min n most
    pub first : (f : ℕ) → f < 64 → election_of (get_or table f no_election) ≡ elected_over f (get_or old f no_election) i

  pub electing_none : (most : ℕ) (old : List Election) (i : ℕ) → length items ≡ most → length old ≡ 64 → i ≡ min n most → Electing most old old i
  unfolding elections_in flat_map
  electing_none most old i long room k = record {
    long = long;
    room = room;
    few = omega arith;
    first = λ f h. sym (one-election (get_or old f no_election))
        ∙ sym (ap (λ (ess : List (List paper.Election)). take 1 (elections_in ess f ++ election_of (get_or old f no_election))) (made_none (λ a. election_of (e a)) items n i (omega arith)));
  }

  module _ {most : ℕ} {old table : List Election} {j : ℕ} (w : Electing most old table j) (more : 0 < j) (d : A) where
    abbrev last : Election
    last = e (get_or items (j - 1) d)

    below : j - 1 < min n (length items)
    below = omega (arith, w.long, w.few)

    was : (f : ℕ) → f < 64 → election_of (get_or table f no_election) ≡ elected_over f (get_or old f no_election) (j - 1 + 1)
    was f h = let k : j ≡ j - 1 + 1 = omega arith in subst (λ (i : ℕ). election_of (get_or table f no_election) ≡ elected_over f (get_or old f no_election) i) k (w.first f h)

    -- the last record's election stored under its fact
    pub electing_stored : (g : ℕ) → g ≡ last.fact → g < 64 → last.given ≡ true → Electing most old (set table g last) (j - 1)
    electing_stored g same small y = record {
      long = w.long;
      room = length-set table g last ∙ w.room;
      few = omega (arith, w.few);
      first = λ f h. ap election_of (changed_at table g f (λ (x : Election). last) last no_election (omega (arith, w.room)) refl) ∙ pick f h (eqb g f) refl;
    }
      where
        pick : (f : ℕ) → f < 64 → (b : Bool) → eqb g f ≡ b → election_of (cond b last (get_or table f no_election)) ≡ elected_over f (get_or old f no_election) (j - 1)
        pick f h true k = over-here f (j - 1) (get_or old f no_election) d below y (sym same ∙ eqb-true g f k)
        pick f h false k = was f h ∙ over_other f (j - 1) (get_or old f no_election) d below (λ q. eqb-false g f k (same ∙ q))

    -- none, or one on a fact without a place
    pub electing_kept : ((f : ℕ) → f < 64 → last.given ≡ false ⊎ (last.fact ≡ f → ⊥)) → Electing most old table (j - 1)
    electing_kept off = record {
      long = w.long;
      room = w.room;
      few = omega (arith, w.few);
      first = λ f h. was f h ∙ ⊎_elim (over-not f (j - 1) (get_or old f no_election) d below) (over_other f (j - 1) (get_or old f no_election) d below) (off f h);
    }

-- ---- cuts, then attachments

elections_append : (xs ys : List (List paper.Election)) (f : ℕ) → elections_in (xs ++ ys) f ≡ elections_in xs f ++ elections_in ys f
unfolding elections_in
elections_append xs ys f = flat_append (λ es. flat_map (λ e. cond (eqb e.fact f) (e ∷ []) []) es) xs ys

pub elections_of : (P : paper.Plan) (cs : Cuts) (ts : Attachments) (f : ℕ) → P.cuts ≡ cuts_of cs → P.attachments ≡ attachments_of ts
    → elections P f
    ≡ elections_in (map (λ c. election_of c.election) (take cs.count cs.items)) f
    ++ elections_in (map (λ a. election_of a.election) (take ts.count ts.items)) f
unfolding elections cut_of attachment_of
elections_of P cs ts f k l =
    ap (λ (ess : List (List paper.Election)). elections_in ess f)
    (ap₂ ◌++◌ (ap (map (λ c. c.election)) k ∙ map-map (λ c. c.election) cut_of (take cs.count cs.items))
    (ap (map (λ a. a.election)) l ∙ map-map (λ a. a.election) attachment_of (take ts.count ts.items)))
    ∙ elections_append (map (λ c. election_of c.election) (take cs.count cs.items)) (map (λ a. election_of a.election) (take ts.count ts.items)) f

-- the first of those of the cuts and of the attachments, where these have the first of theirs
pub first_of_both : (xs ys : List paper.Election) → take 1 (xs ++ take 1 ys) ≡ take 1 (xs ++ ys)
first_of_both [] [] = refl
first_of_both [] (y ∷ ys) = refl
first_of_both (x ∷ xs) ys = refl

-- the first election has the default
pub default-first : (es : List paper.Election) → default_of (take 1 es) ≡ default_of es
unfolding default_of
default-first [] = refl
default-first (e ∷ es) = refl
