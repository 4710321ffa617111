-- The list that is written from the sets rises: kinds one after another, and in each kind the rules.
use mathlib.Core.Path.{◌≡◌, refl, ap, ◌∙◌}
use mathlib.Core.Bool.{Bool, true, false, cond}
use mathlib.Core.List.{List, [], ◌∷◌, ◌++◌, map, flat_map}
use mathlib.Core.Logic.{◌⊎◌, inl, inr}
use Prim.Native.Nat.{ℕ, zero, suc, ◌<◌, ◌≤◌}
use native.Mathlib.Nat.{not-suc-le-zero}
use native.Mathlib.Omega.{arith}
use Rattle.sets.specs.paper.Sets.{has, numbers, lex_less, All}
use Rattle.records.specs.paper.Plan.{Plan}
use Rattle.records.specs.paper.Case.{Case}
use Rattle.sets.proofs.LoopLaws.{all_append}
use Rattle.page.specs.Little.{little_bytes}
use Rattle.worlds.specs.paper.Events.{event, listed}
use Rattle.report.specs.code.Happened.{Rises, frozen_over, applied_over, blocked_over, overlap_over, attachment_over, bar_over, status_over, default_over, discretion_over, happened}
use Rattle.report.proofs.AmongLaws.{Among, each_all, of_both, of_flat, of_map, of_numbers, of_if, of_listed}
use Rattle.report.proofs.RisingSet.{less_head, less_tail}

-- ---- lists that rise, joined

pub join_rises : (es fs : List (List ℕ)) → Rises es → Rises fs → ((e f : List ℕ) → Among e es → Among f fs → lex_less e f ≡ true) → Rises (es ++ fs)
join_rises [] fs r s h = s
join_rises (e ∷ es) fs r s h = (
  all_append (λ f. lex_less e f ≡ true) es fs r.0 (each_all (λ f. lex_less e f ≡ true) fs (λ f k. h e f (inl refl) k)),
  join_rises es fs r.1 s (λ d f j k. h d f (inr j) k),
)

-- what the numbers from k on give, each before all of the later ones
flat_rises : (f : ℕ → List (List ℕ)) (n k : ℕ) → ((i : ℕ) → Rises (f i))
    → ((i j : ℕ) → i < j → (d e : List ℕ) → Among d (f i) → Among e (f j) → lex_less d e ≡ true) → Rises (flat_map f (numbers n k))
unfolding flat_map numbers
flat_rises f zero k each h = tt
flat_rises f (suc n) k each h =
    join_rises (f k) (flat_map f (numbers n (suc k))) (each k) (flat_rises f n (suc k) each h)
    (λ d e j m. let r = of_flat f (numbers n (suc k)) e m in h k r.0 (of_numbers n (suc k) r.0 r.1).0 d e j r.2)

if_rises : (b : Bool) (e : List ℕ) → Rises (cond b (e ∷ []) [])
if_rises true e = (tt, tt)
if_rises false e = tt

-- two equations of events
less_as : (a b d e : List ℕ) → d ≡ a → e ≡ b → lex_less a b ≡ true → lex_less d e ≡ true
less_as a b d e p q h = ap (λ x. lex_less x e) p ∙ ap (lex_less a) q ∙ h

listed-rises : (n : ℕ) (test : ℕ → Bool) (make : ℕ → List ℕ) → ((i j : ℕ) → i < j → lex_less (make i) (make j) ≡ true) → Rises (listed n test make)
unfolding listed
listed-rises n test make h =
    flat_rises (λ i. cond (test i) (make i ∷ []) []) n 0 (λ i. if_rises (test i) (make i))
    (λ i j l d e p q. less_as (make i) (make j) d e (of_if (test i) (make i) d p).1 (of_if (test j) (make j) e q).1 (h i j l))

pairs-rise : (m n : ℕ) (test : ℕ → ℕ → Bool) (make : ℕ → ℕ → List ℕ) → ((c i j : ℕ) → i < j → lex_less (make c i) (make c j) ≡ true)
    → ((c d i j : ℕ) → c < d → lex_less (make c i) (make d j) ≡ true) → Rises (flat_map (λ c. listed n (test c) (make c)) (numbers m 0))
pairs-rise m n test make h k =
    flat_rises (λ c. listed n (test c) (make c)) m 0 (λ c. listed-rises n (test c) (make c) (h c))
    (λ b c l d e p q. let u = of_listed n (test b) (make b) d p in let v = of_listed n (test c) (make c) e q in
    less_as (make b u.0) (make c v.0) d e u.3 v.3 (k b c u.0 v.0 l))

-- ---- the order of events

by_first : (kind a a' b b' c c' m m' : ℕ) → a < a' → lex_less (event kind a b c m) (event kind a' b' c' m') ≡ true
unfolding event
by_first kind a a' b b' c c' m m' l = less_tail kind kind _ _ refl (less_head a a' _ _ l)

by_second : (kind a b b' c c' m m' : ℕ) → b < b' → lex_less (event kind a b c m) (event kind a b' c' m') ≡ true
unfolding event
by_second kind a b b' c c' m m' l = less_tail kind kind _ _ refl (less_tail a a _ _ refl (less_head b b' _ _ l))

by_mask : (kind a b c m m' : ℕ) → lex_less (little_bytes 8 m) (little_bytes 8 m') ≡ true → lex_less (event kind a b c m) (event kind a b c m') ≡ true
unfolding event
by_mask kind a b c m m' h = less_tail kind kind _ _ refl (less_tail a a _ _ refl (less_tail b b _ _ refl (less_tail c c _ _ refl h)))

-- an event's kind
kind_of : List ℕ → ℕ
kind_of [] = 0
kind_of (k ∷ e) = k

by_kind : (e f : List ℕ) → kind_of e < kind_of f → lex_less e f ≡ true
unfolding kind_of
by_kind [] [] l = absurd (not-suc-le-zero l)
by_kind [] (y ∷ f) l = (unfold lex_less in refl)
by_kind (x ∷ e) [] l = absurd (not-suc-le-zero l)
by_kind (x ∷ e) (y ∷ f) l = less_head x y e f l

-- ---- kinds one after another

record Kind (k : ℕ) (es : List (List ℕ)) : Type 0 where
  rises : Rises es
  only : (e : List ℕ) → Among e es → kind_of e ≡ k

record Kinds (k : ℕ) (es : List (List ℕ)) : Type 0 where
  rises : Rises es
  least : (e : List ℕ) → Among e es → k ≤ kind_of e

then : (k : ℕ) {es fs : List (List ℕ)} → Kind k es → Kinds (suc k) fs → Kinds k (es ++ fs)
then k {es} {fs} h t = record {
  rises = join_rises es fs h.rises t.rises (λ e f i j. let z = h.only e i in let l = t.least f j in by_kind e f (omega (arith, z, l)));
  least = λ e i. go e (of_both e es fs i);
}
  where
    go : (e : List ℕ) → Among e es ⊎ Among e fs → k ≤ kind_of e
    go e (inl i) = let z = h.only e i in omega arith
    go e (inr i) = let l = t.least e i in omega arith

kind-event : (kind a b c m : ℕ) → kind_of (event kind a b c m) ≡ kind
unfolding event kind_of
kind-event kind a b c m = refl

-- a kind that goes by rules
by_rule : (kind n : ℕ) (test : ℕ → Bool) (b c m : ℕ → ℕ) → Kind kind (listed n test (λ i. event kind i (b i) (c i) (m i)))
by_rule kind n test b c m = record {
  rises = listed-rises n test (λ i. event kind i (b i) (c i) (m i)) (λ i j l. by_first kind i j (b i) (b j) (c i) (c j) (m i) (m j) l);
  only = λ e k. let u = of_listed n test (λ i. event kind i (b i) (c i) (m i)) e k in ap kind_of u.3 ∙ kind-event kind u.0 (b u.0) (c u.0) (m u.0);
}

-- and by two rules
by_rules_lem : (kind n o : ℕ) (test : ℕ → ℕ → Bool) (c m : ℕ → ℕ) → Kind kind (flat_map (λ a. listed o (test a) (λ b. event kind a b (c a) (m a))) (numbers n 0))
by_rules_lem kind n o test c m = record {
  rises =
      pairs-rise n o test (λ a b. event kind a b (c a) (m a)) (λ a i j l. by_second kind a i j (c a) (c a) (m a) (m a) l)
      (λ a d i j l. by_first kind a d i j (c a) (c d) (m a) (m d) l);
  only = λ e k.
      let r = of_flat (λ a. listed o (test a) (λ b. event kind a b (c a) (m a))) (numbers n 0) e k in
      let u = of_listed o (test r.0) (λ b. event kind r.0 b (c r.0) (m r.0)) e r.2 in
      ap kind_of u.3 ∙ kind-event kind r.0 u.0 (c r.0) (m r.0);
}

masks-rise : (nines : List ℕ) → Rises (map (little_bytes 8) nines) → Rises (map (λ m. event 9 0 0 0 m) nines)
masks-rise [] r = tt
masks-rise (m ∷ ms) r = (all_masks ms r.0, masks-rise ms r.1)
  where
    all_masks : (ms : List ℕ) → All (λ f. lex_less (little_bytes 8 m) f ≡ true) (map (little_bytes 8) ms)
        → All (λ f. lex_less (event 9 0 0 0 m) f ≡ true) (map (λ m. event 9 0 0 0 m) ms)
    all_masks [] h = tt
    all_masks (n ∷ ms) h = (by_mask 9 0 0 0 m n h.0, all_masks ms h.1)

by_masks : (nines : List ℕ) → Rises (map (little_bytes 8) nines) → Kinds 9 (discretion_over nines)
unfolding discretion_over
by_masks nines r = record {
  rises = masks-rise nines r;
  least = λ e k. let u = of_map (λ m. event 9 0 0 0 m) nines e k in let z = ap kind_of u.2 ∙ kind-event 9 0 0 0 u.0 in omega (arith, z);
}

-- IT RISES, if the masks of kind 9 do as bytes
pub happened-rising : (P : Plan) (C : Case) (frozen applied : ℕ) (blockings clashes : ℕ → ℕ) (moved barring excluding defaults : ℕ) (nines : List ℕ)
    → Rises (map (little_bytes 8) nines) → Rises (happened P C frozen applied blockings clashes moved barring excluding defaults nines)
unfolding happened frozen_over applied_over blocked_over overlap_over attachment_over bar_over status_over default_over
happened-rising P C frozen applied blockings clashes moved barring excluding defaults nines r =
    let all = then 1 (by_rule 1 _ (has frozen) _ _ _)
    (then 2 (by_rule 2 _ (has applied) _ _ _)
    (then 3 (by_rules_lem 3 _ _ (λ c. has (blockings c)) _ _)
    (then 4 (by_rules_lem 4 _ _ (λ c. has (clashes c)) _ _)
    (then 5 (by_rule 5 _ (has moved) _ _ _)
    (then 6 (by_rule 6 _ (has barring) _ _ _)
    (then 7 (by_rule 7 _ (has excluding) _ _ _) (then 8 (by_rule 8 _ (has defaults) _ _ _) (by_masks nines r)))))))) in
    all.rises
