-- The fields of a plan's records: each fits its shape, and is read back as what it stands for.
use mathlib.Core.Path.{◌≡◌, refl, ap, subst}
use mathlib.Core.List.{List, [], ◌∷◌}
use Prim.Native.Nat.{ℕ, zero, suc, ◌*◌, ◌/◌, ◌%◌, ◌^◌, ◌≤◌, ◌<◌, zero-le}
use native.Mathlib.Nat.{pow-suc, div-one}
use native.Mathlib.Omega.{arith}
use lib.ListN.{length}
use lib.Dec.{ltb}
use borrow.Author.Tests.{ltb-true}
use Rattle.sets.specs.paper.Sets.{All}
use Rattle.sets.proofs.SetLaws.{and_parts}
use Rattle.records.specs.paper.Fields.{number, citation, up_to, Shape, byte, mask, election, list, repeat, little}
use Rattle.records.specs.paper.Plan.{Plan, Election, Decision, election_from, decisions_from}
use Rattle.records.specs.promises.Sound.{Numbers, SoundElection, SoundDecision}
use Rattle.records.proofs.FieldLaws.{In, Ranged}
use Rattle.page.specs.Little.{little_bytes}
use Rattle.encoding.specs.paper.Encoded.{some, election_bytes, decision_bytes}
use Rattle.encoding.proofs.RecordBack.{FieldFits, FitsIf}

-- ---- numbers and lists of them

in_upto : (top n : ℕ) → n < suc top → In (up_to top) n
in_upto top n l = (zero-le, omega arith)

pub number_fits : (top n : ℕ) → n < suc top → Ranged (up_to top ∷ []) (n ∷ [])
number_fits top n l = (in_upto top n l, tt)

pub given-fits : (f : Shape) (v : List ℕ) → FieldFits f v → FitsIf (some v) f v
given-fits f [] h = refl
given-fits f (b ∷ bs) h = h

-- entries of one byte each
entries : (top bound : ℕ) → bound ≤ suc top → (v : List ℕ) → All (λ n. n < bound) v → Ranged (repeat (length v) (up_to top ∷ [])) v
unfolding repeat
entries top bound l [] h = tt
entries top bound l (b ∷ bs) h = let x = h.0 in (in_upto top b (omega arith), entries top bound l bs h.1)

pub list-fits : (n top bound : ℕ) → bound ≤ suc top → (v : List ℕ) → Numbers n bound v → FieldFits (list n (up_to top ∷ [])) v
list-fits n top bound l v h = (length v, h.0, div-one (length v), entries top bound l v h.1)

-- none, or one byte
pub opt_fits : (top : ℕ) (v : List ℕ) → Numbers 1 (suc top) v → FitsIf (some v) (byte (up_to top)) v
opt_fits top [] h = refl
opt_fits top (b ∷ []) h = number_fits top b h.1.0
opt_fits top (b ∷ c ∷ bs) h = let l = h.0 in let z : length (b ∷ c ∷ bs) ≡ suc (suc (length bs)) = refl in absurd (omega arith)

-- ---- masks

little-fits : (n m : ℕ) → Ranged (repeat n (number ∷ [])) (little_bytes n m)
unfolding repeat little_bytes
little-fits zero m = tt
little-fits (suc n) m = (in_upto 255 (m % 256) (omega arith), little-fits n (m / 256))

pub mask_fits : (m : ℕ) → FieldFits mask (little_bytes 8 m)
unfolding repeat
mask_fits m = little-fits 8 m

pub little_back : (n m : ℕ) → m < 256 ^ n → little (little_bytes n m) ≡ m
unfolding little_bytes little
little_back zero m h = omega arith
little_back (suc n) m h =
    let less = subst (λ (x : ℕ). m < x) (pow-suc 256 n) h in
    let ih = little_back n (m / 256) (omega arith) in
    omega arith

-- ---- elections

pub election-fits : (P : Plan) → length P.facts ≤ 256 → (es : List Election) → All (SoundElection P) es → FitsIf (some (election_bytes es)) election (election_bytes es)
unfolding election_bytes
election-fits P l [] h = refl
election-fits P l (e ∷ es) h =
    let s = h.0 in
    let b = ltb-true e.fact (length P.facts) (and_parts (ltb e.fact (length P.facts)) _ s.fact).0 in
    let a = s.actor in let p = s.policy in let c = s.citation in
    (in_upto 255 e.fact (omega arith), ((a.0, omega (arith, a.1)), (in_upto 2 e.policy p, number_fits citation.top e.citation c)))

pub election_back : (es : List Election) → length es ≤ 1 → election_from (election_bytes es) ≡ es
unfolding election_bytes election_from
election_back [] l = refl
election_back (e ∷ []) l = refl
election_back (e ∷ f ∷ es) l = let z : length (e ∷ f ∷ es) ≡ suc (suc (length es)) = refl in absurd (omega arith)

-- ---- decisions

decision_entries : (P : Plan) → length P.edges ≤ 256 → (ds : List Decision) → All (SoundDecision P) ds
    → Ranged (repeat (length ds) (number ∷ record { low = 1; top = 3 } ∷ [])) (decision_bytes ds)
unfolding decision_bytes repeat
decision_entries P l [] h = tt
decision_entries P l (d ∷ ds) h =
    let e = h.0.edge in let v = h.0.verdict in
    (in_upto 255 d.edge (omega arith), ((v.0, omega (arith, v.1)), decision_entries P l ds h.1))

pub decisions-long : (ds : List Decision) → length (decision_bytes ds) ≡ 2 * length ds
unfolding decision_bytes
decisions-long [] = refl
decisions-long (d ∷ ds) = let h = decisions-long ds in let z : length (d ∷ ds) ≡ suc (length ds) = refl in let y : length (decision_bytes (d ∷ ds)) ≡ suc (suc (length (decision_bytes ds))) = refl in omega arith

pub decisions-fit : (P : Plan) → length P.edges ≤ 256 → (ds : List Decision) → length ds ≤ 64 → All (SoundDecision P) ds
    → FieldFits (list 64 (number ∷ record { low = 1; top = 3 } ∷ [])) (decision_bytes ds)
decisions-fit P l ds m h = (length ds, m, (let e = decisions-long ds in let z : length (decision_bytes ds) / 2 ≡ length ds = omega arith in z), decision_entries P l ds h)

pub decisions_back : (ds : List Decision) → decisions_from (decision_bytes ds) ≡ ds
unfolding decision_bytes decisions_from
decisions_back [] = refl
decisions_back (d ∷ ds) = ap (λ (r : List Decision). d ∷ r) (decisions_back ds)
