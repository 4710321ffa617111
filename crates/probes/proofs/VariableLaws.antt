-- The variables among what a world gives values to, as numbers, one after another.
use mathlib.Core.Path.{◌≡◌, refl, sym, ap, ap₂, ◌∙◌}
use mathlib.Core.Bool.{Bool, true, false, cond}
use mathlib.Core.List.{List, [], ◌∷◌, ◌++◌, map, flat_map, append_assoc, append-nil, map-append}
use Prim.Native.Nat.{ℕ, ◌+◌, ◌*◌, ◌-◌, ◌≤◌, ◌<◌}
use native.Mathlib.Numerals.{add-one}
use native.Mathlib.Omega.{arith}
use lib.Dec.{leb}
use lib.ListN.{length, get_or, take, get_or-map}
use lib.Seq.{take-suc}
use Rattle.records.specs.paper.Fields.{Verdict, fine, refused}
use Rattle.expressions.specs.paper.Bindings.{Bound, binding_at}
use Rattle.expressions.specs.paper.Variables.{Slot, fact, decision, choices, is_variable, slots}
use Rattle.expressions.specs.code.Codes.{bound_of}
use Rattle.expressions.specs.code.Slots.{slot_of, choice_code}
use Rattle.expressions.proofs.SlotLaws.{slot_fact, slot_decision, variable_from}
use Rattle.probes.specs.Entries.{Given, bindings_of, bound_in, slots_in, varies, varying, variable_code, variable_codes, variables_in}

-- ---- one of them, by its number

bound_at : (codes : List ℕ) (f : ℕ) → binding_at (map bound_of codes) f ≡ bound_of (get_or codes f 0)
unfolding bound_of
bound_at codes f = get_or-map bound_of codes f 0

decision_from : (n : ℕ) → 64 ≤ n → slot_of n ≡ decision (n - 64)
decision_from n h = ap slot_of (back n h) ∙ slot_decision (n - 64)
  where
    back : (n : ℕ) → 64 ≤ n → n ≡ 64 + (n - 64)
    back n h = omega arith

pub fact-varies : (codes : List ℕ) (n : ℕ) → n < 64 → leb 3 (get_or codes n 0) ≡ varies (map bound_of codes) (slot_of n)
fact-varies codes n h =
    sym (ap (varies (map bound_of codes)) (slot_fact n h) ∙ ap is_variable (bound_at codes n) ∙ variable_from (get_or codes n 0))

pub decision-varies : (bs : List Bound) (n : ℕ) → 64 ≤ n → true ≡ varies bs (slot_of n)
decision-varies bs n h = sym (ap (varies bs) (decision_from n h))

pub fact_code : (codes : List ℕ) (n : ℕ) → n < 64 → n + 256 * choice_code (choices (bound_of (get_or codes n 0))) ≡ variable_code (map bound_of codes) (slot_of n)
unfolding variable_code
fact_code codes n h =
    ap (λ (b : Bound). n + 256 * choice_code (choices b)) (sym (bound_at codes n)) ∙ ap (variable_code (map bound_of codes)) (sym (slot_fact n h))

pub decision_code : (bs : List Bound) (n : ℕ) → 64 ≤ n → n + 256 * 3 ≡ variable_code bs (slot_of n)
unfolding variable_code
decision_code bs n h = back n h ∙ ap (variable_code bs) (sym (decision_from n h))
  where
    back : (n : ℕ) → 64 ≤ n → n + 256 * 3 ≡ (64 + (n - 64)) + 256 * 3
    back n h = omega arith

-- ---- one more of a list

-- the number of one that is a variable, or none
abbrev own : List Bound → Slot → List ℕ
own bs s = cond (varies bs s) (variable_code bs s ∷ []) []

first_then : (bs : List Bound) (s : Slot) (ss : List Slot) → variable_codes bs (s ∷ ss) ≡ own bs s ++ variable_codes bs ss
unfolding variable_codes varying flat_map
first_then bs s ss = pick (varies bs s)
  where
    pick : (b : Bool) → map (variable_code bs) (cond b (s ∷ []) [] ++ varying bs ss) ≡ cond b (variable_code bs s ∷ []) [] ++ map (variable_code bs) (varying bs ss)
    pick true = refl
    pick false = refl

one_more : (bs : List Bound) (xs : List Slot) (s : Slot) → variable_codes bs (xs ++ (s ∷ [])) ≡ variable_codes bs xs ++ own bs s
unfolding variable_codes varying flat_map
one_more bs [] s = first_then bs s [] ∙ append-nil (own bs s)
one_more bs (x ∷ xs) s =
    first_then bs x (xs ++ (s ∷ [])) ∙ ap (λ (l : List ℕ). own bs x ++ l) (one_more bs xs s)
    ∙ sym (append_assoc (own bs x) (variable_codes bs xs) (own bs s)) ∙ ap (λ (l : List ℕ). l ++ own bs s) (sym (first_then bs x xs))

pub codes-next : (bs : List Bound) (items : List ℕ) (i : ℕ) (b : Bool) → i < length items → varies bs (slot_of (get_or items i 0)) ≡ b
    → variable_codes bs (map slot_of (take (i + 1) items)) ≡ variable_codes bs (map slot_of (take i items)) ++ cond b (variable_code bs (slot_of (get_or items i 0)) ∷ []) []
codes-next bs items i b h e =
    ap (λ (n : ℕ). variable_codes bs (map slot_of (take n items))) (add-one i)
    ∙ ap (λ (l : List ℕ). variable_codes bs (map slot_of l)) (take-suc items i 0 h)
    ∙ ap (variable_codes bs) (map-append slot_of (take i items) (get_or items i 0 ∷ []))
    ∙ one_more bs (map slot_of (take i items)) (slot_of (get_or items i 0))
    ∙ ap (λ (x : Bool). variable_codes bs (map slot_of (take i items)) ++ cond x (variable_code bs (slot_of (get_or items i 0)) ∷ []) []) e

-- ---- bindings that agree at every fact have the same variables

same_codes : (xs bs : List Bound) → ((f : ℕ) → binding_at xs f ≡ binding_at bs f) → (ss : List Slot) → variable_codes xs ss ≡ variable_codes bs ss
unfolding variable_codes varying flat_map variable_code
same_codes xs bs h [] = refl
same_codes xs bs h (s ∷ ss) =
    first_then xs s ss ∙ ap₂ (λ (l m : List ℕ). l ++ m) (same s) (same_codes xs bs h ss) ∙ sym (first_then bs s ss)
  where
    same : (s : Slot) → own xs s ≡ own bs s
    same (fact f) = ap (λ (b : Bound). cond (is_variable b) ((f + 256 * choice_code (choices b)) ∷ []) []) (h f)
    same (decision d) = refl

pub variables_in_lem : (v : Verdict Given) (codes : List ℕ) (order : List Slot) → ((f : ℕ) → bound_of (get_or codes f 0) ≡ bound_in f v) → order ≡ slots_in v
    → variable_codes (map bound_of codes) order ≡ variables_in v
unfolding variable_codes varying flat_map
variables_in_lem (fine g) codes order h e =
    ap (variable_codes (map bound_of codes)) e ∙ same_codes (map bound_of codes) (bindings_of g) (λ f. bound_at codes f ∙ h f) (slots g.plan)
variables_in_lem (refused n k) codes order h e = ap (variable_codes (map bound_of codes)) e
