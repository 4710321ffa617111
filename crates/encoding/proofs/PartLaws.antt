-- A record made from its fields, each with its bit: its bits, and that its fields fit if each does.
use mathlib.Core.Path.{◌≡◌, refl, sym, ap, subst}
use mathlib.Core.Bool.{Bool, true, false, cond}
use mathlib.Core.List.{List, [], ◌∷◌, map}
use Prim.Native.Nat.{ℕ, ◌+◌, ◌*◌, ◌/◌, ◌%◌, ◌^◌, ◌≤◌, ◌<◌, zero-le, suc-le-suc}
use native.Mathlib.Nat.{pow-suc, pow-le-pow_right}
use native.Mathlib.Omega.{arith}
use lib.ListN.{length}
use Rattle.sets.specs.paper.Sets.{odd}
use Rattle.records.specs.paper.Fields.{Shape}
use Rattle.encoding.specs.paper.Encoded.{Part, bits_of}
use Rattle.encoding.proofs.RecordBack.{FitsIf, FieldsFit}

abbrev pub PartsFit : List Shape → List Part → Type 0
PartsFit [] [] = Unit {0}
PartsFit [] (p ∷ ps) = ⊥
PartsFit (f ∷ fs) [] = ⊥
PartsFit (f ∷ fs) (p ∷ ps) = FitsIf p.stands f p.value × PartsFit fs ps

pub low_bit : (b : Bool) (n : ℕ) → odd ((cond b 1 0 + 2 * n) % 2) ≡ b
low_bit true n = ap odd (let e : (1 + 2 * n) % 2 ≡ 1 = omega arith in e)
low_bit false n = ap odd (let e : (0 + 2 * n) % 2 ≡ 0 = omega arith in e)

pub high_bits : (b : Bool) (n : ℕ) → (cond b 1 0 + 2 * n) / 2 ≡ n
high_bits true n = omega arith
high_bits false n = omega arith

pub parts-fit : (fs : List Shape) (ps : List Part) → PartsFit fs ps → FieldsFit (bits_of ps) fs (map (λ p. p.value) ps)
unfolding bits_of
parts-fit [] [] h = refl
parts-fit [] (p ∷ ps) h = absurd h
parts-fit (f ∷ fs) [] h = absurd h
parts-fit (f ∷ fs) (p ∷ ps) h = (
  subst (λ (b : Bool). FitsIf b f p.value) (sym (low_bit p.stands (bits_of ps))) h.0,
  subst (λ (n : ℕ). FieldsFit n fs (map (λ q. q.value) ps)) (sym (high_bits p.stands (bits_of ps))) (parts-fit fs ps h.1),
)

bits_below : (ps : List Part) → bits_of ps < 2 ^ length ps
unfolding bits_of
bits_below [] = suc-le-suc zero-le
bits_below (p ∷ ps) = let h = bits_below ps in subst (λ (x : ℕ). cond p.stands 1 0 + 2 * bits_of ps < x) (sym (pow-suc 2 (length ps))) (pick p.stands h)
  where
    pick : (b : Bool) → bits_of ps < 2 ^ length ps → cond b 1 0 + 2 * bits_of ps < 2 ^ length ps * 2
    pick true h = omega arith
    pick false h = omega arith

pub small-bits : (ps : List Part) → length ps ≤ 8 → bits_of ps ≤ 255
small-bits ps l = let a = bits_below ps in let b = pow-le-pow_right {n = 2} (suc-le-suc zero-le) {i = length ps} {j = 8} l in omega arith
