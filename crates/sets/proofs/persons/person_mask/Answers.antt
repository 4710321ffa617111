-- `sets::persons::person_mask`: each place of the sheet has the power of two of its number.
use mathlib.Core.Path.{◌≡◌, ap, sym}
use mathlib.Core.Logic.{⊎_elim}
use mathlib.Core.List.{[], ◌∷◌}
use Prim.Native.Nat.{ℕ, zero, suc, ◌≤◌}
use native.Mathlib.Omega.{arith}
use types.Run.{OneOf}
use Rattle.sets.specs.paper.Sets.{one}
use Rattle.sets.proofs.SetLaws.{lt_or_le}
use Rattle.sets.proofs.persons.person_mask.Goals as goal

-- none of the first n numbers
abbrev Past : ℕ → ℕ → Type 0
Past zero p = Unit {0}
Past (suc n) p = Past n p × (OneOf (n ∷ []) p → ⊥)

past : (n p : ℕ) → Past n p → n ≤ p
past zero p h = omega arith
past (suc n) p h =
    let l = past n p h.0 in
    ⊎_elim (λ g. absurd (h.1 (omega (arith, l, g)))) (λ g. g) (lt_or_le p (suc n))

pub returns-in_default : goal.returns-in_default
unfolding one
returns-in_default c = let e : 63 ≡ c.args.p = omega (arith, c.requires, past 63 _ c.before.before.in_default.in_default-own.rest) in ap one e

pub returns-in-0 : goal.returns-in-0
unfolding one
returns-in-0 c = ap one (sym c.in-0.is)

pub returns-in-1 : goal.returns-in-1
unfolding one
returns-in-1 c = ap one (sym c.in-1.is)

pub returns-in-2 : goal.returns-in-2
unfolding one
returns-in-2 c = ap one (sym c.in-2.is)

pub returns-in-3 : goal.returns-in-3
unfolding one
returns-in-3 c = ap one (sym c.in-3.is)

pub returns-in-4 : goal.returns-in-4
unfolding one
returns-in-4 c = ap one (sym c.in-4.is)

pub returns-in-5 : goal.returns-in-5
unfolding one
returns-in-5 c = ap one (sym c.in-5.is)

pub returns-in-6 : goal.returns-in-6
unfolding one
returns-in-6 c = ap one (sym c.in-6.is)

pub returns-in-7 : goal.returns-in-7
unfolding one
returns-in-7 c = ap one (sym c.in-7.is)

pub returns-in-8 : goal.returns-in-8
unfolding one
returns-in-8 c = ap one (sym c.in-8.is)

pub returns-in-9 : goal.returns-in-9
unfolding one
returns-in-9 c = ap one (sym c.in-9.is)

pub returns-in-10 : goal.returns-in-10
unfolding one
returns-in-10 c = ap one (sym c.in-10.is)

pub returns-in-11 : goal.returns-in-11
unfolding one
returns-in-11 c = ap one (sym c.in-11.is)

pub returns-in-12 : goal.returns-in-12
unfolding one
returns-in-12 c = ap one (sym c.in-12.is)

pub returns-in-13 : goal.returns-in-13
unfolding one
returns-in-13 c = ap one (sym c.in-13.is)

pub returns-in-14 : goal.returns-in-14
unfolding one
returns-in-14 c = ap one (sym c.in-14.is)

pub returns-in-15 : goal.returns-in-15
unfolding one
returns-in-15 c = ap one (sym c.in-15.is)

pub returns-in-16 : goal.returns-in-16
unfolding one
returns-in-16 c = ap one (sym c.in-16.is)

pub returns-in-17 : goal.returns-in-17
unfolding one
returns-in-17 c = ap one (sym c.in-17.is)

pub returns-in-18 : goal.returns-in-18
unfolding one
returns-in-18 c = ap one (sym c.in-18.is)

pub returns-in-19 : goal.returns-in-19
unfolding one
returns-in-19 c = ap one (sym c.in-19.is)

pub returns-in-20 : goal.returns-in-20
unfolding one
returns-in-20 c = ap one (sym c.in-20.is)

pub returns-in-21 : goal.returns-in-21
unfolding one
returns-in-21 c = ap one (sym c.in-21.is)

pub returns-in-22 : goal.returns-in-22
unfolding one
returns-in-22 c = ap one (sym c.in-22.is)

pub returns-in-23 : goal.returns-in-23
unfolding one
returns-in-23 c = ap one (sym c.in-23.is)

pub returns-in-24 : goal.returns-in-24
unfolding one
returns-in-24 c = ap one (sym c.in-24.is)

pub returns-in-25 : goal.returns-in-25
unfolding one
returns-in-25 c = ap one (sym c.in-25.is)

pub returns-in-26 : goal.returns-in-26
unfolding one
returns-in-26 c = ap one (sym c.in-26.is)

pub returns-in-27 : goal.returns-in-27
unfolding one
returns-in-27 c = ap one (sym c.in-27.is)

pub returns-in-28 : goal.returns-in-28
unfolding one
returns-in-28 c = ap one (sym c.in-28.is)

pub returns-in-29 : goal.returns-in-29
unfolding one
returns-in-29 c = ap one (sym c.in-29.is)

pub returns-in-30 : goal.returns-in-30
unfolding one
returns-in-30 c = ap one (sym c.in-30.is)

pub returns-in-31 : goal.returns-in-31
unfolding one
returns-in-31 c = ap one (sym c.in-31.is)

pub returns-in-32 : goal.returns-in-32
unfolding one
returns-in-32 c = ap one (sym c.in-32.is)

pub returns-in-33 : goal.returns-in-33
unfolding one
returns-in-33 c = ap one (sym c.in-33.is)

pub returns-in-34 : goal.returns-in-34
unfolding one
returns-in-34 c = ap one (sym c.in-34.is)

pub returns-in-35 : goal.returns-in-35
unfolding one
returns-in-35 c = ap one (sym c.in-35.is)

pub returns-in-36 : goal.returns-in-36
unfolding one
returns-in-36 c = ap one (sym c.in-36.is)

pub returns-in-37 : goal.returns-in-37
unfolding one
returns-in-37 c = ap one (sym c.in-37.is)

pub returns-in-38 : goal.returns-in-38
unfolding one
returns-in-38 c = ap one (sym c.in-38.is)

pub returns-in-39 : goal.returns-in-39
unfolding one
returns-in-39 c = ap one (sym c.in-39.is)

pub returns-in-40 : goal.returns-in-40
unfolding one
returns-in-40 c = ap one (sym c.in-40.is)

pub returns-in-41 : goal.returns-in-41
unfolding one
returns-in-41 c = ap one (sym c.in-41.is)

pub returns-in-42 : goal.returns-in-42
unfolding one
returns-in-42 c = ap one (sym c.in-42.is)

pub returns-in-43 : goal.returns-in-43
unfolding one
returns-in-43 c = ap one (sym c.in-43.is)

pub returns-in-44 : goal.returns-in-44
unfolding one
returns-in-44 c = ap one (sym c.in-44.is)

pub returns-in-45 : goal.returns-in-45
unfolding one
returns-in-45 c = ap one (sym c.in-45.is)

pub returns-in-46 : goal.returns-in-46
unfolding one
returns-in-46 c = ap one (sym c.in-46.is)

pub returns-in-47 : goal.returns-in-47
unfolding one
returns-in-47 c = ap one (sym c.in-47.is)

pub returns-in-48 : goal.returns-in-48
unfolding one
returns-in-48 c = ap one (sym c.in-48.is)

pub returns-in-49 : goal.returns-in-49
unfolding one
returns-in-49 c = ap one (sym c.in-49.is)

pub returns-in-50 : goal.returns-in-50
unfolding one
returns-in-50 c = ap one (sym c.in-50.is)

pub returns-in-51 : goal.returns-in-51
unfolding one
returns-in-51 c = ap one (sym c.in-51.is)

pub returns-in-52 : goal.returns-in-52
unfolding one
returns-in-52 c = ap one (sym c.in-52.is)

pub returns-in-53 : goal.returns-in-53
unfolding one
returns-in-53 c = ap one (sym c.in-53.is)

pub returns-in-54 : goal.returns-in-54
unfolding one
returns-in-54 c = ap one (sym c.in-54.is)

pub returns-in-55 : goal.returns-in-55
unfolding one
returns-in-55 c = ap one (sym c.in-55.is)

pub returns-in-56 : goal.returns-in-56
unfolding one
returns-in-56 c = ap one (sym c.in-56.is)

pub returns-in-57 : goal.returns-in-57
unfolding one
returns-in-57 c = ap one (sym c.in-57.is)

pub returns-in-58 : goal.returns-in-58
unfolding one
returns-in-58 c = ap one (sym c.in-58.is)

pub returns-in-59 : goal.returns-in-59
unfolding one
returns-in-59 c = ap one (sym c.in-59.is)

pub returns-in-60 : goal.returns-in-60
unfolding one
returns-in-60 c = ap one (sym c.in-60.is)

pub returns-in-61 : goal.returns-in-61
unfolding one
returns-in-61 c = ap one (sym c.in-61.is)

pub returns-in-62 : goal.returns-in-62
unfolding one
returns-in-62 c = ap one (sym c.in-62.is)
