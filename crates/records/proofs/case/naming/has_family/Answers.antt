use mathlib.Core.Path.{◌≡◌, refl, sym, ap, ◌∙◌}
use mathlib.Core.Bool.{false}
use Prim.Native.Nat.{◌<◌}
use native.Mathlib.Nat.{min-le_right}
use native.Mathlib.Omega.{arith}
use lib.ListN.{length, get_or}
use Rattle.records.specs.code.Decoded.{family_of, families_of}
use Rattle.records.specs.code.CaseNamed.{same_family}
use Rattle.records.specs.declared.case.Family.{Family}
use Rattle.records.proofs.ListLaws.{length_front, get_d_front}
use Rattle.records.proofs.CaseFaults.{any_goes, any_found, any_ends, same-family, other_family}
use Rattle.records.proofs.case.naming.has_family.Goals as goal

pub loop-i-init : goal.loop-i-init
loop-i-init c =
    let f = c.args.families in
    let long : length f.items ≡ 16 = omega (arith, c.well_formed) in
    let e = c.min-count.ensures ∙ sym (length_front family_of f.items f.count 16 long) in
    (omega arith, omega (arith, c.min-count.ensures, min-le_right f.count 16), e, refl)

pub returns-then-families-i : goal.returns-then-families-i
returns-then-families-i c =
    let l = c.loop-i in
    let a = c.args in
    let xs = a.families.items in
    let L = families_of a.families in
    let d : Family = record { number = 0; scope = 0; complete = false; evidence = 0 } in
    let u : l.i < length L = omega (arith, l.invariant.2, c.loop-i-test.true) in
    let same = get_d_front family_of xs a.families.count l.i d (family_of d) u in
    any_found (same_family a.number) L l.i (family_of d) _ u (ap (same_family a.number) same ∙ same-family (get_or xs l.i d) a.number c.if-families-i.true) l.invariant.3

pub loop-i-preserved : goal.loop-i-preserved
loop-i-preserved c =
    let l = c.loop-i in
    let a = c.args in
    let xs = a.families.items in
    let L = families_of a.families in
    let d : Family = record { number = 0; scope = 0; complete = false; evidence = 0 } in
    let u : l.i < length L = omega (arith, l.invariant.2, c.loop-i-test.true) in
    let same = get_d_front family_of xs a.families.count l.i d (family_of d) u in
    (omega arith, l.invariant.1, l.invariant.2, any_goes (same_family a.number) L l.i (family_of d) _ u (ap (same_family a.number) same ∙ other_family (get_or xs l.i d) a.number c.if-families-i.false) l.invariant.3)

pub returns : goal.returns
returns c =
    let l = c.loop-i in
    let a = c.args in
    let xs = a.families.items in
    let L = families_of a.families in
    any_ends (same_family a.number) L l.i _ (omega (arith, l.invariant.2, c.loop-i-test.false)) l.invariant.3
