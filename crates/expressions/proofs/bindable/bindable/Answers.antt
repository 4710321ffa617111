use Rattle.expressions.proofs.FaultLaws.{booleans_checked, bindable-first, bindable-rest}
use Rattle.records.proofs.ListLaws.{length_front}
use Rattle.records.proofs.CheckLaws.{refused-stands, accepted_passes}
use Rattle.records.specs.code.Decoded.{case_of, family_of}
use Rattle.records.specs.paper.Case.{families_at}
use lib.ListN.{length, length-take}
use native.Mathlib.Omega.{arith}
use mathlib.Core.Path.{◌≡◌, sym, ap₂, ◌∙◌}
use Prim.Native.Nat.{◌+◌}
use Rattle.expressions.proofs.bindable.bindable.Goals as goal

-- src/bindable.rt:110:9
-- src/bindable.rt:110:9
pub returns-in_default : goal.returns-in_default
unfolding case_of
returns-in_default c =
    let r = c.family_faults-twice in
    let u = c in
    let s = u in
    let C = case_of s.args.case in
    let e : u.min-first.result ≡ families_at C = u.min-first.ensures ∙ sym (length-take s.args.case.headings _) in
    refused-stands r.result (booleans_checked C) c.in_default.is ∙ bindable-first C u.min-first.result r.result e r.ensures

-- src/bindable.rt:112:5
-- src/bindable.rt:101:1
pub returns : goal.returns
unfolding case_of
returns c =
    let t = c in
    let r = t.family_faults-twice in
    let v = t in
    let u = v in
    let s = u in
    let C = case_of s.args.case in
    let fs = s.args.case.families in
    let e : u.min-first.result ≡ families_at C = u.min-first.ensures ∙ sym (length-take s.args.case.headings _) in
    let n : length fs.items ≡ 16 = omega (arith, s.well_formed) in
    let m = length_front family_of fs.items fs.count 16 n in
    let k : v.min.result ≡ length C.families = omega (arith, v.min.ensures) in
    bindable-rest C (u.min-first.result + v.min.result) c.boolean_faults.result (ap₂ ◌+◌ e k) c.boolean_faults.ensures
    ∙ accepted_passes r.result (booleans_checked C) t.in-Accepted.is ∙ bindable-first C u.min-first.result r.result e r.ensures
