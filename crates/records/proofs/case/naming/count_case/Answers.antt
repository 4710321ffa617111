-- How many records of each kind a case has.
use mathlib.Core.Path.{◌≡◌, sym, ap, ◌∙◌}
use Prim.Native.Nat.{ℕ, min}
use native.Mathlib.Nat.{min-le_right}
use native.Mathlib.Omega.{arith}
use lib.ListN.{length, length-take}
use Rattle.records.specs.code.Decoded.{family_of, boolean_of, relation_of, case_of}
use Rattle.records.proofs.ListLaws.{length_front}
use Rattle.records.proofs.case.naming.count_case.Goals as goal

pub returns : goal.returns
unfolding case_of
returns c =
    let s = c in
    let p = s.args.case in (
      record {
        headings = c.min.ensures ∙ sym (length-take p.headings _);
        families = c.min-2.ensures ∙ sym (length_front family_of p.families.items p.families.count 16 (omega (arith, c.well_formed)));
        booleans = c.min-3.ensures ∙ sym (length_front boolean_of p.booleans.items p.booleans.count 64 (omega (arith, c.well_formed)));
        relations = c.min-4.ensures ∙ sym (length_front relation_of p.relations.items p.relations.count 256 (omega (arith, c.well_formed)));
        constraints =
            let long : length p.constraints.items ≡ 16 = omega (arith, c.well_formed) in
            c.min-5.ensures ∙ sym (length-take p.constraints.count p.constraints.items ∙ ap (λ (m : ℕ). min p.constraints.count m) long);
      },
      record {
        headings = omega (arith, c.min.ensures, min-le_right p.headings 1);
        families = omega (arith, c.min-2.ensures, min-le_right p.families.count 16);
        booleans = omega (arith, c.min-3.ensures, min-le_right p.booleans.count 64);
        relations = omega (arith, c.min-4.ensures, min-le_right p.relations.count 256);
        constraints = omega (arith, c.min-5.ensures, min-le_right p.constraints.count 16);
      },
    )
