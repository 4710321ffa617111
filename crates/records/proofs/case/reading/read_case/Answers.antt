-- A case over its plan: what its records say, then the first record that names what is not there.
use mathlib.Core.Path.{refl}
use Rattle.records.specs.code.Decoded.{plan_of}
use Rattle.records.proofs.CaseFaults.{stays_refused, comes_out, is_refused}
use Rattle.records.proofs.case.reading.read_case.Goals as goal

pub returns-then-read-ne0 : goal.returns-then-read-ne0
returns-then-read-ne0 c =
    let a = c.args in
    let r = c.read_case_records-read in
    stays_refused (plan_of a.plan) a.s.now r.result r.ensures c.if-read-ne0.true

pub returns-in_default : goal.returns-in_default
returns-in_default c =
    let a = c.args in
    let r = c.read_case_records-read in
    let v = c.case_naming-named in
    comes_out (plan_of a.plan) a.s.now r.result r.ensures c.if-read-ne0.false v.result v.ensures c.in_default.is

pub returns : goal.returns
returns c =
    let a = c.args in
    let r = c.read_case_records-read in
    let v = c.case_naming-named in
    is_refused (plan_of a.plan) a.s.now r.result r.ensures c.if-read-ne0.false v.result _ v.ensures c.in-Refused.is refl refl
