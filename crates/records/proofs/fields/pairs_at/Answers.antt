-- A counted list of pairs, or none.
use mathlib.Core.Path.{◌≡◌, sym, ◌∙◌, ap}
use mathlib.Core.List.{[], ◌∷◌}
use Prim.Native.Nat.{ℕ, ◌+◌, ◌*◌, ◌≤◌}
use native.Mathlib.Omega.{arith}
use lib.ListN.{length}
use borrow.Author.Tests.{not-true, not-false}
use Rattle.records.specs.paper.Fields.{got, bytes_at, repeat, up_to}
use Rattle.records.specs.code.Readers.{field_read, is_got, bytes_from}
use Rattle.records.proofs.Reading.{seen, list-bad, list-stands, list-stands-not}
use borrow.Author.Rules.{rules}
use Rattle.records.proofs.fields.pairs_at.Lts as lts
use Rattle.records.proofs.fields.pairs_at.Reads as reads
use Rattle.records.proofs.fields.pairs_at.Tie as tie
use Rattle.records.proofs.fields.pairs_at.Goals as goal

-- the entries, counted as the field counts them
stand : (c : lts.After-pairs_stand tie.the-claims reads.Pre reads.Post) → let a = c.args in let k = c.in-Got in
    c.pairs_stand.result ≡ is_got (bytes_at a.s.now k.first (repeat k.count (up_to a.top ∷ record { low = a.low; top = a.high } ∷ [])))
stand c =
    let a = c.args in
    c.pairs_stand.ensures
    ∙ ap (λ (k : ℕ). is_got (bytes_at a.s.now c.in-Got.first (repeat k (up_to a.top ∷ record { low = a.low; top = a.high } ∷ [])))) c.from-n.ensures

pub returns-then-not-present : goal.returns-then-not-present
unfolding bytes_from
returns-then-not-present c = (rw (not-true c.args.present c.if-not-present.true-raw), (omega arith, omega arith))

pub returns-in_default : goal.returns-in_default
returns-in_default c = (rw (not-false c.args.present c.if-not-present.false-raw) (list-bad c.args.s.now c.args.at c.args.limit (up_to c.args.top ∷ record { low = c.args.low; top = c.args.high } ∷ []) (seen field_read c.byte_at.ensures c.in_default.is)), tt)

pub overflow_add-result : goal.overflow_add-result
overflow_add-result c =
    let a = c.args in
    let rs = up_to a.top ∷ record { low = a.low; top = a.high } ∷ [] in
    let n = c.from-n.ensures in
    let h = list-stands a.s.now a.at a.limit rs (seen field_read c.byte_at.ensures c.in-Got.is)
    (sym c.if-pairs_stand.true ∙ stand c.before.before) in
    let z : c.in-Got.first + c.from-n.result * 2 ≤ length a.s.now = omega (arith, n, h.2) in
    search (rules, z)

pub returns-then-pairs_stand : goal.returns-then-pairs_stand
returns-then-pairs_stand c =
    let a = c.args in
    let rs = up_to a.top ∷ record { low = a.low; top = a.high } ∷ [] in
    let n = c.from-n.ensures in
    let h = list-stands a.s.now a.at a.limit rs (seen field_read c.byte_at.ensures c.in-Got.is)
    (sym c.if-pairs_stand.true ∙ stand c.before.before) in
    (rw (not-false a.present c.if-not-present.false-raw) (ap (got (bytes_from a.s.now c.in-Got.first (c.in-Got.count * 2))) (omega (arith, n)) ∙ h.0), (h.1, h.2))

pub returns : goal.returns
returns c =
    let a = c.args in
    let rs = up_to a.top ∷ record { low = a.low; top = a.high } ∷ [] in
    let n = c.from-n.ensures in (
      rw (not-false a.present c.if-not-present.false-raw) (list-stands-not a.s.now a.at a.limit rs (seen field_read c.byte_at.ensures c.in-Got.is)
          (sym c.if-pairs_stand.false ∙ stand c.before.before)),
      tt,
    )
