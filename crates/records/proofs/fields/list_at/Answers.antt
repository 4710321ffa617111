-- A counted list of bytes, or none.
use mathlib.Core.Path.{sym, ◌∙◌, ap, ap₂}
use mathlib.Core.List.{[], ◌∷◌}
use Prim.Native.Nat.{ℕ, ◌+◌, ◌≤◌}
use native.Mathlib.Omega.{arith}
use lib.ListN.{length}
use borrow.Author.Tests.{not-true, not-false}
use Rattle.records.specs.paper.Fields.{got, bytes_at, repeat, up_to}
use Rattle.records.specs.code.Readers.{field_read, is_got, bytes_from}
use Rattle.records.proofs.Reading.{seen, list-bad, list-stands, list-stands-not}
use borrow.Author.Rules.{rules}
use Rattle.records.proofs.fields.list_at.Goals as goal

pub returns-then-not-present : goal.returns-then-not-present
unfolding bytes_from
returns-then-not-present c = (rw (not-true c.args.present c.if-not-present.true-raw), (omega arith, omega arith))

pub returns-in_default : goal.returns-in_default
returns-in_default c = (rw (not-false c.args.present c.if-not-present.false-raw) (list-bad c.args.s.now c.args.at c.args.limit (up_to c.args.top ∷ []) (seen field_read c.byte_at.ensures c.in_default.is)), tt)

pub overflow_add-result : goal.overflow_add-result
overflow_add-result c =
    let a = c.args in
    let rs = up_to a.top ∷ [] in
    let n = c.from-n.ensures in
    let h = list-stands a.s.now a.at a.limit rs (seen field_read c.byte_at.ensures c.in-Got.is)
    (sym c.if-entries_stand.true ∙ c.entries_stand.ensures ∙ ap (λ (k : ℕ). is_got (bytes_at a.s.now c.in-Got.first (repeat k rs))) n) in
    let z : c.in-Got.first + c.from-n.result ≤ length a.s.now = omega (arith, n, h.2) in
    search (rules, z)

pub returns-then-entries_stand : goal.returns-then-entries_stand
returns-then-entries_stand c =
    let a = c.args in
    let rs = up_to a.top ∷ [] in
    let n = c.from-n.ensures in
    let h = list-stands a.s.now a.at a.limit rs (seen field_read c.byte_at.ensures c.in-Got.is)
    (sym c.if-entries_stand.true ∙ c.entries_stand.ensures ∙ ap (λ (k : ℕ). is_got (bytes_at a.s.now c.in-Got.first (repeat k rs))) n) in
    (rw (not-false a.present c.if-not-present.false-raw) (ap₂ (λ (k m : ℕ). got (bytes_from a.s.now c.in-Got.first k) m) (omega arith) (omega (arith, n)) ∙ h.0), (h.1, omega (arith, h.2)))

pub returns : goal.returns
returns c =
    let a = c.args in
    let rs = up_to a.top ∷ [] in
    let n = c.from-n.ensures in (
      rw (not-false a.present c.if-not-present.false-raw) (list-stands-not a.s.now a.at a.limit rs (seen field_read c.byte_at.ensures c.in-Got.is)
          (sym c.if-entries_stand.false ∙ c.entries_stand.ensures ∙ ap (λ (k : ℕ). is_got (bytes_at a.s.now c.in-Got.first (repeat k rs))) n)),
      tt,
    )
