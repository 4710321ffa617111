use mathlib.Core.Path.{◌≡◌, refl, sym, subst}
use mathlib.Core.List.{List}
use Prim.Native.Nat.{ℕ, ◌+◌, ◌<◌}
use native.Mathlib.Omega.{arith}
use lib.ListN.{length, get_or, set, length-set}
use lib.Seq.{get_or-set_same, get_or-set_other}
use borrow.Author.Count.{below_more}
use Rattle.std.specs.Fn.{FnReturnsAt}
use Rattle.std.proofs.lemmas.List.{get_or_read_under}
use Rattle.worlds.proofs.conditions.lay_each.Goals as goal

-- v is laid at i
more : {A B : Type 0} (Q : A → B → Type 0) (xs : List A) (table : List B) (i : ℕ) (none : A) (past v : B) → i < length table → Q (get_or xs i none) v
    → ((k : ℕ) → k < i → Q (get_or xs k none) (get_or table k past)) → (k : ℕ) → k < i + 1 → Q (get_or xs k none) (get_or (set table i v) k past)
more Q xs table i none past v room here below =
    below_more (λ k. Q (get_or xs k none) (get_or (set table i v) k past)) i
    (λ k l. subst (Q (get_or xs k none)) (sym (get_or-set_other table i k v past (λ z. omega arith))) (below k l))
    (subst (Q (get_or xs i none)) (sym (get_or-set_same table i v past room)) here)

pub loop-i-preserved : goal.loop-i-preserved
loop-i-preserved g c = record {
  long = simp length-set c.loop-i.invariant.long;
  laid = λ none past.
      let rule = get_or_read_under c.args.rules.now c.loop-i.i _ _ none c.index-rules-i.is c.loop-i-test.true refl in
      more (FnReturnsAt g.F.Fn c.args.entry) c.args.rules.now _ c.loop-i.i none past c.entry.result (omega arith) (record { shown = _; shows = rule; says = record { met = c.entry.ensures } }) (c.loop-i.invariant.laid none past);
}
