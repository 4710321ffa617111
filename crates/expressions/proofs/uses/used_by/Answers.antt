-- `uses::used_by`: the facts of the nodes in use, taken in one after another.
use mathlib.Core.Path.{◌≡◌, ap, ◌∙◌}
use Prim.Native.Nat.{ℕ}
use native.Mathlib.Omega.{arith}
use borrow.Author.Rules.{rules}
use lib.ListN.{take, get_or}
use Rattle.std.specs.List.{fold}
use Rattle.sets.specs.paper.Sets.{union, union_of}
use Rattle.expressions.proofs.ListLaws.{folded}
use Rattle.expressions.proofs.NodeLaws.{numbers_used}
use Rattle.expressions.proofs.uses.used_by.Goals as goal

pub returns : goal.returns
returns c =
    let ns = c.args.nodes in
    let f : ℕ → ℕ = λ k. get_or c.args.lower.now k 0 in
    let all : c.fold.result ≡ fold (λ m k. union m (f k)) 0 (take c.min.result ns.items) = search rules in
    all ∙ folded f _ ∙ ap (union_of f) (numbers_used ns _ _ (omega (arith, c.well_formed)) c.from.ensures c.min.ensures)
