-- The code's numbers for bindings, and what stands where nothing was observed.
use Rattle.std.specs.Prelude.{true, false, cond, List, [], ◌∷◌, ℕ, zero, suc, eqb, length}
use Rattle.records.specs.paper.Case.{Family}
use Rattle.expressions.specs.paper.Bindings.{just, both, Bound, unbound, known, unknown, conflict}

-- 0 unbound, 1 known false, 2 known true, 3 unknown, 4 conflict of false, 5 conflict of true, 6 conflict of both
unfoldable pub bound_of : ℕ → Bound
bound_of zero = unbound
bound_of (suc zero) = known false
bound_of (suc (suc zero)) = known true
bound_of (suc (suc (suc zero))) = unknown
bound_of (suc (suc (suc (suc zero)))) = conflict (just false)
bound_of (suc (suc (suc (suc (suc zero))))) = conflict (just true)
bound_of (suc (suc (suc (suc (suc (suc n)))))) = conflict both

-- the code of what no observation means, by the family records that have the roster's scope; 0 where there is none
unfoldable pub silent_code : List Family → ℕ
silent_code [] = 0
silent_code (m ∷ ms) = cond (eqb (length m.complete) 0) 3 1
