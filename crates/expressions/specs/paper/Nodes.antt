-- Conditions. Document 01: "nodes in a table, each valued once"; "use is textual, short cuts ignored".
use Rattle.std.specs.Prelude.{Bool, false, not, List, [], ◌∷◌, ◌++◌, ℕ, get_or, eqb}
use Rattle.sets.specs.paper.Sets.{has, one, all_of, any_of, union_of}
use Rattle.records.specs.paper.Plan.{Plan, Node, literal, fact, conj, disj, neg}

-- the answer at a number of a list of answers; no for a number past it
abbrev pub on : List Bool → ℕ → Bool
on bs i = get_or bs i false

-- a node's value, where `facts` is the set of the facts that are true, from the values of the nodes below it: "Empty And true, empty Or false"
unfoldable pub value : ℕ → List Bool → Node → Bool
value facts lower (literal b) = eqb b 1
value facts lower (fact f) = has facts f
value facts lower (conj is) = all_of (on lower) is
value facts lower (disj is) = any_of (on lower) is
value facts lower (neg i) = not (on lower i)

unfoldable pub values_from : ℕ → List Node → List Bool → List Bool
values_from facts [] done = done
values_from facts (n ∷ ns) done = values_from facts ns (done ++ (value facts done n ∷ []))

-- all nodes, lower numbers first
unfoldable pub values : Plan → ℕ → List Bool
values P facts = values_from facts P.nodes []

-- the facts that a node uses
unfoldable pub uses : List ℕ → Node → ℕ
uses lower (literal b) = 0
uses lower (fact f) = one f
uses lower (conj is) = union_of (λ i. get_or lower i 0) is
uses lower (disj is) = union_of (λ i. get_or lower i 0) is
uses lower (neg i) = get_or lower i 0

unfoldable pub uses_from : List Node → List ℕ → List ℕ
uses_from [] done = done
uses_from (n ∷ ns) done = uses_from ns (done ++ (uses done n ∷ []))

unfoldable pub node_uses : Plan → List ℕ
node_uses P = uses_from P.nodes []
