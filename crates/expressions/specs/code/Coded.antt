-- What the code's arrays stand for, and what fits a mask.
use Rattle.std.specs.Prelude.{◌≡◌, List, [], ℕ, ◌<◌, get_or, take}
use Rattle.sets.specs.paper.Sets.{All}
use Rattle.records.specs.paper.Plan.{Fact, Node, literal, fact, conj, disj, neg, Edge, Attachment, Status}
use Rattle.records.specs.promises.Sound.{Person}
use Rattle.records.specs.code.Decoded.{nodes_of, plan_of}
use Rattle.expressions.specs.paper.Nodes.{uses_from}
use Rattle.expressions.specs.paper.Influence.{Frame}
use Rattle.records.specs.declared.case.Constraints.{Constraints}
use Rattle.records.specs.declared.plan.Nodes.{Nodes}
use Rattle.records.specs.declared.plan.Plan.{Plan as Coded}

-- an array holds the list's entries, and d past them
pub record Holds {A : Type 0} (d : A) (array list : List A) : Type 0 where
  pub at : (i : ℕ) → get_or array i d ≡ get_or list i d

-- an array holds the facts that each node uses
abbrev pub HoldsUses : Nodes → List ℕ → Type 0
HoldsUses nodes us = Holds 0 us (uses_from (nodes_of nodes) [])

-- the fact of a node has a place in a mask
abbrev pub FactFits : Node → Type 0
FactFits (literal b) = Unit {0}
FactFits (fact f) = f < 64
FactFits (conj is) = Unit {0}
FactFits (disj is) = Unit {0}
FactFits (neg i) = Unit {0}

-- the persons that a rule names by number have a place in a mask
abbrev pub EndsFit : Edge → Type 0
EndsFit e = Person e.left × Person e.right

abbrev pub AnchorFits : Attachment → Type 0
AnchorFits a = Person a.anchor

abbrev pub PersonFits : Status → Type 0
PersonFits t = Person t.person

abbrev pub TupleFits : Fact → Type 0
TupleFits f = All Person f.tuple

-- plan, roster and constraints, from which touch and circles follow
unfoldable pub frame_by : Coded → ℕ → Constraints → Frame
frame_by plan roster constraints = record { plan = plan_of plan; roster = roster; constraints = take constraints.count constraints.items }
