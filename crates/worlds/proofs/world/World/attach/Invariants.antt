-- `world::World::attach`: the blocks are those of a state from which the attachments left lead to the world's.
use mathlib.Core.Path.{◌≡◌}
use Prim.Native.Nat.{◌<◌, ◌^◌}
use Rattle.records.specs.paper.Plan.{Plan}
use Rattle.expressions.specs.paper.Variables.{Influence}
use Rattle.worlds.specs.paper.Active.{Active}
use Rattle.worlds.specs.declared.tables.Common.{Common}
use Rattle.worlds.proofs.AttachLaws.{Attaching, Reached}
use Rattle.worlds.proofs.world.World.attach.Given as goal

abbrev pub invariant-loop-i : goal.invariant-loop-i
invariant-loop-i l =
    (l.i-iterator.0 < 2 ^ 64) × (l.self.roles ≡ l.initial.self.roles) × (l.self.kinds ≡ l.initial.self.kinds)
    × ((P : Plan) (I : Influence) (k : Common) (a : Active) → Attaching P I k a l.t l.moved l.placed l.initial.self.blocks → Reached P I k a l.moved l.i-iterator.0 l.self.blocks)
