-- `lay::lay_attachments`: after i attachments the rows hold the members, anchors and citations of the first i, and the other rows are as they were.
use mathlib.Core.Path.{◌≡◌}
use mathlib.Core.List.{[], ◌∷◌}
use Rattle.sets.specs.paper.Sets.{one}
use Rattle.records.specs.paper.Plan.{Plan}
use Rattle.records.specs.code.Decoded.{attachments_of}
use Rattle.expressions.specs.paper.Rules.{attachment}
use Rattle.worlds.specs.code.Laid.{Same}
use Rattle.worlds.proofs.LayLaws.{Filled}
use Rattle.worlds.proofs.lay.lay_attachments.Given as goal

abbrev pub invariant-loop-i : goal.invariant-loop-i
invariant-loop-i l =
    ((P : Plan) → P.attachments ≡ attachments_of l.attachments → Filled (λ j v. v ≡ (attachment P j).members) l.t 11 l.i × Filled (λ j v. v ≡ one (attachment P j).anchor) l.t 12 l.i × Filled (λ j v. v ≡ one (attachment P j).citation) l.t 18 l.i)
    × Same (11 ∷ 12 ∷ 18 ∷ []) l.initial.t l.t
