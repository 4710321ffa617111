-- Of an accepted plan, what the masks ask: facts and persons named by number are below 64.
use Prim.Native.Nat.{ℕ, suc}
use mathlib.Core.List.{List, [], ◌∷◌}
use native.Mathlib.Omega.{arith}
use Rattle.sets.specs.paper.Sets.{All}
use Rattle.records.specs.paper.Plan.{Plan, Node, literal, fact, conj, disj, neg}
use Rattle.records.specs.promises.Sound.{Sound, SoundFact, SoundNode, SoundNodes, SoundEdge, SoundAttachment, SoundStatus}
use Rattle.sets.proofs.Every.{all_then}
use Rattle.expressions.specs.code.Coded.{TupleFits, FactFits, EndsFit, AnchorFits, PersonFits}

module _ (P : Plan) (sound : Sound P) where
  node_fits_lem : (k : ℕ) (n : Node) → SoundNode P k n → FactFits n
  node_fits_lem k (literal b) h = tt
  node_fits_lem k (fact f) h = omega (arith, sound.fact_limit)
  node_fits_lem k (conj is) h = tt
  node_fits_lem k (disj is) h = tt
  node_fits_lem k (neg i) h = tt

  some_fit : (k : ℕ) (ns : List Node) → SoundNodes P k ns → All FactFits ns
  some_fit k [] h = tt
  some_fit k (n ∷ ns) h = (node_fits_lem k n h.0, some_fit (suc k) ns h.1)

  pub nodes-fit : All FactFits P.nodes
  nodes-fit = some_fit 0 P.nodes sound.nodes

  pub edges_fit : All EndsFit P.edges
  edges_fit = all_then (SoundEdge P) EndsFit (λ e h. (h.left, h.right)) P.edges sound.edges

  pub attachments-fit : All AnchorFits P.attachments
  attachments-fit = all_then (SoundAttachment P) AnchorFits (λ a h. h.anchor) P.attachments sound.attachments

  pub statuses-fit : All PersonFits P.statuses
  statuses-fit = all_then (SoundStatus P) PersonFits (λ t h. h.person) P.statuses sound.statuses

  pub facts-fit : All TupleFits P.facts
  facts-fit = all_then SoundFact TupleFits (λ f h. h.tuple.1) P.facts sound.facts
