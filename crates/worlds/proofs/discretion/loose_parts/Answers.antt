-- `discretion::loose_parts`: the table says to whom the pairs lead, and the heads of the components that are loose are asked for.
use Rattle.worlds.proofs.ComponentLaws.{heads-parts}
use Rattle.worlds.proofs.discretion.loose_parts.Goals as goal

pub returns : goal.returns
returns c = record {
  parts = heads-parts c.args.pairs.now c.args.edges c.gather-persons.result c.neighbours-lead.result _ _ (record { few = c.ranges.edges.fits; at = c.neighbours-lead.ensures }) c.gather-persons.ensures c.heads.ensures.heads;
  fresh = c.heads.ensures.fresh;
}
