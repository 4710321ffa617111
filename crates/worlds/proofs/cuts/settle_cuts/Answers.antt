-- `cuts::settle_cuts`: steps 3 to 5 by sets of cuts.
use Rattle.worlds.specs.code.Settled.{CutsSettled}
use Rattle.worlds.proofs.CutsMade.{cuts-made}
use Rattle.worlds.proofs.SettleLaws.{parts-kept, rows_noted}
use Rattle.worlds.proofs.cuts.settle_cuts.Goals as goal

pub returns : goal.returns
returns c =
    record {
      cuts = rows_noted c.args.noted.now c.told-noted _ _ (CutsSettled c.args.t.now c.args.active _)
          (cuts-made c.args.t.now c.args.active _ _ _ _ _ c.apply_cut_precedence-left.result c.overlapping-clash.result c.lowest_twins.result
          c.minus-standing.result c.blocked-out.result c.gather-united.result c.apply_cut_precedence-left.ensures c.overlapping-clash.ensures
          c.lowest_twins.ensures c.minus-standing.ensures c.note_clashes.ensures c.blocked-out.ensures.noted c.blocked-out.ensures.twins
          c.gather-united.ensures c.gather.ensures c.minus.ensures);
      parts = parts-kept c.args.noted.now c.told-noted _ _;
    }
