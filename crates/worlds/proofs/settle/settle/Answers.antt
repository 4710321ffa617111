-- `settle::settle`: what a world says by sets.
use mathlib.Core.Path.{refl}
use native.Mathlib.Omega.{arith}
use Rattle.sets.specs.paper.Sets.{union, meet}
use Rattle.worlds.proofs.SettleLaws.{settles}
use Rattle.worlds.proofs.settle.settle.Goals as goal

pub returns : goal.returns
unfolding union meet
returns c =
    settles c.args.t.now _ _ c.args.noted.now c.settle_cuts-cuts.new.noted _ _ _ _ _ _ c.told-noted (record {
      components = c.loose_parts-parted.ensures.parts;
      renewed = c.loose_parts-parted.ensures.fresh;
      seed = c.gather-loose.ensures;
      discretion = c.gather-discretion.ensures;
      cuts = c.settle_cuts-cuts.ensures.cuts;
      kept = c.settle_cuts-cuts.ensures.parts;
      overlap = refl;
      applied = refl;
      unmarked = c.minus.ensures;
      moved = c.meeting-moved.ensures;
      moved_fits = omega (arith, c.meeting-moved.type_inv);
      moving = c.gather.ensures;
      attached = c.minus-attached.ensures;
      attached_fits = omega (arith, c.minus-attached.type_inv);
      barring = c.meeting-barring.ensures;
      barred = c.gather-2.ensures;
      excluded = c.gather-3.ensures;
    })
