use mathlib.Core.Path.{refl}
use native.Mathlib.Omega.{arith}
use Rattle.roads.specs.Plan.{pixels, entries}
use Rattle.plan.proofs.Appending.{all_left}
use Rattle.plan.proofs.EntriesAppended.{turn-room, turn, turned}
use Rattle.plan.proofs.stages.put_entries.Goals as goal

pub mmio_write-at-requires : goal.mmio_write-at-requires
unfolding entries
mmio_write-at-requires c = omega arith

pub loop-colour-init : goal.loop-colour-init
loop-colour-init c = record { rest = all_left _ _ (pixels c.args.colours.now); few = omega arith }

pub put_pixel-at-requires : goal.put_pixel-at-requires
put_pixel-at-requires c = turn-room refl c.loop-colour.invariant c.loop-colour-test.true c.mmio_write-at.ensures c.requires

pub loop-colour-preserved : goal.loop-colour-preserved
loop-colour-preserved c = turn refl c.loop-colour.invariant _ c.loop-colour-test.true c.put_pixel-at.ensures

pub returns : goal.returns
returns c = turned refl c.loop-colour.invariant c.loop-colour-test.false c.mmio_write-at.ensures
