use mathlib.Core.Path.{ap}
use native.Mathlib.Omega.{arith}
use lib.ListN.{drop_of_length-le}
use Rattle.image.specs.Bytes.{colour_bytes}
use Rattle.image.proofs.Filling.{moved, three, done, colours-left}
use Rattle.image.proofs.bytes.put_colours.Goals as goal

pub loop-i-preserved : goal.loop-i-preserved
loop-i-preserved c = moved (omega arith) (three _ _ _ _ c.loop-i.invariant (colours-left c.args.colours.now c.loop-i.i _ c.loop-i-test.true))

pub returns : goal.returns
unfolding colour_bytes
returns c = done c.loop-i.invariant (ap colour_bytes (drop_of_length-le c.args.colours.now {i = c.loop-i.i} c.loop-i-test.false))
