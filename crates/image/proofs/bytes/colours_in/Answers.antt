use Prim.Native.Nat.{◌*◌}
use mathlib.Core.Path.{ap}
use native.Mathlib.Omega.{arith}
use lib.ListN.{drop_of_length-le}
use Rattle.image.specs.Bytes.{colours_in}
use Rattle.image.proofs.Filling.{one, done, colours-next}
use Rattle.image.proofs.bytes.colours_in.Goals as goal

pub loop-i-preserved : goal.loop-i-preserved
loop-i-preserved c =
    one _ _ c.loop-i.invariant (colours-next c.args.bytes.now c.loop-i.i (omega (arith, c.loop-i.invariant.size, c.loop-i-test.true, c.requires)))

pub returns : goal.returns
unfolding colours_in
returns c =
    done c.loop-i.invariant (ap colours_in (drop_of_length-le c.args.bytes.now {i = 3 * c.loop-i.i} (omega (arith, c.loop-i.invariant.size, c.loop-i-test.false, c.requires))))
