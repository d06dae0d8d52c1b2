use mathlib.Core.Path.{ap}
use native.Mathlib.Omega.{arith}
use lib.ListN.{drop_of_length-le}
use Rattle.image.specs.Bytes.{flags_in}
use Rattle.image.proofs.Filling.{one, done, flags-read}
use Rattle.image.proofs.bytes.flags_in.Goals as goal

pub loop-i-preserved : goal.loop-i-preserved
loop-i-preserved c =
    rw c.is_set.ensures (one _ _ c.loop-i.invariant (flags-read c.args.bytes.now c.loop-i.i (omega (arith, c.loop-i.invariant.size, c.loop-i-test.true, c.requires))))

pub returns : goal.returns
unfolding flags_in
returns c =
    done c.loop-i.invariant (ap flags_in (drop_of_length-le c.args.bytes.now {i = c.loop-i.i} (omega (arith, c.loop-i.invariant.size, c.loop-i-test.false, c.requires))))
