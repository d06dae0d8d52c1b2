use mathlib.Core.Path.{ap}
use native.Mathlib.Omega.{arith}
use lib.ListN.{drop_of_length-le}
use Rattle.image.specs.Bytes.{flag_bytes}
use Rattle.image.proofs.Filling.{moved, one, done, flags-left}
use Rattle.image.proofs.bytes.put_flags.Goals as goal

pub loop-i-preserved : goal.loop-i-preserved
loop-i-preserved c =
    rw c.flag_byte.ensures (moved (omega arith) (one _ _ c.loop-i.invariant (flags-left c.args.flags.now c.loop-i.i c.loop-i-test.true)))

pub returns : goal.returns
unfolding flag_bytes
returns c = done c.loop-i.invariant (ap flag_bytes (drop_of_length-le c.args.flags.now {i = c.loop-i.i} c.loop-i-test.false))
