use Prim.Native.Nat.{◌*◌}
use mathlib.Core.Path.{ap}
use native.Mathlib.Omega.{arith}
use lib.ListN.{drop_of_length-le}
use Rattle.image.specs.Bytes.{words_in}
use Rattle.image.proofs.Filling.{one, done, words-next}
use Rattle.image.proofs.bytes.words_in.Goals as goal

pub loop-i-preserved : goal.loop-i-preserved
loop-i-preserved c =
    rw c.two.ensures (one _ _ c.loop-i.invariant (words-next c.args.bytes.now c.loop-i.i (omega (arith, c.loop-i.invariant.size, c.loop-i-test.true, c.requires))))

pub returns : goal.returns
unfolding words_in
returns c =
    done c.loop-i.invariant (ap words_in (drop_of_length-le c.args.bytes.now {i = 2 * c.loop-i.i} (omega (arith, c.loop-i.invariant.size, c.loop-i-test.false, c.requires))))
