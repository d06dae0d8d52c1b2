use mathlib.Core.Path.{◌≡◌}
use lib.ListN.{length}
use native.Mathlib.Omega.{arith}
use Rattle.hex_text.proofs.Putting.{reading-begun, reading-next, reading-done}
use Rattle.hex_text.proofs.reading.read_part.Goals as goal

pub loop-byte-init : goal.loop-byte-init
loop-byte-init c = reading-begun

pub put-end-requires : goal.put-end-requires
put-end-requires c = omega (arith, c.loop-byte.invariant.few, c.loop-byte.invariant.size)

pub loop-byte-preserved : goal.loop-byte-preserved
loop-byte-preserved c =
    reading-next _ c.loop-byte.invariant c.loop-byte-test.true c.gives.ensures c.put-end.ensures c.stepped-text.ensures

pub shape_of-buffer : goal.shape_of-buffer
shape_of-buffer c = c.loop-byte.invariant.size

pub returns : goal.returns
returns c =
    let all : c.loop-byte.byte-index ≡ length c.args.part.now = omega arith in
    rw all at (reading-done c.loop-byte.invariant c.loop-byte-test.false)
