-- `read_text` meets its contract. Assumes nothing.
use native.Mathlib.Omega.{arith}
use lib.ListN.{length-take}
use Rattle.hex_text.specs.Promises.{fitting}
use Rattle.hex_text.proofs.Kept.{text-none, text-put}
use Rattle.hex_text.proofs.reading.read_text.Goals as goal

pub returns-then-count-eq0 : goal.returns-then-count-eq0
returns-then-count-eq0 c =
    let args = c.args in
    text-none args.before _ _ args.at _ c.having_room-count.ensures c.if-count-eq0.true

pub slice_bounds-read_part-end : goal.slice_bounds-read_part-end
unfolding fitting
slice_bounds-read_part-end c =
    let count = c.having_room-count.result in
    omega (arith, c.having_room-count.ensures, length-take count c.args.text.now)

pub read_part-requires : goal.read_part-requires
unfolding fitting
read_part-requires c =
    let size = length-take c.having_room-count.result c.args.text.now in
    omega (arith, c.having_room-count.ensures, c.if-count-eq0.false, size)

pub returns : goal.returns
returns c =
    let args = c.args in
    text-put args.before _ _ _ args.at _ _ c.having_room-count.ensures c.read_part.ensures
