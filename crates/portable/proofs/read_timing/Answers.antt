-- `portable::read_timing` meets its contract, by what its test and calls found. Assumes nothing.
use Rattle.portable.specs.Timing.{timing_of}
use Rattle.portable.proofs.Cases.{read_short, read_done}
use Rattle.portable.proofs.read_timing.Goals as goal

pub returns-then-bytes-ne-COUNT : goal.returns-then-bytes-ne-COUNT
unfolding timing_of
returns-then-bytes-ne-COUNT c = read_short c.args.bytes.now c.of.result c.if-bytes-ne-COUNT.true c.of.ensures

pub returns : goal.returns
returns c = read_done c.args.bytes.now _ c.of-2.result c.if-bytes-ne-COUNT.false c.read.ensures c.of-2.ensures
