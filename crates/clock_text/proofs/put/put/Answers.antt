-- `put::put` meets its contract. Assumes nothing.
use Rattle.std.proofs.Common.{◌+◌, ◌-◌, length, arith}
use Rattle.text.proofs.Stores.{copy-wrote}
use Rattle.clock_text.proofs.put.put.Goals as goal

pub returns : goal.returns
returns c =
    copy-wrote c.args.buffer.now c.args.text.now c.args.at c.requires c.copy_from_slice.new.self (c.args.at + length c.args.text.now - c.args.at)
    (omega arith) c.copy_from_slice.ensures.after
