-- `put` meets its contract. Assumes nothing.
use mathlib.Core.Path.{◌∙◌}
use native.Mathlib.Omega.{arith}
use Rattle.plan.proofs.Appending.{append-copied}
use Rattle.plan.proofs.records.put.Goals as goal

pub returns : goal.returns
returns c =
    let args = c.args in
    append-copied args.buffer.now args.at _ _ args.written c.requires (omega arith) (c.copy_from_slice.ensures.after ∙ c.record_bytes.ensures)
