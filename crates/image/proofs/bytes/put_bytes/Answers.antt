-- `put_bytes` meets its contract. Assumes nothing.
use native.Mathlib.Omega.{arith}
use Rattle.image.proofs.Filling.{copied}
use Rattle.image.proofs.bytes.put_bytes.Goals as goal

pub returns : goal.returns
returns c = copied c.args.buffer.now c.args.at _ _ c.args.bytes.now (omega (arith, c.requires)) (omega arith) c.copy_from_slice.ensures.after
