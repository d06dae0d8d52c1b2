use native.Mathlib.Omega.{arith}
use Rattle.portable.proofs.Copied.{copying-first, copying-next, copying-last}
use Rattle.portable.proofs.lent.narrow.Goals as goal

pub loop-i-init : goal.loop-i-init
loop-i-init c = copying-first c.args.registers.now c.args.bytes.now (omega arith)

pub overflow_cast-bytes : goal.overflow_cast-bytes
overflow_cast-bytes c = record { fits = c.requires.by_index c.loop-i.i }

pub loop-i-preserved : goal.loop-i-preserved
loop-i-preserved c = copying-next c.args.registers.now c.loop-i.bytes c.loop-i.i c.loop-i.invariant (omega arith)

pub returns : goal.returns
returns c = copying-last c.args.registers.now c.loop-i.bytes c.loop-i.i c.loop-i.invariant (omega arith)
