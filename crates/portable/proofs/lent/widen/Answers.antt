use native.Mathlib.Omega.{arith}
use Rattle.portable.proofs.Copied.{copying-first, copying-next, copying-last}
use Rattle.portable.proofs.lent.widen.Goals as goal

pub loop-i-init : goal.loop-i-init
loop-i-init c = copying-first c.args.bytes.now c.args.registers.now (omega arith)

pub loop-i-preserved : goal.loop-i-preserved
loop-i-preserved c = rw c.from.ensures (copying-next c.args.bytes.now c.loop-i.registers c.loop-i.i c.loop-i.invariant (omega arith))

pub returns : goal.returns
returns c = copying-last c.args.bytes.now c.loop-i.registers c.loop-i.i c.loop-i.invariant (omega arith)
