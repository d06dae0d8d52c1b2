-- `line_after` meets its contract: line and count fit 32 bits. Assumes nothing.
use Prim.Native.Nat.{◌<◌, ◌+◌}
use native.Mathlib.Nat.{mod-lt}
use native.Mathlib.Omega.{arith}
use Rattle.access.proofs.LineRead.{total-some, total-fits, after-by}
use Rattle.access.proofs.engine.line_after.Goals as goal

pub nonzero_rem-state : goal.nonzero_rem-state
nonzero_rem-state c = total-some c.args.registers.now c.args.state c.v_total-total.result c.v_total-total.ensures

pub overflow_add-sum : goal.overflow_add-sum
overflow_add-sum c =
    omega (arith, c.from.ensures, c.from-2.ensures, mod-lt c.args.state.line ((total-some c.args.registers.now c.args.state c.v_total-total.result c.v_total-total.ensures)), total-fits c.args.registers.now c.args.state c.v_total-total.result c.v_total-total.ensures)

pub nonzero_rem-result : goal.nonzero_rem-result
nonzero_rem-result c = omega (arith, c.from-3.ensures, (total-some c.args.registers.now c.args.state c.v_total-total.result c.v_total-total.ensures))

pub returns : goal.returns
returns c =
    rw (c.from-3.ensures, c.from-2.ensures, c.from.ensures)
    (after-by c.args.registers.now c.args.state c.v_total-total.result c.v_total-total.ensures _)

pub overflow_cast-result : goal.overflow_cast-result
overflow_cast-result c =
    let some : 0 < c.from-3.result =
    omega (arith, c.from-3.ensures, total-some c.args.registers.now c.args.state c.v_total-total.result c.v_total-total.ensures) in
    omega (arith, mod-lt (c.from.result + c.from-2.result) some, c.from-3.ensures, total-fits c.args.registers.now c.args.state c.v_total-total.result c.v_total-total.ensures)
