-- `run_some` runs a part of the trace: a turn. Assumes nothing.
use Rattle.std.proofs.Common.{refl, arith}
use Rattle.shell.proofs.Bounds.{part-within}
use Rattle.shell.proofs.Turns.{turn-done}
use Rattle.shell.proofs.course.run_some.Goals as goal

pub overflow_add-number : goal.overflow_add-number
overflow_add-number c =
    let few = part-within c.args.trace.now c.requires.trace_len_bound in
    let part = c.run_part-part in
    let parted =
    part.ensures.parted c.requires.t (omega (arith, few)) (λ _. omega (arith, few)) (omega (arith, few, c.requires.number_bound)) in
    omega (arith, few, c.requires.number_bound, parted.count)

pub returns : goal.returns
returns c =
    let few = part-within c.args.trace.now c.requires.trace_len_bound in
    let part = c.run_part-part in
    let parted =
    part.ensures.parted c.requires.t (omega (arith, few)) (λ _. omega (arith, few)) (omega (arith, few, c.requires.number_bound)) in
    turn-done c.args.before c.args.prints _ _ _ _ _ part.result _ parted refl
