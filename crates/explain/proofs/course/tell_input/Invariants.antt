-- `tell_input` is safe: turns lead to its course. Assumes nothing.
use Prim.Native.Nat.{◌-◌}
use Rattle.explain.proofs.Coming.{Coming}
use Rattle.explain.proofs.course.tell_input.Given as goal

abbrev pub invariant-loop : goal.invariant-loop
invariant-loop g l = Coming l.initial.course.file.state.chip l.sums (18446744073709551615 - l.counter) l.course
