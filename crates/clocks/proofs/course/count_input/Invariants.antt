-- Turns lead to the course that `count_input` gives. Assumes nothing.
use Prim.Native.Nat.{◌-◌}
use Rattle.clocks.proofs.Coming.{Coming}
use Rattle.clocks.proofs.course.count_input.Given as goal

abbrev pub invariant-loop : goal.invariant-loop
invariant-loop g l = Coming (9007199254740991 - l.counter) l.course
