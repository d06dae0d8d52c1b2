-- `run_input` is safe: turns lead to its course. Assumes nothing.
use Rattle.shell.proofs.Turns.{Coming}
use Rattle.shell.proofs.course.run_input.Given as goal

abbrev pub invariant-loop-turn : goal.invariant-loop-turn
invariant-loop-turn g l = Coming l.initial.course.file.state.chip l.prints l._turn l.course
