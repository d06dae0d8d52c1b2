-- `modes::place::word` meets its contract. Assumes nothing.
use Rattle.modes.proofs.Loops.{Matching}
use Rattle.modes.proofs.place.word.Given as goal

abbrev pub invariant-loop-n : goal.invariant-loop-n
invariant-loop-n l = Matching l.line l.word l.at l.n
