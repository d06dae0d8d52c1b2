-- `modes::stages::numbered` meets its contract. Assumes nothing.
use Rattle.modes.proofs.StagesRead.{Numbering}
use Rattle.modes.proofs.stages.numbered.Given as goal

abbrev pub invariant-loop-count : goal.invariant-loop-count
invariant-loop-count l = Numbering l.line l.at l.name l.khz l.numbers l.end l.count
