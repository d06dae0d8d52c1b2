-- `failed` ends the course. Assumes nothing.
use borrow.Author.Rules.{rules}
use Rattle.clocks.specs.Turns.{failed_after}
use Rattle.clocks.proofs.course.failed.Goals as goal

pub returns : goal.returns
unfolding failed_after
returns c = search rules
