-- `failed` ends the course. Assumes nothing.
use borrow.Author.Rules.{rules}
use Rattle.explain.specs.Turns.{failed_after}
use Rattle.explain.proofs.course.failed.Goals as goal

pub returns : goal.returns
unfolding failed_after
returns c = search rules
