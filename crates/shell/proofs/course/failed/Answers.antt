-- `failed` ends the course. Assumes nothing.
use Rattle.std.proofs.Common.{rules}
use Rattle.shell.specs.Parts.{failed_after}
use Rattle.shell.proofs.course.failed.Goals as goal

pub returns : goal.returns
unfolding failed_after
returns c = search rules
