-- `start` meets its contract. Assumes nothing.
use mathlib.Core.Path.{refl}
use Rattle.mode_lines.specs.Job.{started}
use Rattle.mode_lines.proofs.job.start.Goals as goal

pub returns : goal.returns
unfolding started
returns c = rw c.start_file-file.ensures refl
