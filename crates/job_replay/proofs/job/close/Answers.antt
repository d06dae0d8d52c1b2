-- `job::close` meets its contract. Assumes nothing.
use Rattle.job_replay.specs.Job.{closing_line}
use Rattle.job_replay.proofs.job.close.Goals as goal

pub returns : goal.returns
unfolding closing_line
returns c = rw c.read_timing.ensures at c.timing_line.ensures
