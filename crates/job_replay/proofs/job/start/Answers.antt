-- `job::start` meets its contract. Assumes nothing.
use Rattle.job_replay.specs.Job.{started}
use Rattle.job_replay.proofs.job.start.Goals as goal

pub returns : goal.returns
unfolding started
returns c = λ i. record { number = 0; file = c.power_on.ensures i; refusals = c.none.ensures i }
