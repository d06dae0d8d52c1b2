-- `bytes_taken` counts the bytes that a step takes. Assumes nothing.
use Rattle.feeding.specs.Feeding.{bytes_of}
use Rattle.job_explain.specs.Job.{bytes_taken, records_taken}
use Rattle.job_explain.proofs.part.bytes_taken.Goals as goal

pub returns : goal.returns
unfolding bytes_taken bytes_of records_taken
returns c = cc
