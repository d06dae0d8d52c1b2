-- `close` puts the summary, where one is kept. Assumes nothing.
use mathlib.Core.Path.{refl}
use Rattle.file.specs.Answers.{code_of, refused}
use Rattle.text.specs.Lent.{behind_by, placed_by}
use Rattle.summing.specs.Told.{closing}
use Rattle.job_explain.specs.Job.{close_answer}
use Rattle.job_explain.proofs.job.close.Goals as goal

pub returns-then-sums : goal.returns-then-sums
unfolding closing close_answer
returns-then-sums c =
    rw c.if-sums.true c.summary_lines.ensures

pub returns : goal.returns
unfolding closing close_answer behind_by placed_by refused code_of
returns c = rw (c.stored.ensures, c.if-sums.false) (record { answered = refl; ended = refl; bytes = refl })
