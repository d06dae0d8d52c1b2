-- `start` starts from power-on. Assumes nothing.
use mathlib.Core.Path.{◌≡◌, ap, ◌∙◌}
use borrow.Author.Rules.{rules}
use Rattle.file.specs.File.{power_on}
use Rattle.summing.specs.Summed.{begun}
use Rattle.job_explain.specs.Job.{starting}
use Rattle.job_explain.proofs.job.start.Goals as goal

pub returns : goal.returns
unfolding starting
returns c =
    let on : c.power_on-file.result ≡ power_on c.args.chip = search rules in
    λ i. record { number = 0; file = on i; summary = (c.begin.ensures ∙ ap begun on) i; refusals = c.none.ensures i }
