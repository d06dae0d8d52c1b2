-- `run_chosen` gives a course that finished. Assumes nothing.
use Rattle.std.proofs.Common.{sym, ◌∙◌}
use Rattle.shell.proofs.course.run_chosen.Goals as goal

pub returns : goal.returns
returns g c = record {
  chip = _;
  came = c.run_input-course.ensures;
  unfailed = sym c.has_failed.ensures ∙ c.if-has_failed.false;
}
