-- `explain` comes to the end of a course. Assumes nothing.
use Rattle.explain.proofs.course.explain.Goals as goal

pub returns : goal.returns
returns g c = record { before = c.tell_input.result; came = c.tell_input.ensures; closed = c.close.ensures }
