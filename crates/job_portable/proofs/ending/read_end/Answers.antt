-- `read_end` meets its contract. Assumes nothing.
use Rattle.job_portable.proofs.ending.read_end.Goals as goal

pub returns : goal.returns
returns c =
    rw c.text.ensures.text at c.line_end.ensures
