-- `print_timing` takes no more of its buffer than the line fills. Assumes nothing.
use Rattle.timing_examples.proofs.Behind.{all-taken, behind-within}
use Rattle.timing_examples.proofs.print_timing.Goals as goal

pub slice_bounds-write_all-end : goal.slice_bounds-write_all-end
slice_bounds-write_all-end g c = all-taken _ _ (behind-within c.timing_line-end.ensures)

pub slice_bounds-line-end : goal.slice_bounds-line-end
slice_bounds-line-end g c = behind-within c.timing_line-end.ensures
