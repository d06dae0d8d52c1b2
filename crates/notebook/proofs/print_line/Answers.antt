-- `print_line` has a buffer that is long enough. Assumes nothing.
use native.Mathlib.Omega.{arith}
use Rattle.portable_text.specs.Line.{line_most}
use Rattle.notebook.proofs.print_line.Goals as goal

pub line_end-end-requires : goal.line_end-end-requires
unfolding line_most
line_end-end-requires c = omega arith
