-- `count_clocks` writes the summary behind the lines. Assumes nothing.
use native.Mathlib.Omega.{arith}
use Rattle.clock_text.specs.Parts.{summary_most}
use Rattle.clocks.proofs.course.count_clocks.Goals as goal

pub summary_end-end-requires : goal.summary_end-end-requires
unfolding summary_most
summary_end-end-requires c = omega arith
