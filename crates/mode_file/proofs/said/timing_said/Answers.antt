-- `mode_file::said::timing_said` meets its contract. Assumes nothing.
use Rattle.timing.specs.Timing.{timing_of}
use Rattle.mode_file.proofs.Clamped.{said-clamped}
use Rattle.mode_file.proofs.said.timing_said.Goals as goal

pub returns : goal.returns
unfolding timing_of
returns c = said-clamped c.args.numbers c.clamped-display.result c.clamped-total.result c.clamped-lines.result c.clamped-all_lines.result c.clamped.result c.clamped-2.result c.clamped-3.result c.clamped-4.result c.clamped-display.ensures c.clamped-total.ensures c.clamped-lines.ensures c.clamped-all_lines.ensures c.clamped.ensures c.clamped-2.ensures c.clamped-3.ensures c.clamped-4.ensures
