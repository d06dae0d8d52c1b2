-- `timing_end` gives the whole timing line. Assumes nothing.
use Rattle.shell.proofs.Timed.{timing-stands}
use Rattle.shell.proofs.printing.timing_end.Goals as goal

pub returns : goal.returns
returns c = record {
  prefix_len = (timing-stands c.args.file c.requires.t c.read_timing.result c.read_timing.ensures c.args.line.now _ c.requires.timing_most_in_bounds c.timing_line.result c.timing_line.ensures).0;
  value = (timing-stands c.args.file c.requires.t c.read_timing.result c.read_timing.ensures c.args.line.now _ c.requires.timing_most_in_bounds c.timing_line.result c.timing_line.ensures).1.0;
  line_after = (timing-stands c.args.file c.requires.t c.read_timing.result c.read_timing.ensures c.args.line.now _ c.requires.timing_most_in_bounds c.timing_line.result c.timing_line.ensures).1.1;
}
