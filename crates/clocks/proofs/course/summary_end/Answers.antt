-- `summary_end` gives the whole summary. Assumes nothing.
use Rattle.clocks.proofs.TurnsReport.{summary-stands}
use Rattle.clocks.proofs.course.summary_end.Goals as goal

pub returns : goal.returns
returns c = record {
  prefix_len = (summary-stands c.args.tally c.args.lines.now _ c.requires c.summary_lines.result c.summary_lines.ensures.lined).0;
  value = (summary-stands c.args.tally c.args.lines.now _ c.requires c.summary_lines.result c.summary_lines.ensures.lined).1.0;
  lines_after = (summary-stands c.args.tally c.args.lines.now _ c.requires c.summary_lines.result c.summary_lines.ensures.lined).1.1;
}
