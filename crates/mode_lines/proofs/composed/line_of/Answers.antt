-- `composed::line_of` meets its contract. Assumes nothing.
use Rattle.mode_lines.proofs.ClockLines.{wrote-counts}
use Rattle.mode_lines.proofs.composed.line_of.Goals as goal

pub returns : goal.returns
returns c =
    let args = c.args in
    let wrote = c.write_from in record {
      line_of = record { khz = c.clock_of.result; said = c.clock_of.ensures; wrote = wrote.ensures };
      prefix_len = wrote-counts args.file args.name.now c.clock_of.result args.buffer.now _ wrote.result wrote.ensures;
    }
