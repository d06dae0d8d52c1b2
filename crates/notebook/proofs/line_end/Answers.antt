-- `line_end` gives the whole line. Assumes nothing.
use native.Mathlib.Omega.{arith}
use Rattle.portable_text.specs.Line.{line_of}
use Rattle.portable_text.proofs.Lines.{line-short}
use Rattle.text.proofs.Standing.{stands}
use Rattle.notebook.proofs.line_end.Goals as goal

pub returns : goal.returns
returns c = record {
  prefix_len = (let bytes = c.args.bytes.now in
      stands (line_of bytes) c.args.line.now _ (omega (arith, line-short bytes, c.requires)) c.timing_line.result c.timing_line.ensures).0;
  value = (let bytes = c.args.bytes.now in
      stands (line_of bytes) c.args.line.now _ (omega (arith, line-short bytes, c.requires)) c.timing_line.result c.timing_line.ensures).1.0;
  line_after = (let bytes = c.args.bytes.now in
      stands (line_of bytes) c.args.line.now _ (omega (arith, line-short bytes, c.requires)) c.timing_line.result c.timing_line.ensures).1.1;
}
