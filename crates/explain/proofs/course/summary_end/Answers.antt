-- `summary_end` gives the whole summary. Assumes nothing.
use Prim.Native.Nat.{◌+◌}
use mathlib.Core.Path.{refl}
use native.Mathlib.Omega.{arith}
use borrow.Author.Tests.{le-leb}
use lib.ListN.{length}
use Rattle.explaining.specs.Lines.{most_answer}
use Rattle.summing.specs.Closing.{summary_answer, summary_most}
use Rattle.explain.proofs.ToldInParts.{text-stands}
use Rattle.explain.proofs.course.summary_end.Goals as goal

pub returns : goal.returns
unfolding summary_answer most_answer
returns c = record {
  prefix_len = (let room = le-leb (0 + summary_most) (length c.args.lines.now) (omega (arith, c.requires)) in
      text-stands _ _ c.args.lines.now _ c.summary_lines.result (rw room refl) c.summary_lines.ensures).0;
  value = (let room = le-leb (0 + summary_most) (length c.args.lines.now) (omega (arith, c.requires)) in
      text-stands _ _ c.args.lines.now _ c.summary_lines.result (rw room refl) c.summary_lines.ensures).1.0;
  lines_after = (let room = le-leb (0 + summary_most) (length c.args.lines.now) (omega (arith, c.requires)) in
      text-stands _ _ c.args.lines.now _ c.summary_lines.result (rw room refl) c.summary_lines.ensures).1.1;
}
