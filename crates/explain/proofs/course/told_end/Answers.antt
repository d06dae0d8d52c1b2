-- `told_end` gives the whole of what is told of a record. Assumes nothing.
use Prim.Native.Nat.{◌+◌}
use mathlib.Core.Path.{refl}
use native.Mathlib.Omega.{arith}
use borrow.Author.Tests.{le-leb}
use lib.ListN.{length}
use Rattle.explaining.specs.Explained.{record_answer, record_most}
use Rattle.explaining.specs.Lines.{most_answer}
use Rattle.summing.specs.Together.{together_answer, together_most}
use Rattle.summing.specs.Told.{record_told}
use Rattle.explain.proofs.ToldInParts.{text-stands}
use Rattle.explain.proofs.course.told_end.Goals as goal

pub returns-then-sums : goal.returns-then-sums
unfolding record_told together_answer most_answer
returns-then-sums c =
    let room = le-leb (0 + together_most) (length c.args.lines.now) (omega (arith, c.requires)) in
    let stood = text-stands _ _ c.args.lines.now _ c.together_lines.result (rw room refl) c.together_lines.ensures in
    record { prefix_len = stood.0; value = rw c.if-sums.true stood.1.0; lines_after = rw c.if-sums.true stood.1.1 }

pub returns : goal.returns
unfolding record_told record_answer most_answer
returns c =
    let room = le-leb (0 + record_most) (length c.args.lines.now) (omega (arith, c.requires)) in
    let stood = text-stands _ _ c.args.lines.now _ c.record_lines.result (rw room refl) c.record_lines.ensures in
    record { prefix_len = stood.0; value = rw c.if-sums.false stood.1.0; lines_after = rw c.if-sums.false stood.1.1 }
