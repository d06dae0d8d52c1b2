-- `parts::summary_lines` meets its contract. Assumes nothing.
use Prim.Native.Nat.{◌+◌, ◌<◌}
use native.Mathlib.Omega.{arith}
use borrow.Author.Tests.{le-leb, lt-leb}
use lib.ListN.{length}
use Rattle.clock_text.specs.Parts.{summary_most}
use Rattle.clock_text.proofs.Lengths.{summary-most}
use Rattle.clock_text.proofs.Typed.{sized}
use Rattle.clock_text.proofs.PartsReported.{summary-done, summary-short}
use Rattle.clock_text.proofs.parts.summary_lines.Goals as goal
use Rattle.clock_text.proofs.parts.summary_lines.Goals.{then-lines-at-via-then-lines-at, then-lines-at-via-else-lines-at+then-lines-at-lt-SUMMARY_MOST}

pub returns-then-lines-at : goal.returns-then-lines-at
unfolding summary_most
returns-then-lines-at c =
    let args = c.args in
    let short : length args.lines.now < args.at + 131 =
    elim c.then-lines-at.branch [ then-lines-at-via-then-lines-at w ↦ omega arith | then-lines-at-via-else-lines-at+then-lines-at-lt-SUMMARY_MOST w ↦ omega arith ] in
    record {
      lined = summary-short args.lines.now args.at args.tally (lt-leb (args.at + summary_most) (length args.lines.now) short);
      most = summary-most args.tally (sized args.tally _ c.well_formed.1.1.0);
    }

pub put_summary-requires : goal.put_summary-requires
unfolding summary_most
put_summary-requires c =
    let t = c.args.tally in
    omega (arith, summary-most t (sized t _ c.well_formed.1.1.0))

pub returns : goal.returns
unfolding summary_most
returns c =
    let args = c.args in
    let t = args.tally in
    record {
      lined =
          summary-done args.lines.now args.at t (le-leb (args.at + summary_most) (length args.lines.now) (omega arith)) (sized t _ c.well_formed.1.1.0) _ _ c.put_summary.ensures;
      most = summary-most t (sized t _ c.well_formed.1.1.0);
    }
