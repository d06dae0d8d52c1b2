-- `parts::report_next` meets its contract. Assumes nothing.
use mathlib.Core.Path.{refl}
use native.Mathlib.Omega.{arith}
use borrow.Author.Tests.{not-true, not-false}
use Rattle.mode_lines.proofs.Reports.{report-done}
use Rattle.mode_lines.proofs.parts.report_next.Goals as goal

pub returns-then-not-taken : goal.returns-then-not-taken
returns-then-not-taken c =
    record {
      taken = c.take_line-taken.result;
      took = c.take_line-taken.ensures.took_line;
      used = refl;
      short = omega arith;
      next = rw (not-true c.take_line-taken.result.ended c.if-not-taken.true) (refl, refl, refl, refl);
    }

pub overflow_add-result : goal.overflow_add-result
overflow_add-result c = omega (arith, c.requires.part_bound)

pub returns : goal.returns
returns c =
    let args = c.args in
    let taken = c.take_line-taken in
    let reported = report-done _ args.file args.before.number args.before.end args.reports.now _ c.report-placed.result (omega (arith, c.requires.part_bound)) c.report-placed.ensures.reported in
    record {
      taken = taken.result;
      took = taken.ensures.took_line;
      used = refl;
      short = c.report-placed.ensures.end_bound;
      next = rw (not-false c.take_line-taken.result.ended c.if-not-taken.false) (refl, refl, reported);
    }
