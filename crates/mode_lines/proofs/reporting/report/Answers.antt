-- `reporting::report` meets its contract. Assumes nothing.
use Prim.Native.Nat.{◌+◌}
use mathlib.Core.Path.{◌≡◌}
use mathlib.Core.Bool.{true}
use native.Mathlib.Omega.{arith}
use borrow.Author.Tests.{le-leb, lt-leb}
use lib.Dec.{leb}
use lib.ListN.{length}
use Rattle.mode_file.proofs.Laws.{line-bounds}
use Rattle.mode_lines.specs.Report.{report_line}
use Rattle.mode_lines.proofs.Reports.{a-report, no-report, report-ends, report-short, typed}
use Rattle.mode_lines.proofs.reporting.report.Goals as goal

pub returns-then-saturating_sub-lt-MOST-clause-reported : goal.returns-then-saturating_sub-lt-MOST-clause-reported
returns-then-saturating_sub-lt-MOST-clause-reported c =
    let args = c.args in
    let read = c.read_into-read in
    record {
      read = read.result;
      into = read.ensures;
      lined = no-report args.buffer.now args.at (report_line args.number read.result)
          (lt-leb (args.at + 256) (length args.buffer.now) (omega (arith, c.saturating_sub.ensures, c.if-saturating_sub-lt-MOST.true)));
    }

pub returns-clause-reported : goal.returns-clause-reported
returns-clause-reported c =
    let args = c.args in
    let read = c.read_into-read in
    let room : leb (args.at + 256) (length args.buffer.now) ≡ true = le-leb (args.at + 256) (length args.buffer.now) (omega (arith, c.saturating_sub.ensures, c.if-saturating_sub-lt-MOST.false)) in
    let short = report-short args.number read.result.said read.result.file (omega arith) (typed (length args.line.now) read.result.said (omega arith) (line-bounds args.line.now args.file read.result read.ensures)) in
    record {
      read = read.result;
      into = read.ensures;
      lined = a-report args.buffer.now args.at (report_line args.number read.result) room short c.put_report.ensures;
    }

pub returns-clause-end_bound : goal.returns-clause-end_bound
returns-clause-end_bound c =
    let args = c.args in
    let read = c.read_into-read in
    let room : leb (args.at + 256) (length args.buffer.now) ≡ true = le-leb (args.at + 256) (length args.buffer.now) (omega (arith, c.saturating_sub.ensures, c.if-saturating_sub-lt-MOST.false)) in
    let short = report-short args.number read.result.said read.result.file (omega arith) (typed (length args.line.now) read.result.said (omega arith) (line-bounds args.line.now args.file read.result read.ensures)) in
    report-ends args.buffer.now args.at (report_line args.number read.result) room short c.put_report.ensures
