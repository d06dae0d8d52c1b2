-- `steps::feed` meets its contract: it takes as many records as its definition says. Assumes nothing.
use mathlib.Core.Path.{sym}
use native.Mathlib.Omega.{arith}
use lib.ListN.{length}
use lib.Seq.{length-take-le}
use Rattle.job_replay.proofs.Taken.{nothing-fed, some-fed, some-run, within_step}
use Rattle.job_replay.proofs.steps.feed.Goals as goal

pub returns-then-records-eq0 : goal.returns-then-records-eq0
returns-then-records-eq0 c =
    let args = c.args in
    let taken = c.records_taken-records in
    nothing-fed args.prints args.last args.before args.part.now args.out.now taken.result taken.ensures c.if-records-eq0.true

pub overflow_mul-records : goal.overflow_mul-records
overflow_mul-records c =
    let args = c.args in
    omega (arith, c.records_taken-records.ensures, within_step args.prints args.last args.before args.part.now (length args.out.now))

pub slice_bounds-run_some-end : goal.slice_bounds-run_some-end
slice_bounds-run_some-end c = sym (length-take-le _ _ (omega (arith, c.min-used.ensures)))

pub run_some-requires : goal.run_some-requires
run_some-requires c =
    let args = c.args in
    let used = c.min-used in
    let all =
    some-run args.prints args.last args.before args.part.now args.out.now c.records_taken-records.result
    c.records_taken-records.ensures used.result used.ensures c.if-records-eq0.false in
    record { t = all.0; part_bound = all.1.0; part_in_bounds = all.1.1.0; part_bound_2 = all.1.1.1 }

pub returns : goal.returns
returns c =
    let args = c.args in
    let used = c.min-used in
    let run = c.run_some in
    some-fed args.prints args.last args.before args.part.now args.out.now c.records_taken-records.result
    c.records_taken-records.ensures used.result used.ensures _ run.result run.ensures
