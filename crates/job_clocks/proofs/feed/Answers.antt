-- `feed` meets its contract. Assumes nothing.
use Rattle.job_clocks.proofs.Step.{fed-done, fed-full}
use Rattle.job_clocks.proofs.feed.Goals as goal

pub slice_bounds-report_part-end : goal.slice_bounds-report_part-end
slice_bounds-report_part-end c = c.set_bytes-size.ensures.prefix_len.1

pub returns-in-Ok : goal.returns-in-Ok
returns-in-Ok c =
    let args = c.args in
    fed-done args.before args.last args.part.now args.out.now _ c.report_part.result c.set_bytes-size.result c.set_bytes-size.ensures.value c.report_part.ensures
    c.in-Ok.told c.in-Ok.is

pub returns-in-Err : goal.returns-in-Err
returns-in-Err c =
    let args = c.args in
    fed-full args.before args.last args.part.now args.out.now _ c.report_part.result c.set_bytes-size.result c.set_bytes-size.ensures.value c.report_part.ensures
    c.in-Err.field-0 c.in-Err.is
