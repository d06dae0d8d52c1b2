-- `line_end` meets its contract. Assumes nothing.
use mathlib.Core.Path.{ap}
use Rattle.portable.specs.declared.Read.{Read}
use Rattle.job_portable.proofs.Ends.{line-put, line-short}
use Rattle.job_portable.proofs.ending.line_end.Goals as goal

pub returns-in-Done : goal.returns-in-Done
returns-in-Done c =
    line-put c.args.bytes.now c.args.out.now _ c.timing_line-placed.result c.timing_line-placed.ensures c.in-Done.field-0 c.in-Done.is
    c.read_timing.result.answer (ap (λ (r : Read). r.answer) c.read_timing.ensures)

pub returns-in_default : goal.returns-in_default
returns-in_default c =
    line-short c.args.bytes.now c.args.out.now _ c.timing_line-placed.result c.timing_line-placed.ensures c.in_default.not-Done
