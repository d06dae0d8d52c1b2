-- `reporting::put_mode` meets its contract. Assumes nothing.
use Rattle.file.specs.File.{register}
use Rattle.mode_lines.specs.Report.{mode_text}
use Rattle.mode_lines.proofs.Laying.{kept_then}
use Rattle.mode_lines.proofs.reporting.put_mode.Goals as goal

pub returns : goal.returns
unfolding mode_text register
returns c =
    let clock = rw c.from.ensures at c.put_behind-at.ensures in
    let numbers = rw c.read_timing.ensures at (rw c.numbers-numbers.ensures at c.put_each.ensures) in
    kept_then (kept_then clock c.put_hex-at.ensures) numbers
