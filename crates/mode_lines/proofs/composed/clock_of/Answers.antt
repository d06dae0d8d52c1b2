-- `composed::clock_of` meets its contract. Assumes nothing.
use mathlib.Core.Path.{refl, sym, ap}
use Rattle.file.specs.Readers.{ascii}
use Rattle.modes.specs.Form.{header}
use Rattle.mode_lines.specs.ClockLine.{clock_line, khz_said}
use Rattle.mode_lines.proofs.ClockLines.{clock-said}
use Rattle.mode_lines.proofs.Laying.{kept_then}
use Rattle.mode_lines.proofs.composed.clock_of.Goals as goal

pub returns-in-Ok : goal.returns-in-Ok
unfolding clock_line header ascii khz_said
returns-in-Ok c =
    let args = c.args in
    let line =
    kept_then
    (kept_then (kept_then (kept_then c.keep-at.ensures.kept c.keep-at-2.ensures.kept) c.keep-at-3.ensures.kept) c.keep-at-4.ensures.kept)
    c.keep-at-5.ensures.kept in
    clock-said args.name.now args.mhz.now c.parse.result refl line c.parse.ensures _ (ap khz_said (sym c.in-Ok.is))

pub returns-in-Err : goal.returns-in-Err
unfolding clock_line header ascii khz_said
returns-in-Err c =
    let args = c.args in
    let line =
    kept_then
    (kept_then (kept_then (kept_then c.keep-at.ensures.kept c.keep-at-2.ensures.kept) c.keep-at-3.ensures.kept) c.keep-at-4.ensures.kept)
    c.keep-at-5.ensures.kept in
    clock-said args.name.now args.mhz.now c.parse.result refl line c.parse.ensures _ (ap khz_said (sym c.in-Err.is))
