-- `modes::stages::numbered` meets its contract. Assumes nothing.
use mathlib.Core.Path.{sym, ap, ◌∙◌}
use mathlib.Core.Path.{refl}
use Rattle.std.proofs.lemmas.Result.{err_from_is_err_and}
use Rattle.modes.specs.Scan.{Err, unflagged}
use Rattle.modes.proofs.StagesRead.{numbering, numbers-none, numbers-bad, numbers-next, numbers-done}
use Rattle.modes.proofs.stages.numbered.Goals as goal

pub loop-count-init : goal.loop-count-init
loop-count-init c = numbering c.args.line.now c.args.at c.args.name c.args.khz _ c.requires refl

pub returns-in_err-digits : goal.returns-in_err-digits
returns-in_err-digits c =
    let here = c.loop-count in
    let p = err_from_is_err_and c.from_residual.result c.from_residual.ensures.1 in
    p.1 ∙ ap Err p.2 ∙ sym (numbers-none c.args.line.now c.args.at c.args.name c.args.khz here.numbers here.end here.count here.invariant _ c.loop-count-test.true c.in_err-digits.ensures)

pub returns-in_err-read : goal.returns-in_err-read
returns-in_err-read c =
    let here = c.loop-count in
    let p = err_from_is_err_and c.from_residual-in_err-read.result c.from_residual-in_err-read.ensures.1 in
    p.1 ∙ ap Err p.2
    ∙ sym (numbers-bad c.args.line.now c.args.at c.args.name c.args.khz here.numbers here.end here.count here.invariant c.loop-count-test.true _ c.in_ok-digits.ensures _ c.in_err-read.ensures.value)

pub loop-count-preserved : goal.loop-count-preserved
loop-count-preserved c =
    let here = c.loop-count in
    numbers-next c.args.line.now c.args.at c.args.name c.args.khz here.numbers here.end here.count here.invariant c.loop-count-test.true _ c.in_ok-digits.ensures c.in_ok-read.read c.in_ok-read.ensures.value

pub returns : goal.returns
unfolding unflagged
returns c =
    let here = c.loop-count in
    c.flags.ensures ∙ sym (numbers-done c.args.line.now c.args.at c.args.name c.args.khz here.numbers here.end here.count here.invariant c.loop-count-test.false)
