-- `modes::stages::clocked` meets its contract. Assumes nothing.
use mathlib.Core.Path.{sym, ap, ◌∙◌}
use Rattle.std.proofs.lemmas.Result.{err_from_is_err_and}
use Rattle.modes.specs.Scan.{Err, read_behind, read_clock}
use Rattle.modes.proofs.stages.clocked.Goals as goal

pub returns-in_err-whole : goal.returns-in_err-whole
unfolding read_clock
returns-in_err-whole c =
    let p = err_from_is_err_and c.from_residual.result c.from_residual.ensures.1 in
    p.1 ∙ ap Err p.2 ∙ sym (c.in_err-whole.ensures.value (read_behind c.args.name))

pub returns : goal.returns
unfolding read_clock
returns c = c.behind_whole.ensures ∙ sym (c.in_ok-whole.ensures.value.same (read_behind c.args.name))
