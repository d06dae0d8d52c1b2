-- `modes::stages::parse` meets its contract. Assumes nothing.
use mathlib.Core.Path.{sym, ap, ◌∙◌}
use mathlib.Core.Path.{subst}
use Rattle.std.proofs.lemmas.Result.{err_from_is_err_and}
use Rattle.modes.specs.Form.{header}
use Rattle.modes.specs.Promises.{Told}
use Rattle.modes.specs.Scan.{Err, read_name}
use Rattle.modes.proofs.StagesRead.{line-whole, tells}
use Rattle.modes.proofs.stages.parse.Goals as goal

pub returns-in_err-at : goal.returns-in_err-at
unfolding header
returns-in_err-at c =
    let line = c.args.line.now in
    let p = err_from_is_err_and c.from_residual.result c.from_residual.ensures.1 in
    subst (Told line) (line-whole line ∙ c.in_err-at.ensures (λ u. read_name) ∙ sym (p.1 ∙ ap Err p.2)) (tells line)

pub returns : goal.returns
unfolding header
returns c =
    let line = c.args.line.now in
    subst (Told line) (line-whole line ∙ c.in_ok-at.ensures.same (λ u. read_name) ∙ sym c.named.ensures) (tells line)
