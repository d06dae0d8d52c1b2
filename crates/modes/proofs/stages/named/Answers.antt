-- `modes::stages::named` meets its contract. Assumes nothing.
use mathlib.Core.Path.{sym, ap, ◌∙◌}
use native.Mathlib.Omega.{arith}
use Rattle.std.proofs.lemmas.Result.{err_from_is_err_and}
use Rattle.modes.specs.Scan.{Err, read_clock}
use Rattle.modes.proofs.StagesRead.{name-none, name-some}
use Rattle.modes.proofs.stages.named.Goals as goal

pub returns-then-count-eq0 : goal.returns-then-count-eq0
returns-then-count-eq0 c = sym (name-none c.args.line.now c.args.at c.name_length-count.result c.name_length-count.ensures.value c.if-count-eq0.true)

pub returns-in_err-at : goal.returns-in_err-at
returns-in_err-at c =
    let p = err_from_is_err_and c.from_residual.result c.from_residual.ensures.1 in
    p.1 ∙ ap Err p.2 ∙ sym (name-some c.args.line.now c.args.at c.name_length-count.result c.name_length-count.ensures.value (omega (arith, c.if-count-eq0.false)) ∙ c.in_err-at.ensures (λ u. read_clock c.name_length-count.result))

pub returns : goal.returns
returns c =
    let count = c.name_length-count.result in
    c.clocked.ensures
    ∙ sym (name-some c.args.line.now c.args.at count c.name_length-count.ensures.value (omega (arith, c.if-count-eq0.false)) ∙ c.in_ok-at.ensures.same (λ u. read_clock count))
