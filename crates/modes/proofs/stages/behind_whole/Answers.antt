-- `modes::stages::behind_whole` meets its contract. Assumes nothing.
use mathlib.Core.Path.{sym, ap, ◌∙◌}
use Rattle.std.proofs.lemmas.Result.{err_from_is_err_and}
use Rattle.modes.specs.Scan.{Err}
use Rattle.modes.proofs.StagesRead.{behind-point, behind-zero, behind-space}
use Rattle.modes.proofs.stages.behind_whole.Goals as goal

pub returns-in_err-clock : goal.returns-in_err-clock
returns-in_err-clock c =
    let p = err_from_is_err_and c.from_residual.result c.from_residual.ensures.1 in
    p.1 ∙ ap Err p.2 ∙ sym (behind-point c.args.line.now c.args.at c.args.name c.args.whole (sym c.is_at.ensures.value ∙ c.if-is_at.true) ∙ c.in_err-clock.ensures c.args.name)

pub returns-then-is_at : goal.returns-then-is_at
returns-then-is_at c =
    c.numbered.ensures
    ∙ sym (behind-point c.args.line.now c.args.at c.args.name c.args.whole (sym c.is_at.ensures.value ∙ c.if-is_at.true) ∙ c.in_ok-clock.ensures.same c.args.name)

pub returns-then-whole-eq0 : goal.returns-then-whole-eq0
returns-then-whole-eq0 c = sym (behind-zero c.args.line.now c.args.at c.args.name c.args.whole (sym c.is_at.ensures.value ∙ c.if-is_at.false) c.if-whole-eq0.true)

pub returns : goal.returns
returns c =
    c.numbered-2.ensures ∙ sym (behind-space c.args.line.now c.args.at c.args.name c.args.whole (sym c.is_at.ensures.value ∙ c.if-is_at.false) c.if-whole-eq0.false)
