-- `explain::put_line` meets its contract. Assumes nothing.
use mathlib.Core.Path.{sym, ◌∙◌}
use native.Mathlib.Omega.{arith}
use Rattle.text.specs.Text.{newline}
use Rattle.explaining.proofs.PutLines.{no_line, whole-line}
use Rattle.explaining.proofs.explain.put_line.Goals as goal

pub returns-then-len-eq0 : goal.returns-then-len-eq0
returns-then-len-eq0 c = record { wrote = no_line c.args.line _ c.args.at (sym c.len.ensures ∙ c.if-len-eq0.true); upper_bound = omega arith }

pub returns : goal.returns
unfolding newline
returns c =
    let most = c.text.ensures.most in
    let bytes = c.put-at.ensures.stored (omega (arith, most)) in
    let end = c.put.ensures.stored (omega (arith, most, bytes.place)) in
    let first = rw c.text.ensures.text at bytes in
    record { wrote = whole-line c.args.line _ _ _ c.args.at _ _ (λ e. c.if-len-eq0.false (c.len.ensures ∙ e)) first end; upper_bound = omega (arith, most, bytes.place, end.place) }
