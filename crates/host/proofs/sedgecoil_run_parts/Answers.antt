-- `sedgecoil_run_parts` meets its contract. Assumes nothing.
use Prim.Native.Nat.{◌<◌, ◌≤◌}
use mathlib.Core.Path.{sym, ◌∙◌}
use native.Mathlib.Omega.{arith}
use Rattle.std.proofs.lemmas.Bool.{leb-true, leb-false}
use Rattle.file.specs.Answers.{code_of, refused}
use Rattle.host.proofs.Told.{refusing, doing, run-unfit, run-told}
use Rattle.host.proofs.sedgecoil_run_parts.Goals as goal

pub returns-then-not-fits : goal.returns-then-not-fits
unfolding code_of
returns-then-not-fits c = rw c.code.ensures (run-unfit _ _ _ _ (sym c.fits.ensures ∙ c.if-not-fits.true))

pub returns-then-is_refused : goal.returns-then-is_refused
unfolding refused
returns-then-is_refused c =
    let over = leb-true 2 _ (sym c.is_refused.ensures ∙ c.if-is_refused.true) in
    let large : 2 ≤ c.code-then-is_refused.result = omega (arith, over, c.code-then-is_refused.ensures) in
    run-told _ _ _ _ c.held.result c.held.ensures (sym c.fits.ensures ∙ c.if-not-fits.false) c.run-ran.result.answer c.run-ran.result.file c.run-ran.result.count _ c.run-ran.ensures.answer_value.0 c.run-ran.ensures.answer_value.1 c.run-ran.ensures.answer_value.2 c.run-ran.ensures.replies_after
    _ c.code-then-is_refused.ensures _ _ (refusing _ _ _ large) (refusing _ _ _ large)

pub returns : goal.returns
unfolding refused
returns c =
    let under = leb-false 2 _ (sym c.is_refused.ensures ∙ c.if-is_refused.false) in
    let small : c.code-2.result < 2 = omega (arith, under, c.code-2.ensures) in
    run-told _ _ _ _ c.held.result c.held.ensures (sym c.fits.ensures ∙ c.if-not-fits.false) c.run-ran.result.answer c.run-ran.result.file c.run-ran.result.count _ c.run-ran.ensures.answer_value.0 c.run-ran.ensures.answer_value.1 c.run-ran.ensures.answer_value.2 c.run-ran.ensures.replies_after
    _ c.code-2.ensures _ _ (doing _ _ _ _ small c.put_file.ensures.0) (doing _ _ _ _ small c.put_file.ensures.1)
