-- `leave_read` meets its contract. Assumes nothing.
use mathlib.Core.Path.{refl, sym, ◌∙◌}
use native.Mathlib.Omega.{arith}
use Rattle.std.proofs.lemmas.Bool.{leb-true, leb-false}
use Rattle.file.specs.Answers.{code_of, refused}
use Rattle.host.proofs.Shown.{shown-unfit, shown-refused, shown-done}
use Rattle.host.proofs.lists.leave_read.Goals as goal

pub returns-then-not-fits : goal.returns-then-not-fits
unfolding code_of
returns-then-not-fits g c = rw c.code.ensures (shown-unfit _ _ _ _ (sym c.fits.ensures ∙ c.if-not-fits.true))

pub returns-then-is_refused : goal.returns-then-is_refused
unfolding refused
returns-then-is_refused g c =
    let over = leb-true 2 _ (sym c.is_refused.ensures ∙ c.if-is_refused.true) in
    shown-refused _ _ _ _ (sym c.fits.ensures ∙ c.if-not-fits.false) _ c.code-then-is_refused.ensures (omega (arith, over, c.code-then-is_refused.ensures))

pub returns : goal.returns
unfolding refused
returns g c =
    let under = leb-false 2 _ (sym c.is_refused.ensures ∙ c.if-is_refused.false) in
    shown-done _ _ _ _ (sym c.fits.ensures ∙ c.if-not-fits.false) _ c.code-2.ensures (omega (arith, under, c.code-2.ensures)) _ refl
