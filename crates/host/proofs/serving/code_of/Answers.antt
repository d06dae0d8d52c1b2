-- `code_of` meets its contract. Assumes nothing.
use mathlib.Core.Path.{sym, ◌∙◌}
use borrow.Author.Tests.{eq-eqb, ne_eqb}
use Rattle.host.proofs.Known.{code-port, code-mmio, code-config}
use Rattle.host.proofs.serving.code_of.Goals as goal

pub returns-then-enables-eq0 : goal.returns-then-enables-eq0
returns-then-enables-eq0 c = sym (code-port _ _ _ (eq-eqb _ _ c.if-space-eq1.true) ∙ rw (eq-eqb _ _ c.if-enables-eq0.true))

pub returns-then-space-eq1 : goal.returns-then-space-eq1
returns-then-space-eq1 c = c.row_code.ensures ∙ sym (code-port _ _ _ (eq-eqb _ _ c.if-space-eq1.true) ∙ rw (ne_eqb _ _ c.if-enables-eq0.false))

pub returns-then-enables-eq0-2 : goal.returns-then-enables-eq0-2
returns-then-enables-eq0-2 c = sym (code-mmio _ _ _ (ne_eqb _ _ c.if-space-eq1.false) (eq-eqb _ _ c.if-space-eq2.true) ∙ rw (eq-eqb _ _ c.if-enables-eq0-2.true))

pub returns-else-enables-eq0-2 : goal.returns-else-enables-eq0-2
returns-else-enables-eq0-2 c = sym (code-mmio _ _ _ (ne_eqb _ _ c.if-space-eq1.false) (eq-eqb _ _ c.if-space-eq2.true) ∙ rw (ne_eqb _ _ c.if-enables-eq0-2.false))

pub returns-else-space-eq2 : goal.returns-else-space-eq2
returns-else-space-eq2 c = sym (code-config _ _ _ (ne_eqb _ _ c.if-space-eq1.false) (ne_eqb _ _ c.if-space-eq2.false))
