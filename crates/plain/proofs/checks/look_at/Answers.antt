-- `look_at` meets its contract. Assumes nothing.
use mathlib.Core.Path.{sym, ap, ◌∙◌}
use borrow.Author.Tests.{eq-eqb, ne_eqb}
use Rattle.file.specs.declared.answer.Answer.{Answer}
use Rattle.std.specs.Prelude.{Err}
use Rattle.plain.specs.Looked.{looked_at}
use Rattle.plain.proofs.checks.look_at.Goals as goal

pub returns-in_default : goal.returns-in_default
unfolding looked_at
returns-in_default c = rw c.in_default.is (ap (λ (a : Answer). Err a) c.nothing_there.ensures)

pub returns-then-is_other_half : goal.returns-then-is_other_half
unfolding looked_at
returns-then-is_other_half c = rw (c.in-Some.is, sym c.is_other_half.ensures ∙ c.if-is_other_half.true)

pub returns-then-row-asked : goal.returns-then-row-asked
unfolding looked_at
returns-then-row-asked c = rw (c.in-Some.is, sym c.is_other_half.ensures ∙ c.if-is_other_half.false, ne_eqb _ _ c.if-row-asked.true)

pub returns : goal.returns
unfolding looked_at
returns c = rw (c.in-Some.is, sym c.is_other_half.ensures ∙ c.if-is_other_half.false, eq-eqb _ _ c.if-row-asked.false)
