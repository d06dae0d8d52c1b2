-- `stepping::operand` meets its contract. Assumes nothing.
use Rattle.std.proofs.Common.{refl, sym, ◌∙◌}
use Rattle.options.specs.Steps.{operand}
use Rattle.options.proofs.SameTexts.{told-empty}
use Rattle.options.proofs.stepping.operand.Goals as goal

pub returns-then-is_some : goal.returns-then-is_some
unfolding operand
returns-then-is_some c = rw (sym (rw c.taken.ensures at c.is_some.ensures) ∙ c.if-is_some.true, c.refused.ensures) refl

pub returns-then-is_empty : goal.returns-then-is_empty
unfolding operand
returns-then-is_empty c =
    rw (
      sym (rw c.taken.ensures at c.is_some.ensures) ∙ c.if-is_some.false,
      told-empty _ (rw c.part.ensures at c.is_empty.ensures) c.if-is_empty.true,
      c.refused-then-is_empty.ensures,
    ) refl

pub returns : goal.returns
unfolding operand
returns c =
    rw (
      sym (rw c.taken.ensures at c.is_some.ensures) ∙ c.if-is_some.false,
      told-empty _ (rw c.part.ensures at c.is_empty.ensures) c.if-is_empty.false,
      c.filled.ensures,
    ) refl
