-- `stepping::unended` meets its contract. Assumes nothing.
use Rattle.std.proofs.Common.{refl, sym, ◌∙◌}
use Rattle.options.specs.Steps.{unended}
use Rattle.options.proofs.SameTexts.{told-same}
use Rattle.options.proofs.stepping.unended.Goals as goal

pub returns-then-eq : goal.returns-then-eq
unfolding unended
returns-then-eq c = rw (told-same _ _ (rw (c.part.ensures, c.as_slice.ensures) at c.eq.ensures) c.if-eq.true, c.options_ended.ensures) refl

pub returns-then-is_option : goal.returns-then-is_option
unfolding unended
returns-then-is_option c =
    rw (
      told-same _ _ (rw (c.part.ensures, c.as_slice.ensures) at c.eq.ensures) c.if-eq.false,
      sym (rw c.part-2.ensures at c.is_option.ensures) ∙ c.if-is_option.true,
    ) c.optioned.ensures

pub returns : goal.returns
unfolding unended
returns c =
    rw (
      told-same _ _ (rw (c.part.ensures, c.as_slice.ensures) at c.eq.ensures) c.if-eq.false,
      sym (rw c.part-2.ensures at c.is_option.ensures) ∙ c.if-is_option.false,
    ) c.operand.ensures
