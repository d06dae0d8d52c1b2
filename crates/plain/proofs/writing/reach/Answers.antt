-- `reach` meets its contract. Assumes nothing.
use mathlib.Core.Logic.{inl, inr}
use mathlib.Core.Path.{sym, ◌∙◌}
use borrow.Author.Tests.{eq-eqb, ne_eqb}
use Rattle.bits.proofs.Test.{and-false}
use Rattle.access.specs.Access.{locked_reach}
use Rattle.plain.specs.Told.{row_reach}
use Rattle.plain.proofs.SeenWhole.{lock_seen}
use Rattle.plain.proofs.writing.reach.Goals as goal

pub returns-then-number-eq-CR7 : goal.returns-then-number-eq-CR7
unfolding row_reach locked_reach
returns-then-number-eq-CR7 c =
    rw (sym (c.is_locked.ensures ∙ lock_seen c.args.whole) ∙ c.if-is_locked.true, eq-eqb _ _ c.if-number-eq-CR7.true)

pub returns-else-is_locked : goal.returns-else-is_locked
unfolding row_reach locked_reach
returns-else-is_locked c =
    elim c.else-is_locked.either [
      | inl (l, n) ↦ rw (ne_eqb _ _ n, and-false)
      | inr l ↦ rw (sym (c.is_locked.ensures ∙ lock_seen c.args.whole) ∙ l)
    ]
