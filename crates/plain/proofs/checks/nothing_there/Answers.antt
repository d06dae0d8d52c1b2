-- `nothing_there` meets its contract. Assumes nothing.
use mathlib.Core.Path.{sym, ◌∙◌}
use Rattle.plain.specs.Looked.{nothing_there}
use Rattle.plain.proofs.checks.nothing_there.Goals as goal

pub returns-then-is_held_other_way : goal.returns-then-is_held_other_way
unfolding nothing_there
returns-then-is_held_other_way c = rw (sym c.is_held_other_way.ensures ∙ c.if-is_held_other_way.true)

pub returns-then-is_inside_wider : goal.returns-then-is_inside_wider
unfolding nothing_there
returns-then-is_inside_wider c = rw (sym c.is_held_other_way.ensures ∙ c.if-is_held_other_way.false, sym c.is_inside_wider.ensures ∙ c.if-is_inside_wider.true)

pub returns : goal.returns
unfolding nothing_there
returns c = rw (sym c.is_held_other_way.ensures ∙ c.if-is_held_other_way.false, sym c.is_inside_wider.ensures ∙ c.if-is_inside_wider.false)
