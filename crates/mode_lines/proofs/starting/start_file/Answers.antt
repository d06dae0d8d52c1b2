-- `start_file` meets its contract. Assumes nothing.
use mathlib.Core.Bool.{false}
use mathlib.Core.Path.{ap, ◌∙◌}
use Rattle.file.specs.declared.effect.Effect.TheVariants.{Store}
use Rattle.file.specs.Effects.{apply}
use Rattle.file.specs.Names.{CR1B}
use Rattle.mode_lines.specs.Start.{start_file}
use Rattle.mode_lines.proofs.starting.start_file.Goals as goal

pub returns-then-not-wide : goal.returns-then-not-wide
unfolding start_file
returns-then-not-wide c = rw c.if-not-wide.true c.power_on.ensures

pub returns : goal.returns
unfolding start_file
returns c =
    rw c.if-not-wide.false
    (c.apply.ensures ∙ ap (apply (Store false CR1B 0x20 0x20)) c.power_on-2.ensures)
