-- `begin` starts from power-on. Assumes nothing.
use mathlib.Core.Path.{ap, ◌∙◌}
use Rattle.summing.specs.Summed.{begun}
use Rattle.explain.specs.Turns.{beginning}
use Rattle.explain.specs.declared.course.Going.TheVariants.{More}
use Rattle.explain.proofs.course.begin.Goals as goal

pub returns : goal.returns
unfolding beginning
returns c =
    λ i. record {
      number = 0;
      going = More;
      read = c.nothing_read.ensures i;
      handed = c.nothing_handed.ensures i;
      file = c.power_on-file.ensures i;
      summary = (c.begin.ensures ∙ ap begun c.power_on-file.ensures) i;
    }
