-- `finish` meets its contract. Assumes nothing.
use mathlib.Core.Path.{ap, ◌∙◌}
use Rattle.host.specs.Numbers.{told}
use Rattle.host.proofs.serving.finish.Goals as goal

pub returns : goal.returns
returns c =
    let served = c.args.served in record {
      value = c.told.ensures ∙ ap (told served.code) c.value_of-value.ensures;
      rest_after = c.leave.ensures;
    }
