-- `stepping::is_bad` meets its contract. Assumes nothing.
use Rattle.std.proofs.Common.{◌∙◌}
use Rattle.options.specs.Steps.{is_bad}
use Rattle.options.proofs.SameTexts.{same-empty}
use Rattle.options.proofs.stepping.is_bad.Goals as goal

pub returns-in-Since : goal.returns-in-Since
unfolding is_bad
returns-in-Since c = rw c.in-Since.is (c.is_empty.ensures ∙ same-empty _)
