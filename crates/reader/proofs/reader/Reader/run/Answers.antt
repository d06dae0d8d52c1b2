-- `run` meets its contract: the reader keeps its trace. Assumes nothing.
use mathlib.Core.Path.{ap}
use Rattle.reader.specs.Reader.{handed_back}
use Rattle.reader.specs.declared.reader.RanAt.{RanAt}
use Rattle.reader.specs.declared.reader.HandedBack.{HandedBack}
use Rattle.reader.proofs.reader.Reader.run.Goals as goal

pub returns : goal.returns
unfolding handed_back
returns c = (
  ap {B = HandedBack} (λ (g : RanAt). record { ran = g.ran; reader = record { trace = c.args.self.trace; at = g.at } }) c.run_at-after.ensures.0,
  c.run_at-after.ensures.1,
)
