-- `run_from` meets its contract. Assumes nothing.
use mathlib.Core.Path.{ap}
use Rattle.reader.specs.Reader.{handed_back}
use Rattle.reader.specs.declared.reader.RanAt.{RanAt}
use Rattle.reader.specs.declared.reader.HandedBack.{HandedBack}
use Rattle.reader.proofs.reader.run_from.Goals as goal

pub returns : goal.returns
unfolding handed_back
returns c = (
  ap {B = RanAt} (λ (b : HandedBack). record { ran = b.ran; at = b.reader.at }) c.run-back.ensures.0,
  c.run-back.ensures.1,
)
