-- `put_state` meets its contract. Assumes nothing.
use mathlib.Core.Path.{sym}
use native.Mathlib.Omega.{arith}
use lib.Seq.{sets-eq}
use Rattle.image.specs.Parts.{state_bytes}
use Rattle.host.proofs.serving.put_state.Goals as goal

pub returns : goal.returns
unfolding state_bytes
returns c = rw (c.copy_from_slice.ensures.after, c.state_bytes.ensures) (sym (sets-eq (state_bytes c.args.state) c.args.rest.now 0 (omega (arith, c.told-rest))))
