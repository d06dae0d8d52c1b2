-- `number::capital` meets its contract. Assumes nothing.
use Prim.Native.Nat.{◌%◌}
use native.Mathlib.Omega.{arith}
use Rattle.text.proofs.Capitals.{hex-digit}
use Rattle.text.proofs.number.capital.Goals as goal

pub returns : goal.returns
returns c = rw c.from.ensures (hex-digit (c.args.d % 16) (omega arith))
