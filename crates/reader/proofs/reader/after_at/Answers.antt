-- `after_at` meets its contract. Assumes nothing.
use mathlib.Core.Path.{ap}
use native.Mathlib.Omega.{arith}
use lib.ListN.{length, length-drop}
use Rattle.reader.proofs.Positions.{after_is}
use Rattle.reader.proofs.reader.after_at.Goals as goal

pub returns : goal.returns
returns c =
    omega (arith, c.min.ensures, ap length c.left_at.ensures, length-drop c.args.at c.args.trace.now, after_is c.args.trace.now c.args.at)
