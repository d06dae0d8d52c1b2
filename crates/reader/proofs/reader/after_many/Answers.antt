-- `after_many` meets its contract. Assumes nothing.
use mathlib.Core.Path.{ap}
use native.Mathlib.Omega.{arith}
use lib.ListN.{length, length-drop}
use Rattle.reader.proofs.Positions.{many-after}
use Rattle.reader.proofs.reader.after_many.Goals as goal

pub overflow_add-result : goal.overflow_add-result
overflow_add-result c =
    record { fits = omega (arith, c.place_after.ensures, ap length c.left_at-left.ensures, length-drop c.args.at c.args.trace.now) }

pub returns : goal.returns
returns c = many-after c.args.trace.now _ c.args.at c.args.count _ c.left_at-left.ensures c.place_after.ensures
