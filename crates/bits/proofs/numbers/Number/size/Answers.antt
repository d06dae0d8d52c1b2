-- `Number::size` meets its contract. Assumes nothing.
use Rattle.std.proofs.Common.{arith}
use Rattle.bits.proofs.numbers.Number.size.Goals as goal

pub returns : goal.returns
returns c = omega (arith, c.of.ensures, c.width.ensures)
