-- `Number::read` meets its contract. Assumes nothing.
use Rattle.bits.proofs.Rows.{number_word}
use Rattle.bits.proofs.numbers.Number.read.Goals as goal

pub returns : goal.returns
returns c =
    let a = c.args in
    number_word a.self a.registers.now a.last c.size.result.bits c.gather.result c.meant.result c.gather.ensures c.meant.ensures c.size.ensures
