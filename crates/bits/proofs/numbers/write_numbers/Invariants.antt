-- `bits::numbers::write_numbers` meets its contract. Invariant: the numbers from here on are still to be written. Assumes nothing.
use Rattle.std.proofs.Common.{◌≡◌}
use Rattle.bits.specs.Encoded.{table_of}
use Rattle.bits.specs.Numbers.{write_numbers}
use Rattle.bits.proofs.numbers.write_numbers.Given as goal

abbrev pub invariant-loop-number : goal.invariant-loop-number
invariant-loop-number l =
    write_numbers (table_of l.number-iterator.a.rest.now) l.number-iterator.b.rest.now l.registers
    ≡ write_numbers (table_of l.table) l.numbers l.initial.registers
