-- `bits::numbers::all_in_range` meets its contract. Invariant: what is left decides, and it is as many numbers as values. Assumes nothing.
use Rattle.std.proofs.Common.{◌≡◌, length}
use Rattle.bits.specs.Numbers.{ranges_from, all_in_range}
use Rattle.bits.specs.Encoded.{table_of}
use Rattle.bits.proofs.numbers.all_in_range.Given as goal

abbrev pub invariant-loop-number : goal.invariant-loop-number
invariant-loop-number l =
    (ranges_from l.last (table_of l.number-iterator.a.rest.now) l.number-iterator.b.rest.now ≡ all_in_range (table_of l.table) l.numbers)
    × (length l.number-iterator.a.rest.now ≡ length l.number-iterator.b.rest.now)
