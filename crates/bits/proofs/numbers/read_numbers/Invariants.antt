-- `bits::numbers::read_numbers` meets its contract. Invariant: what is read so far, with what the table from k on reads, is the whole. Assumes nothing.
use Rattle.std.proofs.Common.{◌≡◌, ◌++◌, take, drop}
use Rattle.bits.specs.Encoded.{table_of}
use Rattle.bits.specs.Words.{read_words}
use Rattle.bits.proofs.numbers.read_numbers.Given as goal

abbrev pub invariant-loop-k : goal.invariant-loop-k
invariant-loop-k l =
    take l.k l.numbers ++ read_words l.last (table_of (drop l.k l.table)) l.registers (drop l.k l.numbers)
    ≡ read_words 0 (table_of l.table) l.registers l.initial.numbers
