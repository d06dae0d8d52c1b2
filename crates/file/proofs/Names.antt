-- Each name that the rules use stands in 01's table at the number that it has, and each name of the table finds its own number: computed
-- tests. Assumes nothing.
use Prim.Native.Nat.{ℕ, ◌<◌}
use mathlib.Core.Bool.{cond}
use Rattle.std.specs.Prelude.{Ok, Some, None, ok_or}
use mathlib.Core.Path.{◌≡◌, refl, ap, ◌∙◌}
use mathlib.Core.List.{[]}
use borrow.Author.Tests.{lt-ltb}
use lib.Dec.{T, eqb, eqb→eq, ltb}
use lib.ListN.{length, get_or}
use Rattle.bits.proofs.Test.{every_below, below}
use Rattle.file.specs.declared.answer.Answer.TheVariants.{NoRegister}
use Rattle.file.specs.declared.chip.Chip.{Chip}
use Rattle.file.specs.Named.{name_of, all_named, names}
use Rattle.file.specs.Readers.{ascii, name_table, same, number_of, read_number}
use Rattle.file.specs.Registers.{register_count, registers, stored_table}
use Rattle.file.proofs.NameBytes.{names-counted}

-- the table has as many registers as the file
pub registers-counted : length registers ≡ register_count
unfolding registers
registers-counted = refl

-- and so has the table of stored bits, on each chip
pub stored-counted : (chip : Chip) → length (stored_table chip) ≡ register_count
unfolding stored_table
stored-counted chip = refl

pub named : T (all_named names)
unfolding all_named names name_of registers
named = tt

own-numbers : T (every_below (λ (k : ℕ). eqb (number_of (get_or name_table k [])) k) register_count)
unfolding every_below number_of same name_table registers ascii
own-numbers = tt

-- no two registers share a name
pub own-number : (k : ℕ) → k < register_count → read_number (get_or name_table k []) ≡ Ok k
unfolding read_number number_of
own-number k h =
    ap (λ (n : ℕ). ok_or (cond (ltb n (length name_table)) (Some n) None) NoRegister) found ∙ rw (names-counted, lt-ltb k register_count h)
  where
    found : number_of (get_or name_table k []) ≡ k
    found = eqb→eq (number_of (get_or name_table k [])) k (below (λ (n : ℕ). eqb (number_of (get_or name_table n [])) n) register_count own-numbers k h)
