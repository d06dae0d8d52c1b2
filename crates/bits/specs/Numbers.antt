-- 01, 'Timing': a table of numbers, each made of pieces and with a meaning; reading it out of registers and writing it into them.
-- Assumes nothing.
use Rattle.std.specs.Prelude.{ℕ, ◌+◌, ◌-◌, ◌%◌, ◌^◌, Bool, true, false, ◌&&◌, List, [], ◌∷◌, nat_le, nat_lt}
use Rattle.bits.specs.Pieces.{Piece, width, gather, scatter}

-- 'value+5', or the end of the number before it in the table
pub data Meaning : Type 0 where
  plus : ℕ → Meaning
  end_of_last : Meaning

pub record Number : Type 0 where
  pub pieces : List Piece
  pub meaning : Meaning

-- 'An end of n bits means the smallest number greater than its start with those low n bits'
unfoldable pub end_after : ℕ → ℕ → ℕ → ℕ
end_after start n low = start + 1 + (low + 2 ^ n - (start + 1) % 2 ^ n) % 2 ^ n

-- the number that stored bits of a width mean, after the last one
unfoldable pub meant : Meaning → ℕ → ℕ → ℕ → ℕ
meant (plus k) n last stored = stored + k
meant end_of_last n last stored = end_after last n stored

-- the bits to store for a number. Of an end's number only the low ones go into its pieces
unfoldable pub stored_for : Meaning → ℕ → ℕ
stored_for (plus k) number = number - k
stored_for end_of_last number = number

-- the table's ranges: k to k + 2^n - 1; 'end minus start is 1 to 2^n'
unfoldable pub in_range : Meaning → ℕ → ℕ → ℕ → Bool
in_range (plus k) n last number = nat_le k number && nat_lt number (k + 2 ^ n)
in_range end_of_last n last number = nat_lt last number && nat_le number (last + 2 ^ n)

-- every number of the table, read out of the registers
unfoldable pub read_from : ℕ → List Number → List ℕ → List ℕ
read_from last [] registers = []
read_from last (n ∷ ns) registers =
    meant n.meaning (width n.pieces) last (gather registers n.pieces)
    ∷ read_from (meant n.meaning (width n.pieces) last (gather registers n.pieces)) ns registers

unfoldable pub read_numbers : List Number → List ℕ → List ℕ
read_numbers table registers = read_from 0 table registers

-- as many numbers as the table has, each in its range
unfoldable pub ranges_from : ℕ → List Number → List ℕ → Bool
ranges_from last [] [] = true
ranges_from last [] (v ∷ vs) = false
ranges_from last (n ∷ ns) [] = false
ranges_from last (n ∷ ns) (v ∷ vs) = in_range n.meaning (width n.pieces) last v && ranges_from v ns vs

unfoldable pub all_in_range : List Number → List ℕ → Bool
all_in_range table numbers = ranges_from 0 table numbers

-- every number of the table, written into its pieces
unfoldable pub write_numbers : List Number → List ℕ → List ℕ → List ℕ
write_numbers [] numbers registers = registers
write_numbers (n ∷ ns) [] registers = registers
write_numbers (n ∷ ns) (v ∷ vs) registers = write_numbers ns vs (scatter n.pieces (stored_for n.meaning v) registers)
