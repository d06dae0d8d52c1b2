-- 01, 'Timing', the column 'Meaning, range': from which number to which each of the fifteen goes.
-- Assumes nothing.
use Rattle.std.specs.Prelude.{ℕ, ◌+◌, ◌^◌, Bool, true, false, cond, ◌&&◌, List, [], ◌∷◌, leb}

-- '5..516', both included; '8 bits', of an end
infix 70 ◌to◌
pub data Range : Type 0 where
  ◌to◌ : ℕ → ℕ → Range
  end_of_bits : ℕ → Range

-- a number lies in its range. 'An end of n bits means the smallest number greater than its start .., so end minus start is 1 to 2^n.'
unfoldable pub lies_in : Range → ℕ → ℕ → Bool
lies_in (least to most) start number = leb least number && leb number most
lies_in (end_of_bits n) start number = leb (start + 1) number && leb number (start + 2 ^ n)

-- as many numbers as ranges, each in its own; an end's start is the number before it
unfoldable pub lie_from : ℕ → List Range → List ℕ → Bool
lie_from last [] [] = true
lie_from last [] (v ∷ vs) = false
lie_from last (r ∷ rs) [] = false
lie_from last (r ∷ rs) (v ∷ vs) = lies_in r last v && lie_from v rs vs

unfoldable pub all_lie_in : List Range → List ℕ → Bool
all_lie_in ranges numbers = lie_from 0 ranges numbers

-- the column. 'CR1A's blank pieces count only if CR1B[5] or CR1B[7] is 1; otherwise the ends have 6 and 8 bits'
unfoldable pub ranges : Bool → List Range
ranges wide =
    5 to 516  -- H total
    ∷ 1 to 512  -- H display
    ∷ 0 to 511  -- H blank start
    ∷ end_of_bits (cond wide 8 6)  -- H blank end
    ∷ 0 to 511  -- H sync start
    ∷ end_of_bits 5  -- H sync end
    ∷ 2 to 2049  -- V total
    ∷ 1 to 2048  -- V display
    ∷ 0 to 2047  -- V blank start
    ∷ end_of_bits (cond wide 10 8)  -- V blank end
    ∷ 0 to 2047  -- V sync start
    ∷ end_of_bits 4  -- V sync end
    ∷ 0 to 1023  -- line compare
    ∷ 0 to 511  -- offset
    ∷ 0 to 2097151  -- screen start
    ∷ []
