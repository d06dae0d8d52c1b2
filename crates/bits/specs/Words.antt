-- The numbers of a table as code keeps them, in 32 bits each, and the test of a table whose numbers stay below a bound.
-- Assumes nothing.
use Rattle.std.specs.Prelude.{ℕ, ◌+◌, ◌%◌, ◌^◌, Bool, true, ◌&&◌, List, [], ◌∷◌, nat_lt}
use Rattle.bits.specs.Numbers.{Meaning, plus, end_of_last, meant, Number}
use Rattle.bits.specs.Pieces.{width, gather}

-- the low 32 bits of a number, read out of the registers after the last one
unfoldable pub word : ℕ → Number → List ℕ → ℕ
word last n registers = meant n.meaning (width n.pieces) last (gather registers n.pieces) % 2 ^ 32

-- the words of a table, read into the places of a list until one of the two ends; the places behind the table stay
unfoldable pub read_words : ℕ → List Number → List ℕ → List ℕ → List ℕ
read_words last [] registers places = places
read_words last (n ∷ ns) registers [] = []
read_words last (n ∷ ns) registers (x ∷ xs) = word last n registers ∷ read_words (word last n registers) ns registers xs

-- no number of these bits, after a last one, is larger
unfoldable pub most : Meaning → ℕ → ℕ → ℕ
most (plus k) n last = k + 2 ^ n
most end_of_last n last = last + 2 ^ n

-- every number of a table stays below a bound
unfoldable pub bounded : ℕ → ℕ → List Number → Bool
bounded bound last [] = true
bounded bound last (n ∷ ns) =
    nat_lt (most n.meaning (width n.pieces) last) bound && bounded bound (most n.meaning (width n.pieces) last) ns
