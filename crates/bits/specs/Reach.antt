-- Which bits of the registers pieces and tables of numbers may change, and the one test that the laws about them ask for.
-- Assumes nothing.
use Rattle.std.specs.Prelude.{ℕ, Bool, true, cond, ◌&&◌, List, [], ◌∷◌, ◌++◌, ◌==◌, bit_and, bit_or, nat_lt}
use Rattle.bits.specs.Numbers.{Number}
use Rattle.bits.specs.Pieces.{Piece, piece_reach}

-- the bits of a register that pieces may change
unfoldable pub pieces_reach : List Piece → ℕ → ℕ
pieces_reach [] r = 0
pieces_reach (p ∷ ps) r = cond (r == p.register) (bit_or (piece_reach p) (pieces_reach ps r)) (pieces_reach ps r)

-- no two pieces share a bit
unfoldable pub disjoint : List Piece → Bool
disjoint [] = true
disjoint (p ∷ ps) = bit_and (piece_reach p) (pieces_reach ps p.register) == 0 && disjoint ps

-- each piece lies in one of so many registers
unfoldable pub present : ℕ → List Piece → Bool
present count [] = true
present count (p ∷ ps) = nat_lt p.register count && present count ps

-- every piece of a table
unfoldable pub pieces_of : List Number → List Piece
pieces_of [] = []
pieces_of (n ∷ ns) = n.pieces ++ pieces_of ns

-- the bits of a register that a table's numbers may change
unfoldable pub table_reach : List Number → ℕ → ℕ
table_reach table r = pieces_reach (pieces_of table) r

-- a table for so many registers, its pieces disjoint
unfoldable pub fitting : ℕ → List Number → Bool
fitting count table = disjoint (pieces_of table) && present count (pieces_of table)
