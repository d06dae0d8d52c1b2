-- A table of numbers as code has it: a piece is one number, a number its meaning and its pieces.
-- Assumes nothing.
use Rattle.std.specs.Prelude.{ℕ, ◌/◌, ◌%◌, List, map}
use Rattle.bits.specs.declared.numbers.Meaning.{Meaning as DeclaredMeaning}
use Rattle.bits.specs.declared.numbers.Meaning.TheVariants.{Plus, EndOfLast}
use Rattle.bits.specs.declared.numbers.Number.{Number as DeclaredNumber}
use Rattle.bits.specs.Numbers.{Meaning, plus, end_of_last, Number}
use Rattle.bits.specs.Pieces.{Piece, piece}

-- RRHLh is register RR, bits H to L
unfoldable pub piece_of : ℕ → Piece
piece_of n = piece (n / 256) (n / 16 % 16) (n % 16)

unfoldable pub meaning_of : DeclaredMeaning → Meaning
meaning_of (Plus k) = plus k
meaning_of EndOfLast = end_of_last

-- a number by its meaning and its pieces
abbrev pub number_of : DeclaredNumber → Number
number_of n = record { pieces = map piece_of n.pieces.now; meaning = meaning_of n.meaning }

unfoldable pub table_of : List DeclaredNumber → List Number
table_of table = map number_of table
