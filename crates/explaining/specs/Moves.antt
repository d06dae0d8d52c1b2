-- 'Explain': which timing numbers an access may move: those that are read from a bit in its reach.
-- Assumes nothing.
use Rattle.std.specs.Prelude.{ℕ, zero, suc, ◌+◌, ◌/◌, ◌%◌, Bool, true, false, cond, not, List, [], ◌∷◌, ◌++◌, map, eqb, get_or}
use Prim.Native.String.{String}
use Rattle.std.specs.Int.Bits.{bit_and}
use Rattle.bits.specs.Numbers.{Meaning, plus, end_of_last, Number}
use Rattle.bits.specs.Pieces.{Piece, piece, width}
use Rattle.bits.specs.Reach.{pieces_reach}
use Rattle.file.specs.declared.effect.Reach.{Reach}
use Rattle.file.specs.declared.registers.File.{File}
use Rattle.file.specs.Names.{CR0, CR1B}
use Rattle.timing.specs.Table.{table}
use Rattle.timing.specs.Timing.{numbers_of, read_timing}
use Rattle.explaining.specs.declared.token.Token.{Token}
use Rattle.explaining.specs.Lines.{dotted, no_words, phrase, say, words_token}

-- 01, 'Timing', the column 'Number', in table order
unfoldable pub number_names : List String
number_names =
    "H total"
    ∷ "H display"
    ∷ "H blank start"
    ∷ "H blank end"
    ∷ "H sync start"
    ∷ "H sync end"
    ∷ "V total"
    ∷ "V display"
    ∷ "V blank start"
    ∷ "V blank end"
    ∷ "V sync start"
    ∷ "V sync end"
    ∷ "line compare"
    ∷ "offset"
    ∷ "screen start"
    ∷ []

abbrev pub number_count : ℕ
number_count = 15

unfoldable pub number_rows : List (List ℕ)
number_rows = map (λ (name : String). dotted name) number_names

unfoldable pub number_label : ℕ → List Token
number_label k = phrase (words_token (get_or number_rows k no_words) ∷ say " " ∷ [])

-- the numbers of a file
unfoldable pub numbers_in : File → List ℕ
numbers_in f = numbers_of (read_timing f).timing

-- 'An end of n bits means the smallest number greater than its start': it is read from the bits of the number before it too
unfoldable pub start_of : Meaning → List Piece → List Piece
start_of (plus k) last = []
start_of end_of_last last = last

-- the pieces that each number of a table is read from
unfoldable pub sources : List Piece → List Number → List (List Piece)
sources last [] = []
sources last (n ∷ ns) = (n.pieces ++ start_of n.meaning last) ∷ sources (n.pieces ++ start_of n.meaning last) ns

unfoldable pub source : Bool → ℕ → List Piece
source wide k = get_or (sources [] (table wide)) k []

-- 'CR1A's blank pieces count only if CR1B[5] or CR1B[7] is 1': a number that has such a piece is read from these two too
unfoldable pub switched : ℕ → Bool
switched k = not (eqb (width (source true k)) (width (source false k)))

abbrev pub switch : List Piece
switch = piece CR1B 5 5 ∷ piece CR1B 7 7 ∷ []

unfoldable pub origin : Bool → ℕ → List Piece
origin wide k = source wide k ++ cond (switched k) switch []

-- the bits of a register that a number of a file is read from, wide or not
unfoldable pub read_bits : Bool → ℕ → ℕ → ℕ
read_bits wide number k = pieces_reach (origin wide k) number

-- a number has a bit in a reach
unfoldable pub may_move : Bool → Reach → ℕ → Bool
may_move wide reach k = not (eqb (bit_and reach.bits (read_bits wide reach.register k)) 0)

-- the same bits of a wide file as a table, a row of fifteen for each of CR0 to CR1E
unfoldable pub moved_bits : ℕ → ℕ
moved_bits n = read_bits true (CR0 + n / number_count) (n % number_count)

unfoldable pub moved_from : ℕ → ℕ → List ℕ
moved_from n zero = []
moved_from n (suc count) = moved_bits n ∷ moved_from (suc n) count

unfoldable pub moved_table : List ℕ
moved_table = moved_from 0 450
