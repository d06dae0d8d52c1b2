-- 02, 8/13, 'a flat list of places, one row for each with space, address, index, direction, width and stored bits': what such a list, a line of text for
-- each row, says.
-- Assumes nothing.
use Prim.Native.Char.{Char, code}
use Rattle.std.specs.Prelude.{ℕ, ◌+◌, ◌*◌, ◌%◌, ◌≡◌, Bool, true, cond, not, ◌&&◌, ◌||◌, List, [], ◌∷◌, ◌++◌, T, eqb, ltb, get_or, map}
use Rattle.file.specs.declared.chip.Chip.{Chip}
use Rattle.file.specs.declared.chip.Chip.TheVariants.{Gd5462, Gd5464}
use Rattle.file.specs.Chips.{same_chip}
use Rattle.file.specs.Registers.{stored_table}
use Rattle.places.specs.declared.place.Place.{Place}
use Rattle.places.specs.declared.place.Place.TheVariants.{Register, Attribute, Fixed, DeviceId, ToggleState, AttributeIndex, PaletteState, VPortState, ReadAddress, WriteAddress, PixelData, ToggleReset, Unnamed, UnnamedAttribute, CurrentLine, Passing}
use Rattle.places.specs.Places.{Index, any, sr, cr, gr, ar, index_due, data_due, Row as PlaceRow, places as allPlaces}
use Rattle.places.specs.Profile.{profile, stores_into}
use Rattle.plain.specs.declared.row.Row.{Row}

-- ---- a line

-- how many bytes a row has
abbrev pub columns : ℕ
columns = 44

-- a hexadecimal digit; a blank counts as 0
unfoldable pub digit : ℕ → ℕ
digit byte = cond (ltb byte 65) (byte % 16) ((byte + 9) % 16)

unfoldable pub two_digits : List ℕ → ℕ → ℕ
unfolding digit
two_digits text at = 16 * digit (get_or text at 0) + digit (get_or text (at + 1) 0)

unfoldable pub four_digits : List ℕ → ℕ → ℕ
unfolding two_digits
four_digits text at = 256 * two_digits text at + two_digits text (at + 2)

-- a byte is a letter
unfoldable pub is : Char → ℕ → Bool
is letter byte = eqb byte (code letter)

-- what stands there, by the first letter of its word, and a number
unfoldable pub place_named : ℕ → ℕ → Place
unfolding is
place_named letter number =
    cond (is "r" letter) (Register number)
    (cond (is "a" letter) (Attribute number)
    (cond (is "m" letter) PaletteState
    (cond (is "v" letter) VPortState
    (cond (is "g" letter) (Fixed number)
    (cond (is "c" letter) DeviceId
    (cond (is "t" letter) ToggleState
    (cond (is "i" letter) AttributeIndex
    (cond (is "d" letter) ReadAddress
    (cond (is "w" letter) WriteAddress
    (cond (is "p" letter) PixelData
    (cond (is "s" letter) ToggleReset
    (cond (is "b" letter) CurrentLine
    (cond (is "l" letter) Passing
    (cond (is "f" letter) UnnamedAttribute
    Unnamed))))))))))))))

-- the row of the line that a text begins with; a direction is any letter, R or W, or P where lines pass
unfoldable pub row_of : List ℕ → Row
unfolding is four_digits two_digits place_named
row_of text =
    record {
      space = get_or text 0 0;
      address = four_digits text 4;
      index = get_or text 9 0;
      nth = two_digits text 11;
      reads = not (is " " (get_or text 14 0));
      writes = not (is " " (get_or text 15 0));
      width = get_or text 17 0 % 16;
      stored = four_digits text 19;
      place = place_named (get_or text 24 0) (four_digits text 30);
    }

-- the rows of lines of text
abbrev pub rows_of : List (List ℕ) → List Row
rows_of lines = map row_of lines

-- ---- what a row says

-- 01, 'kind (0 config read, 1 config write, 2 port read, 3 port write, 4 MMIO read, 5 MMIO write)', and 02, 10/13, 'kind 6: .. scanlines pass': the kinds of
-- record that a row is for
unfoldable pub space : Row → ℕ
unfolding is
space row = cond (is "c" row.space) 0 (cond (is "p" row.space) 1 (cond (is "m" row.space) 2 3))

unfoldable pub kinds : Row → List ℕ
unfolding space
kinds row = cond row.reads (2 * space row ∷ []) [] ++ cond row.writes ((2 * space row + 1) ∷ []) []

-- a row is of a chip: 5462, 5464 or both
unfoldable pub of_chip : Chip → Row → Bool
unfolding is same_chip
of_chip chip row = cond (is "5" row.index) (cond (eqb row.nth 0x62) (same_chip chip Gd5462) (same_chip chip Gd5464)) true

-- its index among the places
unfoldable pub index_of : Row → Index
unfolding is
index_of row =
    cond (is "S" row.index) (sr row.nth)
    (cond (is "C" row.index) (cr row.nth)
    (cond (is "G" row.index) (gr row.nth)
    (cond (is "A" row.index) (ar row.nth)
    (cond (is "i" row.index) index_due
    (cond (is "d" row.index) (data_due row.nth)
    any)))))

-- a row for one of its kinds, as the list of places has it
unfoldable pub said : Row → ℕ → PlaceRow
unfolding index_of
said row kind = record { kind = kind; address = row.address; index = index_of row; width = row.width; place = row.place }

unfoldable pub said_for : Row → List ℕ → List PlaceRow
unfolding said
said_for row [] = []
said_for row (kind ∷ more) = said row kind ∷ said_for row more

-- what a row says on a chip: a row of the list of places for each of its kinds, and nothing if it is of the other chip
unfoldable pub says : Chip → Row → List PlaceRow
unfolding said_for kinds of_chip
says chip row = cond (of_chip chip row) (said_for row (kinds row)) []

-- what rows say
unfoldable pub say_all : Chip → List Row → List PlaceRow
unfolding says
say_all chip [] = []
say_all chip (row ∷ rows) = says chip row ++ say_all chip rows

-- a row's stored bits are those of the register that a write there stores into, by a chip's table, and 0 where there is none
unfoldable pub bits_right : Chip → List ℕ → Row → Bool
unfolding profile stores_into of_chip
bits_right chip table row = not (of_chip chip row) || eqb row.stored (get_or table (stores_into (profile row.place).writing) 0)

-- each row passes a test
unfoldable pub every_row : (Row → Bool) → List Row → Bool
every_row test [] = true
every_row test (row ∷ rows) = test row && every_row test rows

-- a list that says 01's places and 01's stored bits, on either chip
pub record Listed (lines : List (List ℕ)) : Type 0 where
  pub places : (chip : Chip) → say_all chip (rows_of lines) ≡ allPlaces chip
  pub bits : (chip : Chip) → T (every_row (bits_right chip (stored_table chip)) (rows_of lines))
