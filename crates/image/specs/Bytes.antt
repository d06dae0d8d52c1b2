-- For a host in C: the parts of a file and of a set as bytes: words with their low byte first, a colour as red, green, blue, a flag as 0 or 1.
-- Assumes nothing.
use Rattle.std.specs.Prelude.{ℕ, ◌+◌, ◌*◌, ◌/◌, ◌%◌, Bool, cond, not, List, [], ◌∷◌, eqb}
use Rattle.file.specs.declared.palette.Colour.{Colour}

-- words as bytes, and back; a last byte without its partner is no word
unfoldable pub word_bytes : List ℕ → List ℕ
word_bytes [] = []
word_bytes (word ∷ words) = word % 256 ∷ word / 256 ∷ word_bytes words

unfoldable pub words_in : List ℕ → List ℕ
words_in [] = []
words_in (low ∷ []) = []
words_in (low ∷ high ∷ bytes) = (low + 256 * high) ∷ words_in bytes

-- colours as bytes, and back
unfoldable pub colour_bytes : List Colour → List ℕ
colour_bytes [] = []
colour_bytes (c ∷ colours) = c.red ∷ c.green ∷ c.blue ∷ colour_bytes colours

unfoldable pub colours_in : List ℕ → List Colour
colours_in [] = []
colours_in (red ∷ []) = []
colours_in (red ∷ green ∷ []) = []
colours_in (red ∷ green ∷ blue ∷ bytes) = record { red = red; green = green; blue = blue } ∷ colours_in bytes

-- a flag as a byte, and back: every byte but 0 is set
unfoldable pub flag_byte : Bool → ℕ
flag_byte flag = cond flag 1 0

unfoldable pub is_set : ℕ → Bool
is_set byte = not (eqb byte 0)

-- flags as bytes, and back
unfoldable pub flag_bytes : List Bool → List ℕ
flag_bytes [] = []
flag_bytes (flag ∷ flags) = flag_byte flag ∷ flag_bytes flags

unfoldable pub flags_in : List ℕ → List Bool
flags_in [] = []
flags_in (byte ∷ bytes) = is_set byte ∷ flags_in bytes
