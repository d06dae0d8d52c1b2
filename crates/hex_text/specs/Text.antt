-- A text for people: what it means. Its lines end with LF. One CR at a line's end belongs to that end, and `#` starts a comment to the end of its line. What
-- stands between blanks then is a word; a good word is two hex digits, and is one byte. The bytes before the first bad word are the text's.
-- Assumes nothing.
use Rattle.std.specs.Prelude.{ℕ, ◌+◌, ◌-◌, ◌*◌, Bool, true, false, cond, ◌&&◌, ◌||◌, List, [], ◌∷◌, ◌++◌, eqb, leb, ltb, length}

-- ---- bytes

unfoldable pub between : ℕ → ℕ → ℕ → Bool
between low high b = leb low b && leb b high

-- the value of a hex digit, upper or lower case; 16 for another byte
unfoldable pub digit_value : ℕ → ℕ
digit_value b = cond (between 0x30 0x39 b) (b - 0x30) (cond (between 0x41 0x46 b) (b - 0x37) (cond (between 0x61 0x66 b) (b - 0x57) 16))

unfoldable pub digit : ℕ → Bool
digit b = ltb (digit_value b) 16

-- space and tab
unfoldable pub blank : ℕ → Bool
blank b = eqb b 0x20 || eqb b 0x09

-- ---- lines

-- the lines of a text, each without its LF; the first has the bytes of `line` already
unfoldable pub lines_from : List ℕ → List ℕ → List (List ℕ)
lines_from line [] = line ∷ []
lines_from line (b ∷ text) = cond (eqb b 0x0A) (line ∷ lines_from [] text) (lines_from (line ++ b ∷ []) text)

-- a line without one CR at its end
unfoldable pub without_return : List ℕ → List ℕ
without_return [] = []
without_return (b ∷ []) = cond (eqb b 0x0D) [] (b ∷ [])
without_return (b ∷ c ∷ line) = b ∷ without_return (c ∷ line)

-- what stands before the first `#`
unfoldable pub before_hash : List ℕ → List ℕ
before_hash [] = []
before_hash (b ∷ line) = cond (eqb b 0x23) [] (b ∷ before_hash line)

-- ---- words

-- a word: its line, the column of its first byte, and its bytes
pub record Word : Type 0 where
  pub line : ℕ
  pub column : ℕ
  pub bytes : List ℕ

-- a word that ends before a column; none where it has no byte
unfoldable pub word_before : ℕ → ℕ → List ℕ → List Word
word_before line column [] = []
word_before line column (b ∷ word) = record { line = line; column = column - length (b ∷ word); bytes = b ∷ word } ∷ []

-- the words of what is left of a line from a column on; the first has the bytes of `word` already
unfoldable pub words_from : ℕ → ℕ → List ℕ → List ℕ → List Word
words_from line column word [] = word_before line column word
words_from line column word (b ∷ rest) =
    cond (blank b) (word_before line column word ++ words_from line (column + 1) [] rest) (words_from line (column + 1) (word ++ b ∷ []) rest)

unfoldable pub line_words : ℕ → List ℕ → List Word
line_words line bytes = words_from line 1 [] (before_hash (without_return bytes))

-- the words of lines, the first of which has a number
unfoldable pub words_of : ℕ → List (List ℕ) → List Word
words_of line [] = []
words_of line (bytes ∷ lines) = line_words line bytes ++ words_of (line + 1) lines

-- ---- what words mean

unfoldable pub good : List ℕ → Bool
good [] = false
good (a ∷ []) = false
good (a ∷ b ∷ []) = digit a && digit b
good (a ∷ b ∷ c ∷ word) = false

unfoldable pub byte_of : List ℕ → ℕ
byte_of [] = 0
byte_of (a ∷ []) = 0
byte_of (a ∷ b ∷ word) = 16 * digit_value a + digit_value b

-- bytes, and whether a bad word comes after them, with its line and column, which are 0 where there is none
pub record Meaning : Type 0 where
  pub bytes : List ℕ
  pub bad : Bool
  pub line : ℕ
  pub column : ℕ

unfoldable pub nothing : Meaning
nothing = record { bytes = []; bad = false; line = 0; column = 0 }

unfoldable pub bad_at : ℕ → ℕ → Meaning
bad_at line column = record { bytes = []; bad = true; line = line; column = column }

unfoldable pub with_bytes : List ℕ → Meaning → Meaning
with_bytes bytes m = record { bytes = bytes ++ m.bytes; bad = m.bad; line = m.line; column = m.column }

unfoldable pub meant : List Word → Meaning
meant [] = nothing
meant (word ∷ words) = cond (good word.bytes) (with_bytes (byte_of word.bytes ∷ []) (meant words)) (bad_at word.line word.column)

-- what a whole text means
unfoldable pub meaning : List ℕ → Meaning
meaning text = meant (words_of 1 (lines_from [] text))
