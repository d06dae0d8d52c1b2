-- A word as it is written in a line of a message. The line is `text`'s, and no message gets as far as its last place: `message-short`.
-- Assumes nothing.
use Rattle.std.specs.Prelude.{ℕ, cond, List, [], ◌++◌, ltb, length, take}
use Rattle.file.specs.Readers.{ascii}
use Rattle.escaping.specs.Escaped.{escaped_text}

-- the most bytes of a line
abbrev pub line_most : ℕ
line_most = 400

-- a word for a terminal: escaped, and cut after 64 bytes
unfoldable pub shown : List ℕ → List ℕ
unfolding ascii
shown word = escaped_text (take 64 word) ++ cond (ltb 64 (length word)) (ascii "..") []
