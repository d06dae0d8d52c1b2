-- What the command `portable` tells on standard error, as bytes.
-- Assumes nothing.
use Rattle.std.specs.Prelude.{ℕ, cond, List, ◌++◌, Option, Some, None, eqb}
use Rattle.file.specs.Readers.{ascii}
use Rattle.text.specs.declared.placed.Placed.{Placed}
use Rattle.text.specs.Lent.{Lined, room_answer}
use Rattle.text.specs.Text.{newline}

-- a text from a place of the buffer on, if it has room
abbrev pub Told : List ℕ → ℕ → List ℕ → List ℕ → Placed → Type 0
Told text at before after r = Lined (room_answer before at text) at text before after r

-- 01's codes 12, another length, and 11, a short buffer, of the reader
unfoldable pub not_read_line : ℕ → List ℕ
not_read_line code =
    cond (eqb code 12) (ascii "sedgecoil: code 12: there aren't 28 bytes") (ascii "sedgecoil: code 11: the line has no room") ++ newline

-- 8, a locked register, and 10, a number out of range, of the writer too
unfoldable pub refusal_text : ℕ → List ℕ
refusal_text code =
    cond (eqb code 8) (ascii "8: CR11[7] locks the bytes")
    (cond (eqb code 10) (ascii "10: a number is out of its range")
    (cond (eqb code 12) (ascii "12: there aren't 28 bytes") (ascii "11: the bytes have no room")))

unfoldable pub refusal_line : ℕ → List ℕ
refusal_line code = ascii "sedgecoil: nothing is written, code " ++ refusal_text code ++ newline

-- and what is no list
unfoldable pub not_written_line : Option ℕ → List ℕ
not_written_line (Some code) = refusal_line code
not_written_line None = ascii "sedgecoil: --write takes fourteen decimal numbers with one space between" ++ newline
