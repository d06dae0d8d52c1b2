-- 01, 'The replay program': the text that it prints, as bytes.
-- Assumes nothing.
use Rattle.std.specs.Prelude.{ℕ, zero, suc, ◌+◌, ◌/◌, ◌%◌, Bool, true, false, cond, List, [], ◌∷◌, ◌++◌, leb, ltb, length, get_or, drop}
use Rattle.io.specs.Digits.{last_digits}
use Rattle.trace.specs.Records.{two}
use Rattle.file.specs.declared.answer.Answer.{Answer}
use Rattle.file.specs.declared.answer.Answer.TheVariants.{OutOfRange}
use Rattle.file.specs.Readers.{ascii}
use Rattle.timing.specs.declared.Timing.{Timing}
use Rattle.timing.specs.Timing.{numbers_of}
use Rattle.text.specs.Lent.{room_answer}

-- how many decimal digits a number has; the first argument bounds how far it is looked at
unfoldable pub decimal_places : ℕ → ℕ → ℕ
decimal_places zero n = 1
decimal_places (suc fuel) n = elim (ltb n 10) [ true ↦ 1 | false ↦ suc (decimal_places fuel (n / 10)) ]

unfoldable pub decimal : ℕ → List ℕ
decimal n = last_digits 10 (decimal_places n n) n

-- 'four hex digits, capitals'
unfoldable pub capital : ℕ → ℕ
capital d = cond (ltb d 10) (48 + d) (55 + d)

unfoldable pub hex_four : ℕ → List ℕ
hex_four n = capital (n / 4096 % 16) ∷ capital (n / 256 % 16) ∷ capital (n / 16 % 16) ∷ capital (n % 16) ∷ []

unfoldable pub space : List ℕ
space = 0x20 ∷ []

unfoldable pub newline : List ℕ
newline = 0x0A ∷ []

-- 'For each record: its number from 0, code (decimal), value (four hex digits, capitals), one space between, each line ended by a newline.'
unfoldable pub line_of : ℕ → ℕ → ℕ → List ℕ
line_of number code value = decimal number ++ space ++ decimal code ++ space ++ hex_four value ++ newline

-- the lines of so many replies of 8 bytes, from a number on: code in byte 0, value in bytes 4-5
unfoldable pub reply_lines : ℕ → ℕ → List ℕ → List ℕ
reply_lines zero number replies = []
reply_lines (suc count) number replies = line_of number (get_or replies 0 0) (two replies 4) ++ reply_lines count (suc number) (drop 8 replies)

-- the lines of all of them that are whole
unfoldable pub all_lines : ℕ → List ℕ → List ℕ
all_lines number replies = reply_lines (length replies / 8) number replies

-- so many lines have numbers of 64 bits, from a number on
unfoldable pub numbers_fit : ℕ → ℕ → Bool
numbers_fit number count = leb (number + count) 18446744073709551616

-- 01's table of codes: 10, a number out of range, and then 11
unfoldable pub lines_answer : List ℕ → ℕ → ℕ → List ℕ → Answer
lines_answer buffer at number replies =
    cond (numbers_fit number (length replies / 8)) (room_answer buffer at (all_lines number replies)) OutOfRange

-- a number in decimal, with a minus before it if it is marked
unfoldable pub signed : Bool → ℕ → List ℕ
signed minus n = cond minus (0x2D ∷ []) [] ++ decimal n

-- numbers, each behind a space; a mark that is missing is off
unfoldable pub spaced : List Bool → List ℕ → List ℕ
spaced minus [] = []
spaced minus (n ∷ ns) = (space ++ signed (get_or minus 0 false) n) ++ spaced (drop 1 minus) ns

-- a line of a word and numbers
unfoldable pub numbers_line : List ℕ → List Bool → List ℕ → List ℕ
numbers_line word minus numbers = word ++ spaced minus numbers ++ newline

-- 'Last comes one line: the word timing, then the fifteen numbers in table order, decimal.'
unfoldable pub timing_line : Timing → List ℕ
timing_line t = numbers_line (ascii "timing") [] (numbers_of t)

-- 01, 'Cursor and window 2': enabled, left, top, width, height and image address, left and top signed
unfoldable pub cursor_line : Bool → Bool → List ℕ → List ℕ
cursor_line leftMinus topMinus numbers = numbers_line (ascii "cursor") (false ∷ leftMinus ∷ topMinus ∷ []) numbers

-- and enabled, video format, left, top, right, bottom, empty, the fault mark and the two BLT scanlines
unfoldable pub window_2_line : List ℕ → List ℕ
window_2_line numbers = numbers_line (ascii "window2") [] numbers

-- 02, 6/13: the capture geometry, start and stop across, and start and stop down
unfoldable pub capture_line : List ℕ → List ℕ
capture_line numbers = numbers_line (ascii "capture") [] numbers
