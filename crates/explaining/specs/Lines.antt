-- 'Explain': what a line is made of. A line is written token by token behind what stands there, and nothing stands behind its last place, so that
-- with its newline it has 160 bytes at most. No line of an explanation gets that far, so none drops a byte: `nothing-dropped`.
-- Assumes nothing.
use Rattle.std.specs.Prelude.{ℕ, zero, suc, ◌+◌, ◌-◌, ◌*◌, ◌/◌, ◌%◌, ◌^◌, cond, List, [], ◌∷◌, ◌++◌, eqb, leb, ltb, get_or, length, take, replicate}
use Prim.Native.String.{String}
use Rattle.file.specs.declared.answer.Answer.{Answer}
use Rattle.file.specs.declared.answer.Answer.TheVariants.{Done, ShortBuffer}
use Rattle.file.specs.Readers.{ascii, name_table}
use Rattle.text.specs.Text.{capital, decimal, newline}
use Rattle.text.specs.declared.fixed.Line.{Line as LineOf}
use Rattle.text.specs.Fixed.{behind, blank as blank_of}
use Rattle.explaining.specs.declared.token.Token.{Token}
use Rattle.explaining.specs.declared.token.Token.TheVariants.{Words, Name, Decimal, Hex}

-- ---- tokens

-- the bytes before the first dot
unfoldable pub up_to_dot : List ℕ → List ℕ
up_to_dot [] = []
up_to_dot (b ∷ bs) = cond (eqb b 0x2E) [] (b ∷ up_to_dot bs)

-- so many hex digits of a number, capitals
unfoldable pub hex_of : ℕ → ℕ → List ℕ
hex_of zero n = []
hex_of (suc k) n = capital (n / 2 ^ (4 * k) % 16) ∷ hex_of k n

-- a token's text: words; a register's name, from the table of registers; a number in decimal; a number in hex, with an h behind it
unfoldable pub token_text : Token → List ℕ
unfolding ascii
token_text (Words bytes) = up_to_dot bytes
token_text (Name n) = get_or name_table n []
token_text (Decimal n) = decimal n
token_text (Hex digits n) = hex_of digits n ++ ascii "h"

unfoldable pub tokens_text : List Token → List ℕ
tokens_text [] = []
tokens_text (t ∷ ts) = token_text t ++ tokens_text ts

-- words of 24 bytes at most, as code keeps them: dots stand behind them
abbrev pub dotted : String → List ℕ
unfolding ascii
dotted s = take 24 (ascii s ++ replicate 24 0x2E)

abbrev pub words_token : List ℕ → Token
words_token bytes = Words bytes

abbrev pub say : String → Token
unfolding dotted
say s = words_token (dotted s)

abbrev pub no_words : List ℕ
no_words = replicate 24 0x2E

abbrev pub nothing : Token
nothing = words_token no_words

abbrev pub name_token : ℕ → Token
name_token n = Name n

abbrev pub decimal_token : ℕ → Token
decimal_token n = Decimal n

abbrev pub hex_token : ℕ → ℕ → Token
hex_token digits n = Hex digits n

-- tokens as code keeps them, eight at a time
abbrev pub phrase : List Token → List Token
phrase ts = take 8 (ts ++ replicate 8 nothing)

-- ---- lines

-- the most bytes before a newline
abbrev pub line_most : ℕ
line_most = 159

-- a line of so many
abbrev pub Line : Type 0
Line = LineOf line_most

abbrev pub blank : Line
blank = blank_of line_most

-- tokens behind it
abbrev pub told : Line → List Token → Line
told l ts = behind l (tokens_text ts)

-- spaces up to a column, and one where the column is reached
abbrev pub gap : ℕ → ℕ → ℕ
gap end column = cond (ltb end column) (column - end) 1

abbrev pub columned : Line → ℕ → Line
columned l column = behind l (replicate (gap l.end column) 0x20)

-- a line as it is printed; one that has nothing is none
abbrev pub line_text : Line → List ℕ
line_text l = cond (eqb l.end 0) [] (take l.end l.bytes ++ newline)

-- so many lines, from a number on
unfoldable pub lines_of : (ℕ → Line) → ℕ → ℕ → List ℕ
lines_of line k zero = []
lines_of line k (suc count) = line_text (line k) ++ lines_of line (suc k) count

-- 01, the table of codes: 11 where there are fewer bytes than so many from a place of the buffer on
unfoldable pub most_answer : ℕ → List ℕ → ℕ → Answer
most_answer most buffer at = cond (leb (at + most) (length buffer)) (Done 0) ShortBuffer

-- a line with its newline
abbrev pub line_room : ℕ
line_room = 160
