-- How the code goes through a text, byte by byte; no part of what a text is. Assumes nothing.
use Rattle.std.specs.Prelude.{ℕ, ◌+◌, ◌*◌, ◌%◌, min, Bool, true, false, cond, ◌||◌, List, [], ◌∷◌, ◌++◌, eqb, Option, Some, None}
use Rattle.hex_text.specs.declared.state.HexText.{HexText}
use Rattle.hex_text.specs.declared.state.Place.{Place}
use Rattle.hex_text.specs.declared.state.Stand.{Stand}
use Rattle.hex_text.specs.declared.state.Stand.TheVariants.{Between, Digit, Byte, ByteReturn, Return, Comment, Bad}
use Rattle.hex_text.specs.Text.{digit_value, digit, blank}

-- the largest number of 64 bits
unfoldable pub largest : ℕ
largest = 18446744073709551615

-- a number as 64 bits hold it: what is above the largest is held as that
unfoldable pub held : ℕ → ℕ
held n = min n largest

unfoldable pub moved_by : ℕ → ℕ → ℕ
moved_by n by = held (n + by)

unfoldable pub begun : HexText
begun = record { stand = Between; line = 1; column = 1 }

unfoldable pub standing : HexText → Stand → HexText
standing s at = record { stand = at; line = s.line; column = s.column }

unfoldable pub new_line : HexText → HexText
new_line s = record { stand = Between; line = moved_by s.line 1; column = 1 }

-- a byte that is no digit, after no word or one of two digits; after a blank the next byte is `width` columns further
unfoldable pub separated_by : HexText → ℕ → Stand → ℕ → HexText
separated_by s width returned b =
    cond (blank b) (record { stand = Between; line = s.line; column = moved_by s.column width })
    (cond (eqb b 0x0A) (new_line s)
    (cond (eqb b 0x23) (standing s Comment)
    (cond (eqb b 0x0D) (standing s returned) (standing s Bad))))

-- one byte further from where the text stands
unfoldable pub stepped_by : Stand → HexText → ℕ → HexText
stepped_by Between s b = cond (digit b) (standing s (Digit (digit_value b))) (separated_by s 1 Return b)
stepped_by (Digit high) s b = cond (digit b) (standing s (Byte (high % 16 * 16 + digit_value b))) (standing s Bad)
stepped_by (Byte value) s b = separated_by s 3 (ByteReturn value) b
stepped_by (ByteReturn value) s b = cond (eqb b 0x0A) (new_line s) (standing s Bad)
stepped_by Return s b = cond (eqb b 0x0A) (new_line s) (standing s Bad)
stepped_by Comment s b = cond (eqb b 0x0A) (new_line s) (standing s Comment)
stepped_by Bad s b = standing s Bad

unfoldable pub stepped : HexText → ℕ → HexText
stepped s b = stepped_by s.stand s b

-- a byte that ends a word of two digits; after a CR only LF does
unfoldable pub ends_word : ℕ → Bool
ends_word b = blank b || eqb b 0x0A || eqb b 0x23

-- what a byte gives
unfoldable pub given_by : Stand → ℕ → List ℕ
given_by Between b = []
given_by (Digit high) b = []
given_by (Byte value) b = cond (ends_word b) (value ∷ []) []
given_by (ByteReturn value) b = cond (eqb b 0x0A) (value ∷ []) []
given_by Return b = []
given_by Comment b = []
given_by Bad b = []

unfoldable pub bytes_of : Option ℕ → List ℕ
bytes_of None = []
bytes_of (Some value) = value ∷ []

-- the line is over, and the next has not begun
unfoldable pub line_over : HexText → HexText
line_over s = record { stand = Between; line = s.line; column = 1 }

-- the end of the text, and what it gives
unfoldable pub ended_by : Stand → HexText → HexText
ended_by Between s = line_over s
ended_by (Digit high) s = standing s Bad
ended_by (Byte value) s = line_over s
ended_by (ByteReturn value) s = line_over s
ended_by Return s = line_over s
ended_by Comment s = line_over s
ended_by Bad s = standing s Bad

unfoldable pub end_given : Stand → List ℕ
end_given Between = []
end_given (Digit high) = []
end_given (Byte value) = value ∷ []
end_given (ByteReturn value) = value ∷ []
end_given Return = []
end_given Comment = []
end_given Bad = []

unfoldable pub ended : HexText → HexText
ended s = ended_by s.stand s

-- the text after bytes of it, and what they give
unfoldable pub after : HexText → List ℕ → HexText
after s [] = s
after s (b ∷ text) = after (stepped s b) text

unfoldable pub told : HexText → List ℕ → List ℕ
told s [] = []
told s (b ∷ text) = given_by s.stand b ++ told (stepped s b) text

-- whether the text is bad, and where
unfoldable pub is_bad : Stand → Bool
is_bad Between = false
is_bad (Digit high) = false
is_bad (Byte value) = false
is_bad (ByteReturn value) = false
is_bad Return = false
is_bad Comment = false
is_bad Bad = true

unfoldable pub bad_place : HexText → Option Place
bad_place s = cond (is_bad s.stand) (Some (record { line = s.line; column = s.column })) None
