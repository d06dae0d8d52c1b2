-- Bytes of any kind as text that is safe on a terminal: 20h to 7Eh stand as they are, but neither a backslash nor a quote, which escapes and ends
-- such a text; every other byte is \x and two hex digits, capitals.
-- Assumes nothing.
use Rattle.std.specs.Prelude.{ℕ, ◌/◌, ◌%◌, Bool, cond, not, ◌&&◌, List, [], ◌∷◌, ◌++◌, eqb, ltb}
use Rattle.text.specs.declared.placed.Placed.{Placed}
use Rattle.text.specs.Lent.{Lined, room_answer}
use Rattle.text.specs.Text.{capital}

-- a byte that stands as it is
unfoldable pub is_plain : ℕ → Bool
is_plain b = not (ltb b 0x20) && not (ltb 0x7E b) && not (eqb b 0x5C) && not (eqb b 0x27)

-- \x and two hex digits
unfoldable pub escape : ℕ → List ℕ
escape b = 0x5C ∷ 0x78 ∷ capital (b / 16) ∷ capital (b % 16) ∷ []

unfoldable pub escaped_byte : ℕ → List ℕ
escaped_byte b = cond (is_plain b) (b ∷ []) (escape b)

unfoldable pub escaped_text : List ℕ → List ℕ
escaped_text [] = []
escaped_text (b ∷ bs) = escaped_byte b ++ escaped_text bs

-- a text was asked for from a place of a buffer on: it stands there whole, or is refused with code 11
abbrev pub TextPut : List ℕ → ℕ → List ℕ → List ℕ → Placed → Type 0
TextPut text at before after r = Lined (room_answer before at text) at text before after r
