-- What a run's engine goes by, and nobody beside 01 needs: what an access says, as one number: 16 bits of value, 8 of code, then 1 where what was read is the
-- pixel that the pointer names, 2 where an entry of the palette is painted and 3 of the bank; then the next colour, or the colour painted, and the address.
-- Assumes nothing.
use Rattle.std.specs.Prelude.{ℕ, ◌/◌, ◌%◌, ◌<◌, ◌≡◌, Bool, eqb, leb}
use Rattle.file.specs.declared.answer.Answer.{Answer}
use Rattle.file.specs.declared.palette.Colour.{Colour}
use Rattle.file.specs.Answers.{code_of, value_of}

abbrev pub plain_said : ℕ
plain_said = 16777216

unfoldable pub code_in : ℕ → ℕ
code_in said = said / 65536 % 256

unfoldable pub value_in : ℕ → ℕ
value_in said = said % 65536

unfoldable pub mark_in : ℕ → ℕ
mark_in said = said / plain_said % 256

unfoldable pub pixel_in : ℕ → Bool
pixel_in said = eqb (mark_in said) 1

unfoldable pub paints_in : ℕ → Bool
paints_in said = leb 2 (mark_in said)

unfoldable pub bank_in : ℕ → Bool
bank_in said = eqb (mark_in said) 3

unfoldable pub colour_in : ℕ → Colour
colour_in said = record { red = said / 4294967296 % 256; green = said / 1099511627776 % 256; blue = said / 281474976710656 % 256 }

unfoldable pub next_in : ℕ → ℕ
next_in said = said / 4294967296 % 256

unfoldable pub address_in : ℕ → ℕ
address_in said = said / 72057594037927936

-- a number that says an answer and no more
pub record Told (a : Answer) (said : ℕ) : Type 0 where
  pub code : code_in said ≡ code_of a
  pub value : value_in said ≡ value_of a
  pub plain : said < plain_said
