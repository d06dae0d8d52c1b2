-- 02, 13/13: 'Use Table 9-1 of source document 004'. The fourteen numbers of a CL-GD7541/7543 as one table of pieces, high bits first, in the order
-- of 01's table. Register number 0x1A is CR1Ah, the byte of that number.
-- Assumes nothing.
use Rattle.std.specs.Prelude.{ℕ, List, [], ◌∷◌, replicate}
use Rattle.bits.specs.Numbers.{plus, end_of_last, Number}
use Rattle.bits.specs.Pieces.{piece}
use Rattle.timing.specs.Layout.{Layout}
use Rattle.timing.specs.Ranges.{Range, ◌to◌, end_of_bits}
use Rattle.timing.specs.Table.{whole, one, number}

-- H total, H display, H blank start, H blank end, H sync start, H sync end; V likewise; line compare, offset. 'No CR1E, so nine-bit horizontal
-- numbers lose their ninth bit and eleven-bit vertical ones their eleventh; CR1A gives the blank ends and CR1B[4] the offset.'
unfoldable pub table : List Number
table =
    number (plus 5) (whole 0x00 ∷ [])
    ∷ number (plus 1) (whole 0x01 ∷ [])
    ∷ number (plus 0) (whole 0x02 ∷ [])
    ∷ number end_of_last (piece 0x1A 5 4 ∷ one 0x05 7 ∷ piece 0x03 4 0 ∷ [])
    ∷ number (plus 0) (whole 0x04 ∷ [])
    ∷ number end_of_last (piece 0x05 4 0 ∷ [])
    ∷ number (plus 2) (one 0x07 5 ∷ one 0x07 0 ∷ whole 0x06 ∷ [])
    ∷ number (plus 1) (one 0x07 6 ∷ one 0x07 1 ∷ whole 0x12 ∷ [])
    ∷ number (plus 0) (one 0x09 5 ∷ one 0x07 3 ∷ whole 0x15 ∷ [])
    ∷ number end_of_last (piece 0x1A 7 6 ∷ whole 0x16 ∷ [])
    ∷ number (plus 0) (one 0x07 7 ∷ one 0x07 2 ∷ whole 0x10 ∷ [])
    ∷ number end_of_last (piece 0x11 3 0 ∷ [])
    ∷ number (plus 0) (one 0x09 6 ∷ one 0x07 4 ∷ whole 0x18 ∷ [])
    ∷ number (plus 0) (one 0x1B 4 ∷ whole 0x13 ∷ [])
    ∷ []

-- 'that chip's ranges'. 'The blank pieces always count there', so the ends have 8 and 10 bits
unfoldable pub ranges : List Range
ranges =
    5 to 260  -- H total
    ∷ 1 to 256  -- H display
    ∷ 0 to 255  -- H blank start
    ∷ end_of_bits 8  -- H blank end
    ∷ 0 to 255  -- H sync start
    ∷ end_of_bits 5  -- H sync end
    ∷ 2 to 1025  -- V total
    ∷ 1 to 1024  -- V display
    ∷ 0 to 1023  -- V blank start
    ∷ end_of_bits 10  -- V blank end
    ∷ 0 to 1023  -- V sync start
    ∷ end_of_bits 4  -- V sync end
    ∷ 0 to 1023  -- line compare
    ∷ 0 to 511  -- offset
    ∷ []

-- '28 lent bytes, CR00h to CR1Bh': each stores all of its bits
unfoldable pub stored : List ℕ
stored = replicate 28 0xFF

abbrev pub layout : Layout
layout = record { stored = stored; table = table; ranges = ranges }
