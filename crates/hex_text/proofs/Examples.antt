-- What some texts mean, computed. Assumes nothing.
use mathlib.Core.Bool.{true, false}
use mathlib.Core.Path.{◌≡◌, refl}
use mathlib.Core.List.{[], ◌∷◌}
use Rattle.hex_text.specs.Text.{meaning, meant, words_of, line_words, words_from, word_before, lines_from, without_return, before_hash}
use Rattle.hex_text.specs.Text.{good, byte_of, digit, digit_value, between, blank, nothing, bad_at, with_bytes}

-- `5f# x`, LF, `A0`: a comment directly after a word
pub after-comment : meaning (0x35 ∷ 0x66 ∷ 0x23 ∷ 0x20 ∷ 0x78 ∷ 0x0A ∷ 0x41 ∷ 0x30 ∷ [])
    ≡ record { bytes = 0x5F ∷ 0xA0 ∷ []; bad = false; line = 0; column = 0 }
unfolding meaning meant words_of line_words words_from word_before lines_from without_return before_hash
    good byte_of digit digit_value between blank nothing bad_at with_bytes
after-comment = refl

-- `5F`, CR, LF, `A0`, CR: a CR before LF and at the text's end
pub returns-at-ends : meaning (0x35 ∷ 0x46 ∷ 0x0D ∷ 0x0A ∷ 0x41 ∷ 0x30 ∷ 0x0D ∷ []) ≡ record { bytes = 0x5F ∷ 0xA0 ∷ []; bad = false; line = 0; column = 0 }
unfolding meaning meant words_of line_words words_from word_before lines_from without_return before_hash
    good byte_of digit digit_value between blank nothing bad_at with_bytes
returns-at-ends = refl

-- LF, `5F 5F1`: three digits, in line 2 from column 4
pub three-digits : meaning (0x0A ∷ 0x35 ∷ 0x46 ∷ 0x20 ∷ 0x35 ∷ 0x46 ∷ 0x31 ∷ []) ≡ record { bytes = 0x5F ∷ []; bad = true; line = 2; column = 4 }
unfolding meaning meant words_of line_words words_from word_before lines_from without_return before_hash
    good byte_of digit digit_value between blank nothing bad_at with_bytes
three-digits = refl

-- a tab, `5F`, CR, `#`: a CR that is not at the line's end
pub stray-return : meaning (0x09 ∷ 0x35 ∷ 0x46 ∷ 0x0D ∷ 0x23 ∷ []) ≡ record { bytes = []; bad = true; line = 1; column = 2 }
unfolding meaning meant words_of line_words words_from word_before lines_from without_return before_hash
    good byte_of digit digit_value between blank nothing bad_at with_bytes
stray-return = refl
