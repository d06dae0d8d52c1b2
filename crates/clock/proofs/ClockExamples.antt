-- The definitions at the four clocks that source document 000, 4-31 lists, and at some others: bit patterns and lowest terms, worked out apart
-- from this project. A computed test. Assumes nothing.
use Prim.Native.Nat.{ℕ}
use mathlib.Core.Bool.{Bool, true, ◌&&◌}
use mathlib.Core.List.{List, [], ◌∷◌}
use lib.Dec.{T, eqb}
use lib.Ieee.{binary64, div, mul, of_int, round, to_bits}
use Rattle.bits.specs.Store.{bit, bits}
use Rattle.clock.specs.Clock.{denominator, divisor, numerator, post_scaled, product, rate, terms_of}
use Rattle.clock.specs.Lowest.{common_divisor, divides_both, largest_divisor, lowest, no_terms}

-- a denominator byte and a numerator byte, the rate's bits, and p/q
pub record Example : Type 0 where
  pub d : ℕ
  pub n : ℕ
  pub pattern : ℕ
  pub p : ℕ
  pub q : ℕ

abbrev row : ℕ → ℕ → ℕ → ℕ → ℕ → Example
row d n pattern p q = record { d = d; n = n; pattern = pattern; p = p; q = q }

unfoldable pub examples : List Example
examples =
    -- 25.180, 28.325, 41.165 and 36.082 MHz
    row 0x3B 0x66 0x4178_0385_7961_1A7C 730227180 29
    ∷ row 0x2F 0x5B 0x417B_034E_737A_6F4E 651477190 23
    ∷ row 0x30 0x45 0x4183_A0FE_FC00_0000 82329535 2
    ∷ row 0x33 0x7E 0x4181_3484_ACCC_CCCD 180409068 5
    -- nothing is left: the base rate, half of it, and the same by other numbers
    ∷ row 0x02 0x01 0x416B_4F4C_8000_0000 14318180 1
    ∷ row 0x03 0x01 0x415B_4F4C_8000_0000 7159090 1
    ∷ row 0xFF 0x7F 0x415B_4F4C_8000_0000 7159090 1
    -- the rate 0
    ∷ row 0x02 0x00 0 0 1
    -- rounded twice this is another number
    ∷ row 0x06 0x05 0x4176_C215_1555_5555 71590900 3
    ∷ []

unfoldable pub are_all_held : List Example → Bool
are_all_held [] = true
are_all_held (e ∷ es) =
    eqb (to_bits binary64 (rate e.d e.n)) e.pattern && eqb (terms_of e.d e.n).p e.p && eqb (terms_of e.d e.n).q e.q
    && are_all_held es

pub examples-hold : T (are_all_held examples)
unfolding are_all_held examples to_bits rate div mul of_int round product numerator divisor denominator post_scaled terms_of lowest common_divisor largest_divisor divides_both no_terms bit bits
examples-hold = tt
