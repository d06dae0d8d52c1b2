-- 02, 12/13: the dot clock of a file. Source document 000 has the denominator and the post-scalar in SR0B-0E and the numerator in SR1B-1E.
-- Assumes nothing.
use Rattle.std.specs.Prelude.{ℕ, ◌+◌, ◌*◌, Bool, cond, eqb, Float, pos, Some, None}
use Rattle.std.specs.declared.option.Option.{Option}
use Rattle.std.specs.Float.{binary64}
use Rattle.std.specs.Float.Ieee.{div, of_int}
use Rattle.bits.specs.Store.{bit, bits}
use Rattle.file.specs.declared.answer.Answer.TheVariants.{Done, NotSound}
use Rattle.file.specs.declared.registers.File.{File}
use Rattle.file.specs.File.{register}
use Rattle.file.specs.Names.{MISC}
use Rattle.file.specs.Sound.{sound}
use Rattle.clock.specs.declared.reader.ClockRead.{ClockRead}
use Rattle.clock.specs.declared.terms.Terms.{Terms}
use Rattle.clock.specs.Lowest.{lowest, no_terms}

-- '14,318,180 Hz'
abbrev pub reference : ℕ
reference = 14318180

-- 000, 4-27: 'VCLK Denominator [6:0]' in bits 7:1, and 'VCLK Post-Scalar' in bit 0
unfoldable pub denominator : ℕ → ℕ
denominator d = bits 7 1 d

unfoldable pub post_scaled : ℕ → Bool
post_scaled d = eqb (bit 0 d) 1

-- 000, 4-31: 'VCLK Numerator [6:0]' in bits 6:0
unfoldable pub numerator : ℕ → ℕ
numerator n = bits 6 0 n

-- 'the whole product': '14,318,180 Hz times the 7-bit numerator'
unfoldable pub product : ℕ → ℕ
product n = reference * numerator n

-- 'the denominator or twice it': 'halved if the post-scalar bit is set'
unfoldable pub divisor : ℕ → ℕ
divisor d = cond (post_scaled d) (2 * denominator d) (denominator d)

-- 'The rate is one f64 division, rounded once, of the whole product by the denominator or twice it'
unfoldable pub rate : ℕ → ℕ → Float
rate d n = div binary64 (of_int binary64 (pos (product n))) (of_int binary64 (pos (divisor d)))

-- 'The answer is either a rate or that there is none, which is so exactly when the denominator is 0.'
unfoldable pub dot_clock : ℕ → ℕ → Option Float
dot_clock d n = cond (eqb (denominator d) 0) None (Some (rate d n))

-- 'Beside it give the two whole numbers in lowest terms.' Both are 0 where there is no rate
unfoldable pub terms_of : ℕ → ℕ → Terms
terms_of d n = cond (eqb (denominator d) 0) no_terms (lowest (product n) (divisor d))

-- 01, 'Stored bits': the numbers of SR0B and SR1B, each the first of four (the law `clocks-named`)
abbrev pub SR0B : ℕ
SR0B = 15

abbrev pub SR1B : ℕ
SR1B = 21

-- 002, 3-6: MISC[3:2] selects one of the four clocks
unfoldable pub selected : File → ℕ
selected f = bits 3 2 (register f MISC)

-- the selected clock's denominator byte and numerator byte
unfoldable pub denominator_byte : File → ℕ
denominator_byte f = register f (SR0B + selected f)

unfoldable pub numerator_byte : File → ℕ
numerator_byte f = register f (SR1B + selected f)

-- 01, 'all other readers of a file answer 12 with all numbers 0': the empty case, and both whole numbers 0
unfoldable pub read_clock : File → ClockRead
read_clock f =
    cond (sound f)
    (record { answer = Done 0; clock = dot_clock (denominator_byte f) (numerator_byte f); terms = terms_of (denominator_byte f) (numerator_byte f) })
    (record { answer = NotSound; clock = None; terms = no_terms })
