-- A line that is written has at most 113 bytes. Assumes nothing.
use Prim.Native.Nat.{ℕ, suc, ◌*◌, ◌/◌, ◌%◌, ◌≤◌}
use mathlib.Core.List.{List, [], ◌∷◌, map}
use native.Mathlib.Omega.{arith}
use lib.Dec.{T, leb, leb→le}
use lib.ListN.{length, length-append}
use Rattle.bits.proofs.Test.{right}
use Rattle.file.specs.declared.registers.File.{File}
use Rattle.text.proofs.Places.{most-places}
use Rattle.text.proofs.Spelled.{digits-length}
use Rattle.text.specs.Text.{decimal, decimal_places}
use Rattle.timing.specs.Timing.{timing_in}
use Rattle.modes.specs.Form.{numbers_text}
use Rattle.mode_text.specs.Out.{name_fits, clock_fits, numbers_out, clock_out, minus_in, parts_out, line_out}
use Rattle.mode_text.proofs.Decimals.{spells}
use Rattle.mode_text.proofs.Fitting.{name-most}
use Rattle.mode_text.proofs.Joined.{stored-long}
use Rattle.mode_text.proofs.WrittenGood.{fives, file-numbers}

-- six bytes a number, seven the clock
numbers-short : (ns : List ℕ) → fives ns → length (numbers_text (map decimal ns)) ≤ 6 * length ns
unfolding numbers_text
numbers-short [] h = omega arith
numbers-short (n ∷ ns) h = rw length-append (omega (arith, (spells n (h 0)).short, numbers-short ns (λ k. h (suc k))))

clock-short : (khz : ℕ) → T (clock_fits khz) → length (clock_out khz) ≤ 7
unfolding clock_fits clock_out decimal
clock-short khz c =
    let most : khz ≤ 999999 = leb→le khz 999999 (right (leb 1 khz) (leb khz 999999) c) in
    rw length-append
    (omega (
      arith,
      digits-length (decimal_places (khz / 1000) (khz / 1000)) (khz / 1000),
      most-places 2 (khz / 1000) (khz / 1000) (omega arith),
      digits-length 3 (khz % 1000),
    ))

module _ (f : File) (name : List ℕ) (khz : ℕ) (n : T (name_fits name)) (c : T (clock_fits khz)) where
  pub line-short : length (line_out f name khz) ≤ 113
  unfolding line_out parts_out numbers_out
  line-short =
      rw (stored-long name khz (numbers_out (timing_in f)) (minus_in f 6) (minus_in f 7))
      (omega (arith, name-most name n, clock-short khz c, numbers-short (numbers_out (timing_in f)) (file-numbers f)))
