-- 02, 4/13: 'Reading tests 12, 18, 19, 8, 10': a test that comes first is answered, whatever those behind it would say. Assumes nothing.
use Prim.Native.Nat.{ℕ}
use mathlib.Core.Bool.{true, false}
use mathlib.Core.Path.{◌≡◌}
use Rattle.std.specs.Prelude.{Result, Ok, Err}
use Rattle.file.specs.Sound.{sound}
use Rattle.file.specs.declared.registers.File.{File}
use Rattle.modes.specs.declared.mode.Mode.{Mode}
use Rattle.mode_file.specs.declared.verdict.Verdict.TheVariants.{NotSound, BadText, NotMultiple}
use Rattle.mode_file.specs.Into.{answered, mode_line, read_mode, read_parsed, read_result, read_with, refused_line}
use Rattle.mode_file.specs.Said.{eights}

module _ (f : File) where
  pub first-unsound : (p : Result Mode ℕ) → sound f ≡ false → refused_line NotSound f ≡ read_with p f
  unfolding read_with answered read_result
  first-unsound p s = rw s

  pub then-bad-text : (place : ℕ) → sound f ≡ true → refused_line (BadText place) f ≡ read_with (Err place) f
  unfolding read_with answered read_result read_parsed
  then-bad-text place s = rw s

  pub then-uneven : (m : Mode) → sound f ≡ true → eights m.numbers ≡ false → refused_line NotMultiple f ≡ read_with (Ok m) f
  unfolding read_with answered read_result read_parsed read_mode
  then-uneven m s e = rw (s, e)

  -- 8 and 10 are the timing writer's, in its own order
  pub then-timing : (m : Mode) → sound f ≡ true → eights m.numbers ≡ true → answered (mode_line m f) f ≡ read_with (Ok m) f
  unfolding read_with read_result read_parsed read_mode
  then-timing m s e = rw (s, e)
