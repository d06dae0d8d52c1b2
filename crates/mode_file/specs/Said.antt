-- 02, 4/13: what a modeline says to a file: the fifteen timing numbers, and the flags' bits of MISC.
-- Assumes nothing.
use Rattle.std.specs.Prelude.{ℕ, ◌+◌, ◌/◌, ◌%◌, min, Bool, false, cond, List, [], ◌∷◌, map, eqb, get_or, take}
use Rattle.file.specs.declared.effect.Effect.{Effect}
use Rattle.file.specs.declared.effect.Effect.TheVariants.{Store}
use Rattle.file.specs.declared.registers.File.{File}
use Rattle.file.specs.Effects.{apply}
use Rattle.file.specs.Names.{MISC}
use Rattle.timing.specs.declared.Timing.{Timing}
use Rattle.timing.specs.Timing.{timing_of, with_timing}
use Rattle.modes.specs.declared.mode.Mode.{Mode}
use Rattle.modes.specs.Form.{every}

-- 'Horizontal numbers must be multiples of 8.'
unfoldable pub eights : List ℕ → Bool
eights numbers = every (λ (n : ℕ). eqb (n % 8) 0) (take 4 numbers)

-- a line's eight numbers are display, sync start, sync end and total across, in pixels, and then down, in scanlines. The same with character clocks for
-- pixels: eight pixels are one
unfoldable pub in_clocks : List ℕ → List ℕ
in_clocks n =
    get_or n 0 0 / 8 ∷ get_or n 1 0 / 8 ∷ get_or n 2 0 / 8 ∷ get_or n 3 0 / 8 ∷ get_or n 4 0 ∷ get_or n 5 0 ∷ get_or n 6 0 ∷ get_or n 7 0 ∷ []

-- 'Blanking starts at display and ends at total; line compare is 1023, offset is display pixels divided by 8, screen start 0.'
-- In the order of 01's table
unfoldable pub fifteen : List ℕ → List ℕ
fifteen n =
    get_or n 3 0  -- H total
    ∷ get_or n 0 0  -- H display
    ∷ get_or n 0 0  -- H blank start
    ∷ get_or n 3 0  -- H blank end
    ∷ get_or n 1 0  -- H sync start
    ∷ get_or n 2 0  -- H sync end
    ∷ get_or n 7 0  -- V total
    ∷ get_or n 4 0  -- V display
    ∷ get_or n 4 0  -- V blank start
    ∷ get_or n 7 0  -- V blank end
    ∷ get_or n 5 0  -- V sync start
    ∷ get_or n 6 0  -- V sync end
    ∷ 1023  -- line compare
    ∷ get_or n 0 0  -- offset
    ∷ 0  -- screen start
    ∷ []

unfoldable pub timing_said : List ℕ → Timing
timing_said numbers = timing_of (fifteen (in_clocks numbers))

-- the timing that the code makes of them: its numbers have 16 bits, and one that is larger becomes 65535
unfoldable pub clamped_said : List ℕ → Timing
clamped_said numbers = timing_of (fifteen (map (λ (n : ℕ). min n 65535) (in_clocks numbers)))

-- 'they go to MISC[7:6]': [6] is horizontal, [7] vertical, 1 is minus
unfoldable pub flag_reach : ℕ
flag_reach = 0xC0

unfoldable pub flag_bits : Bool → Bool → ℕ
flag_bits h v = cond h 0x40 0 + cond v 0x80 0

unfoldable pub flag_store : Bool → Bool → Effect
unfolding flag_reach
flag_store h v = Store false MISC flag_reach (flag_bits h v)

-- the file with a mode
unfoldable pub with_mode : Mode → File → File
with_mode m f = apply (flag_store m.h_minus m.v_minus) (with_timing (timing_said m.numbers) f)
