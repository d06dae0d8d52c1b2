-- 01, end of 'The palette pointer', and 02, 1/13, 6/13 and 10/13: soundness.
-- Assumes nothing.
use Rattle.std.specs.Prelude.{ℕ, Bool, true, false, ◌&&◌, List, [], ◌∷◌, leb}
use Rattle.bits.specs.Store.{within}
use Rattle.file.specs.declared.chip.Chip.{Chip}
use Rattle.file.specs.declared.effect.Effect.{Effect}
use Rattle.file.specs.declared.effect.Effect.TheVariants.{Nothing, Store, Toggle, Move, Step, Paint, Pass}
use Rattle.file.specs.declared.registers.File.{File}
use Rattle.file.specs.Palette.{marks_sound, pointer_sound}
use Rattle.file.specs.State.{state_sound, last_line}
use Rattle.file.specs.Registers.{stored_bits, stored_table}

-- each register has a row of the table, each row a register, and no bit is set outside the row's
unfoldable pub all_within : List ℕ → List ℕ → Bool
all_within [] [] = true
all_within [] (value ∷ values) = false
all_within (stored ∷ table) [] = false
all_within (stored ∷ table) (value ∷ values) = within stored value && all_within table values

-- 'A file is sound if no bit outside the table is set, the next colour is 0 to 2, held green is 0 before blue is due, and held red is 0 at red.'
-- 02, 1/13: 'The marks are sound for direction 0 or 1 and colour 0 to 2.' 02, 6/13: the table is that of the file's chip.
-- 02, 10/13: the line 'is sound up to 2,048'
unfoldable pub sound : File → Bool
sound f = all_within (stored_table f.state.chip) f.registers && state_sound f.state

-- an effect that stores within a chip's stored bits, and moves to a sound pointer, sound marks and a sound line
unfoldable pub keeps : Chip → Effect → Bool
keeps chip Nothing = true
keeps chip (Store flips number reach value) = within (stored_bits chip number) reach
keeps chip (Toggle toggle) = true
keeps chip (Move pointer) = pointer_sound pointer
keeps chip (Step pointer marks) = marks_sound marks && pointer_sound pointer
keeps chip (Paint bank entry pointer colour marks) = marks_sound marks && pointer_sound pointer
keeps chip (Pass line) = leb line last_line
