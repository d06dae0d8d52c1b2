-- The small parts of a file beside its registers and colours: the palette pointer, the marks of the last pixel data access, the toggle, which says
-- whether the next 3C0h write is data, the chip, and the line that the display is at.
-- Assumes nothing.
use Rattle.std.specs.Prelude.{ℕ, Bool, false, cond, not, ◌&&◌, leb}
use Rattle.file.specs.declared.chip.Chip.{Chip}
use Rattle.file.specs.declared.chip.Chip.TheVariants.{Gd5464}
use Rattle.file.specs.declared.palette.Pointer.{Pointer}
use Rattle.file.specs.declared.state.State.{State}
use Rattle.file.specs.Palette.{addressed, marks_of, marks_sound, pointer_sound}

-- 01, end of 'Places': at power-on 'the toggle is index, and the pointer is at address 0, write mode, red, nothing held'; 02, 1/13, 'power-on is
-- write, blue'; 02, 6/13, 'Make the chip a choice when a file is created'; 02, 10/13, 'The line starts at 0'
unfoldable pub initial : Chip → State
unfolding addressed
initial chip = record { pointer = addressed false 0; marks = marks_of false 2; toggle = false; chip = chip; line = 0 }

-- a state that is not looked at
abbrev pub unasked : State
unasked = initial Gd5464

-- the state with another pointer; here and below all else stays
unfoldable pub pointing : Pointer → State → State
pointing new s = record { pointer = new; marks = s.marks; toggle = s.toggle; chip = s.chip; line = s.line }

-- 02, 1/13: after a 3C9h access, another pointer and other marks
unfoldable pub stepping : Pointer → ℕ → State → State
stepping new marks s = record { pointer = new; marks = marks; toggle = s.toggle; chip = s.chip; line = s.line }

-- with another toggle
unfoldable pub toggling : Bool → State → State
toggling new s = record { pointer = s.pointer; marks = s.marks; toggle = new; chip = s.chip; line = s.line }

-- the toggle flipped, where it flips
unfoldable pub flipped : Bool → State → State
unfolding toggling
flipped flips s = toggling (cond flips (not s.toggle) s.toggle) s

-- 02, 10/13: with another line
unfoldable pub passing : ℕ → State → State
passing new s = record { pointer = s.pointer; marks = s.marks; toggle = s.toggle; chip = s.chip; line = new }

-- 02, 10/13: the line 'is sound up to 2,048'
unfoldable pub last_line : ℕ
last_line = 2048

-- 01, end of 'The palette pointer', 02, 1/13 and 10/13: the part of soundness that speaks of the state
unfoldable pub state_sound : State → Bool
state_sound s = marks_sound s.marks && pointer_sound s.pointer && leb s.line last_line
