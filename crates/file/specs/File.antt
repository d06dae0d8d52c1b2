-- The file as a whole: its parts one at a time, a file of which only parts are looked at, and power-on.
-- Assumes nothing.
use Rattle.std.specs.Prelude.{ℕ, ◌≡◌, Bool, List, [], get_or, set, replicate, eqb}
use Rattle.bits.specs.Store.{bit}
use Rattle.file.specs.declared.chip.Chip.{Chip}
use Rattle.file.specs.declared.palette.Colour.{Colour}
use Rattle.file.specs.declared.palette.Pointer.{Pointer}
use Rattle.file.specs.declared.registers.File.{File}
use Rattle.file.specs.declared.state.State.{State}
use Rattle.file.specs.Chips.{v_port_at_power_on}
use Rattle.file.specs.Names.{CR11, capture_ystart}
use Rattle.file.specs.Registers.{register_count}
use Rattle.file.specs.State.{initial, pointing, toggling, passing}

-- what a register holds
unfoldable pub register : File → ℕ → ℕ
register f number = get_or f.registers number 0

-- code 8: 'while CR11[7]=1'
unfoldable pub crtc_locked : File → Bool
crtc_locked f = eqb (bit 7 (register f CR11)) 1

-- the file with one part anew
unfoldable pub with_registers : List ℕ → File → File
with_registers new f = record { registers = new; palette = f.palette; bank = f.bank; state = f.state }

unfoldable pub with_palette : List Colour → File → File
with_palette new f = record { registers = f.registers; palette = new; bank = f.bank; state = f.state }

unfoldable pub with_bank : List Colour → File → File
with_bank new f = record { registers = f.registers; palette = f.palette; bank = new; state = f.state }

unfoldable pub with_state : State → File → File
with_state new f = record { registers = f.registers; palette = f.palette; bank = f.bank; state = new }

unfoldable pub with_pointer : Pointer → File → File
unfolding with_state pointing
with_pointer new f = with_state (pointing new f.state) f

unfoldable pub with_toggle : Bool → File → File
unfolding with_state toggling
with_toggle new f = with_state (toggling new f.state) f

unfoldable pub with_line : ℕ → File → File
unfolding with_state passing
with_line new f = with_state (passing new f.state) f

-- 02, 10/13: the line 'is outside demand 3's sameness'. Two files are the same if all but the line is
unfoldable pub Same : File → File → Type 0
Same f g = f ≡ with_line f.state.line g

-- a file of which no more is looked at than these registers and this state: it has no colours
unfoldable pub seen : List ℕ → State → File
seen registers state = record { registers = registers; palette = []; bank = []; state = state }

unfoldable pub black : Colour
black = record { red = 0; green = 0; blue = 0 }

-- 01, 'a bank of 16 cursor and border colours, else one of 256'
abbrev pub palette_count : ℕ
palette_count = 256

abbrev pub bank_count : ℕ
bank_count = 16

-- 01, end of 'Places': 'At power-on all stored bits and entries are 0, the toggle is index, and the pointer is at address 0, write mode, red, nothing held.'
-- 02, 1/13: 'power-on is write, blue'; 02, 6/13: 10Ch of the 5462 is the one register that starts with a stored bit set; 02, 10/13:
-- 'The line starts at 0'
unfoldable pub power_on : Chip → File
unfolding initial black
power_on chip =
    record {
      registers = set (replicate register_count 0) capture_ystart (v_port_at_power_on chip);
      palette = replicate palette_count black;
      bank = replicate bank_count black;
      state = initial chip;
    }
