-- 01, 'Places' and 'The palette pointer', and 02, 1/13, 6/13 and 10/13: what a place is, said once. What an access answers and does goes by this.
-- Assumes nothing.
use Rattle.std.specs.Prelude.{ℕ, Bool, true, false}
use Rattle.file.specs.Names.{ARX, B0, capture_ystart}
use Rattle.file.specs.Registers.{register_count}
use Rattle.places.specs.declared.place.Place.{Place}
use Rattle.places.specs.declared.place.Place.TheVariants.{Register, Attribute, Fixed, DeviceId, ToggleState, AttributeIndex, PaletteState, VPortState, ReadAddress, WriteAddress, PixelData, ToggleReset, Unnamed, UnnamedAttribute, CurrentLine, Passing}

-- what a read gives: what a register holds; a number that never changes; PCI02, by the chip (02, 6/13); the toggle; B0 with the last pixel data
-- access (02, 1/13); 10Ch with the bits that read 1 (02, 6/13); the DAC state;
-- the address; the pixel's component, and the pointer moves and the marks are set; what the display is doing (02, 10/13), and the toggle is set to index;
-- the line (02, 10/13); no register is named
pub data Reading : Type 0 where
  gives_held : ℕ → Reading
  gives_fixed : ℕ → Reading
  gives_device_id gives_toggle gives_palette_state gives_vport_state gives_dac_state gives_address : Reading
  gives_pixel : Reading
  resets_toggle : Reading
  gives_line : Reading
  names_nothing : Reading

-- what a write does: it stores into a register, and may flip the toggle; it is refused; it sets the pointer, in read mode or not; it writes a
-- pixel's component; no register is named, and the toggle may flip all the same; so many lines pass (02, 10/13)
pub data Writing : Type 0 where
  stores_to : ℕ → Bool → Writing
  read_only : Writing
  sets_address : Bool → Writing
  writes_pixel : Writing
  stores_nothing : Bool → Writing
  passes_lines : Writing

pub record Profile : Type 0 where
  pub reading : Reading
  pub writing : Writing

abbrev profiled : Reading → Writing → Profile
profiled reading writing = record { reading = reading; writing = writing }

unfoldable pub profile : Place → Profile
profile (Register number) = profiled (gives_held number) (stores_to number false)
profile (Attribute number) = profiled (gives_held number) (stores_to number true)
profile (Fixed value) = profiled (gives_fixed value) read_only
profile DeviceId = profiled gives_device_id read_only
profile ToggleState = profiled gives_toggle read_only
profile AttributeIndex = profiled (gives_held ARX) read_only
profile PaletteState = profiled gives_palette_state (stores_to B0 false)
profile VPortState = profiled gives_vport_state (stores_to capture_ystart false)
profile ReadAddress = profiled gives_dac_state (sets_address true)
profile WriteAddress = profiled gives_address (sets_address false)
profile PixelData = profiled gives_pixel writes_pixel
profile ToggleReset = profiled resets_toggle read_only
profile Unnamed = profiled names_nothing (stores_nothing false)
profile UnnamedAttribute = profiled names_nothing (stores_nothing true)
profile CurrentLine = profiled gives_line read_only
profile Passing = profiled names_nothing passes_lines

-- the register that a write stores into; the number that none has where there is none
unfoldable pub stores_into : Writing → ℕ
stores_into (stores_to number flips) = number
stores_into read_only = register_count
stores_into (sets_address reading) = register_count
stores_into writes_pixel = register_count
stores_into (stores_nothing flips) = register_count
stores_into passes_lines = register_count

-- a write may flip the toggle
unfoldable pub flips : Writing → Bool
flips (stores_to number flip) = flip
flips read_only = false
flips (sets_address reading) = false
flips writes_pixel = false
flips (stores_nothing flip) = flip
flips passes_lines = false

-- a write lets lines pass (02, 10/13)
unfoldable pub lets_pass : Writing → Bool
lets_pass (stores_to number flip) = false
lets_pass read_only = false
lets_pass (sets_address reading) = false
lets_pass writes_pixel = false
lets_pass (stores_nothing flip) = false
lets_pass passes_lines = true

-- a read shows a pixel's component
unfoldable pub reads_pixel : Reading → Bool
reads_pixel (gives_held number) = false
reads_pixel (gives_fixed value) = false
reads_pixel gives_device_id = false
reads_pixel gives_toggle = false
reads_pixel gives_palette_state = false
reads_pixel gives_vport_state = false
reads_pixel gives_dac_state = false
reads_pixel gives_address = false
reads_pixel gives_pixel = true
reads_pixel resets_toggle = false
reads_pixel gives_line = false
reads_pixel names_nothing = false

-- a read sets the toggle to index
unfoldable pub resets : Reading → Bool
resets (gives_held number) = false
resets (gives_fixed value) = false
resets gives_device_id = false
resets gives_toggle = false
resets gives_palette_state = false
resets gives_vport_state = false
resets gives_dac_state = false
resets gives_address = false
resets gives_pixel = false
resets resets_toggle = true
resets gives_line = false
resets names_nothing = false
