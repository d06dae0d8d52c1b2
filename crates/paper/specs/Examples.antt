-- 01, 'Marked examples': P1 to P11 as one table, on each chip (02, 6/13), and behind them rows of our own for 02's requests.
-- Assumes nothing.
use Rattle.std.specs.Prelude.{ℕ, zero, suc, ◌+◌, Bool, true, false, ◌&&◌, List, [], ◌∷◌, ◌++◌, eqb, ℤ, pos, negsuc, get_or}
use Prim.Native.String.{String}
use Rattle.access.specs.declared.record.Record.{Record}
use Rattle.access.specs.Access.{access, answer}
use Rattle.file.specs.declared.chip.Chip.{Chip}
use Rattle.file.specs.declared.chip.Chip.TheVariants.{Gd5462, Gd5464}
use Rattle.file.specs.declared.palette.Colour.{Colour}
use Rattle.file.specs.declared.registers.File.{File}
use Rattle.file.specs.Answers.{code_of, value_of}
use Rattle.file.specs.Effects.{store_in}
use Rattle.file.specs.File.{power_on, black}
use Rattle.file.specs.Names.{MISC, PCI04, CR0, CR1, CR2, CR3, CR4, CR5, CR6, CR7, CR9, CR10, CR11, CR12, CR13, CR15, CR16, CR18, CR1B, CR1E, E0, E4}
use Rattle.file.specs.Registers.{stored_bits}
use Rattle.geometry.specs.Geometry.{read_geometry}
use Rattle.timing.specs.Timing.{timing_of, numbers_of, read_timing, write_timing}

-- a register set to a value by its mask constant, as the examples write CR11=80h
unfoldable pub set_register : ℕ → ℕ → File → File
set_register number value f = store_in number (stored_bits f.state.chip number) value f

pub record Setting : Type 0 where
  pub register : ℕ
  pub value : ℕ

infix 70 ◌≔◌
abbrev pub ◌≔◌ : ℕ → ℕ → Setting
r ≔ v = record { register = r; value = v }

-- 'From power-on' of a chip, with some registers set
unfoldable pub started : Chip → List Setting → File
started chip [] = power_on chip
started chip (s ∷ ss) = set_register s.register s.value (started chip ss)

-- records as the examples write them
abbrev asking : ℕ → ℕ → ℕ → ℕ → Record
asking kind width address value = record { kind = kind; width = width; address = address; value = value }

abbrev config_read : ℕ → Record
config_read address = asking 0 2 address 0

abbrev config_write : ℕ → ℕ → Record
config_write address value = asking 1 2 address value

abbrev port_read : ℕ → Record
port_read address = asking 2 1 address 0

abbrev port_write : ℕ → ℕ → Record
port_write address value = asking 3 1 address value

abbrev mmio_read : ℕ → Record
mmio_read address = asking 4 1 address 0

abbrev mmio_write : ℕ → ℕ → Record
mmio_write address value = asking 5 1 address value

abbrev mmio_read_word : ℕ → Record
mmio_read_word address = asking 4 2 address 0

abbrev mmio_write_word : ℕ → ℕ → Record
mmio_write_word address value = asking 5 2 address value

-- 02, 10/13: so many lines pass
abbrev passes : ℕ → Record
passes lines = asking 6 2 0x00 lines

-- a record, and the code and value that it gets
pub record Step : Type 0 where
  pub asks : Record
  pub code : ℕ
  pub value : ℕ

infix 70 ◌gives◌
abbrev ◌gives◌ : Record → ℕ → Step
r gives code = record { asks = r; code = code; value = 0 }

infix 70 ◌reads◌
abbrev ◌reads◌ : Record → ℕ → Step
r reads value = record { asks = r; code = 0; value = value }

-- what is looked at in the file after the records: nothing more; a palette entry; the timing; a timing write's code, and that it reads
-- back where that is 0; the cursor's left edge and shown width
pub data Look : Type 0 where
  nothing : Look
  entry_is : ℕ → ℕ → ℕ → ℕ → Look
  timing_is : List ℕ → Look
  writing : List ℕ → ℕ → Look
  cursor_is : ℤ → ℕ → Look

pub record Example : Type 0 where
  pub name : String
  pub start : List Setting
  pub steps : List Step
  pub look : Look

abbrev example : String → List Setting → List Step → Look → Example
example name start steps look = record { name = name; start = start; steps = steps; look = look }

-- 'From power-on with PCI04=0003h unless said.'
abbrev pub opened : List Setting
opened = PCI04 ≔ 0x0003 ∷ []

-- 'IBM mode 12h: CR0-7 5F 4F 50 82 54 80 0B 3E, CR9 40, CR10-13 EA 8C DF 28, CR15 E7, CR16 04, CR18 FF, rest 0.'
unfoldable pub mode12 : List Setting
mode12 =
    CR0 ≔ 0x5F ∷ CR1 ≔ 0x4F ∷ CR2 ≔ 0x50 ∷ CR3 ≔ 0x82 ∷ CR4 ≔ 0x54 ∷ CR5 ≔ 0x80 ∷ CR6 ≔ 0x0B ∷ CR7 ≔ 0x3E
    ∷ CR9 ≔ 0x40 ∷ CR10 ≔ 0xEA ∷ CR11 ≔ 0x8C ∷ CR12 ≔ 0xDF ∷ CR13 ≔ 0x28 ∷ CR15 ≔ 0xE7 ∷ CR16 ≔ 0x04 ∷ CR18 ≔ 0xFF
    ∷ opened

-- the timing of mode 12h, its horizontal blanking of so many clocks
abbrev pub blanked : ℕ → List ℕ
blanked clocks =
    100 ∷ 80 ∷ 80 ∷ (80 + clocks) ∷ 84 ∷ 96 ∷ 525 ∷ 480 ∷ 487 ∷ 516 ∷ 490 ∷ 492 ∷ 1023 ∷ 40 ∷ 0 ∷ []

-- 02, 7/13: CR1A with static sync in it, then pixel data by both roads and ways, the addresses, and pixel data once more with static sync off
abbrev pub sync_steps : ℕ → List Step
sync_steps sync =
    mmio_write 0x68 sync gives 0
    ∷ port_read 0x3C9 gives 9 ∷ port_write 0x3C9 7 gives 9 ∷ mmio_read 0xAC gives 9 ∷ mmio_write 0xAC 7 gives 9
    ∷ port_write 0x3C7 5 gives 0 ∷ port_read 0x3C7 reads 0x03 ∷ port_write 0x3C8 6 gives 0 ∷ port_read 0x3C8 reads 0x06
    ∷ mmio_write 0x68 0xF3 gives 0 ∷ port_read 0x3C9 reads 0x00 ∷ []

-- those that hold on either chip
unfoldable pub common : List Example
common =
    example "P1" (PCI04 ≔ 0x0000 ∷ []) (port_read 0x3CC gives 3 ∷ asking 9 1 0x3CC 0 gives 2 ∷ []) nothing
    ∷ example "P2" opened (config_write 0x04 0xFFFF gives 0 ∷ config_read 0x04 reads 0x0027 ∷ []) nothing
    ∷ example "P3" opened (port_write 0x3C2 0xFF gives 0 ∷ port_read 0x3CC reads 0xEF ∷ mmio_read 0x80 reads 0xEF ∷ []) nothing
    ∷ example "P4" (CR11 ≔ 0x80 ∷ opened) (mmio_write 0x00 0x00 gives 8 ∷ mmio_write 0x1C 0xFF gives 0 ∷ mmio_read 0x1C reads 0x10 ∷ []) nothing
    ∷ example "P5" (MISC ≔ 0x01 ∷ opened)
    (port_read 0x3B4 gives 5 ∷ port_write 0x3B4 0x00 gives 5 ∷ asking 4 2 0x00 0 gives 6 ∷ asking 5 2 0x00 0 gives 6
    ∷ mmio_read 0x70 gives 4 ∷ mmio_write 0x70 0x00 gives 4 ∷ [])
    nothing
    ∷ example "P6" opened
    (port_write 0x3C0 0x15 gives 0 ∷ port_write 0x3C0 0x07 gives 1 ∷ port_write 0x3B4 0x24 gives 0 ∷ port_read 0x3B5 reads 0x00 ∷ [])
    nothing
    ∷ example "P7" opened
    (port_write 0x3C8 0xFF gives 0 ∷ port_write 0x3C9 1 gives 0 ∷ port_write 0x3C9 2 gives 0 ∷ port_write 0x3C9 3 gives 0
    ∷ port_read 0x3C8 reads 0x00 ∷ [])
    (entry_is 255 1 2 3)
    ∷ example "P8" opened (mmio_write 0xB0 0xFF gives 0 ∷ mmio_read 0xB0 reads 0x8A ∷ port_read 0x3C9 gives 9 ∷ []) nothing
    ∷ example "P9" mode12 []
    (timing_is (100 ∷ 80 ∷ 80 ∷ 98 ∷ 84 ∷ 96 ∷ 525 ∷ 480 ∷ 487 ∷ 516 ∷ 490 ∷ 492 ∷ 1023 ∷ 40 ∷ 0 ∷ []))
    ∷ example "P10" opened [] (writing (blanked 64) 0)
    ∷ example "P10" opened [] (writing (blanked 65) 10)
    ∷ example "P10" (CR1B ≔ 0x20 ∷ opened) [] (writing (blanked 256) 0)
    ∷ example "P10" (CR1B ≔ 0x20 ∷ opened) [] (writing (blanked 257) 10)
    ∷ example "P11" (E0 ≔ 0x0005 ∷ E4 ≔ 0x0A00 ∷ opened) [] (cursor_is (negsuc 4) 54)
    ∷ example "02, 1/13" opened
    (port_write 0x3C7 0x00 gives 0 ∷ port_read 0x3C7 reads 0x03 ∷ mmio_read 0xB0 reads 0x02 ∷ port_read 0x3C9 reads 0x00 ∷ mmio_read 0xB0 reads 0x04 ∷ port_read 0x3C9 reads 0x00
    ∷ mmio_read 0xB0 reads 0x05 ∷ port_write 0x3C8 0x00 gives 0 ∷ mmio_read 0xB0 reads 0x05 ∷ port_write 0x3C9 7 gives 0 ∷ mmio_read 0xB0 reads 0x00
    ∷ port_write 0x3C9 8 gives 0 ∷ port_write 0x3C9 9 gives 0 ∷ mmio_read 0xB0 reads 0x02 ∷ [])
    nothing
    ∷ example "02, 1/13" opened
    (mmio_write 0xAC 1 gives 0 ∷ mmio_write 0xAC 2 gives 0 ∷ mmio_read 0xB0 reads 0x01 ∷ mmio_read 0xAC reads 0x00 ∷ mmio_read 0xB0 reads 0x06
    ∷ mmio_write 0xA4 0x00 gives 0 ∷ mmio_write 0xA8 0x00 gives 0 ∷ mmio_write 0xB0 0x80 gives 0 ∷ mmio_read 0xB0 reads 0x86 ∷ mmio_read 0xAC gives 9
    ∷ port_write 0x3C9 7 gives 9 ∷ mmio_read 0xB0 reads 0x86 ∷ mmio_read 0xA4 reads 0x00 ∷ [])
    nothing
    ∷ example "02, 2/13" (MISC ≔ 0x01 ∷ opened)
    (port_write 0x3CC 0x00 gives 16 ∷ port_write 0x3BA 0x00 gives 16 ∷ port_read 0x3BA gives 5 ∷ port_read 0x3C2 gives 16 ∷ port_read 0x3CA gives 4
    ∷ config_read 0x05 gives 17 ∷ asking 1 1 0x05 0 gives 17 ∷ config_read 0x06 gives 4
    ∷ mmio_read 0xC1 gives 17 ∷ asking 5 2 0xC1 0 gives 17 ∷ mmio_read 0xC0 gives 6 ∷ mmio_read 0xC2 gives 4 ∷ mmio_read 0x01 gives 4 ∷ [])
    nothing
    ∷ example "02, 6/13" opened
    (mmio_read_word 0x100 reads 0x0000 ∷ mmio_write_word 0x100 0xFFFF gives 0 ∷ mmio_read_word 0x100 reads 0x1F00 ∷ mmio_write_word 0x106 0xFFFF gives 0 ∷ mmio_read_word 0x106 reads 0x3FFF
    ∷ mmio_write_word 0x10A 0xFFFF gives 0 ∷ mmio_read_word 0x10A reads 0x03FF ∷ mmio_write_word 0x10E 0xFFFF gives 0 ∷ mmio_read_word 0x10E reads 0x01FF
    ∷ mmio_read 0x10C gives 6 ∷ mmio_read 0x10D gives 17 ∷ mmio_read_word 0x110 gives 4 ∷ config_write 0x02 0x0000 gives 7 ∷ mmio_write_word 0x302 0x0000 gives 7 ∷ [])
    nothing
    ∷ example "02, 7/13" opened (sync_steps 0x08) nothing
    ∷ example "02, 7/13" opened (sync_steps 0x04) nothing
    -- at power-on V total is 2, V display 1, V sync start 0 and V sync end 16
    ∷ example "02, 10/13" opened
    (port_read 0x3BA reads 0x08 ∷ passes 1 gives 0 ∷ port_read 0x3BA reads 0x09 ∷ port_read 0x3DA gives 5 ∷ port_write 0x3C2 0x01 gives 0 ∷ port_read 0x3DA reads 0x09
    ∷ passes 65535 gives 0 ∷ port_read 0x3DA reads 0x08 ∷ [])
    nothing
    -- V sync goes from line 1 to 16, past the total: it doesn't come round to line 0
    ∷ example "02, 10/13" (CR10 ≔ 0x01 ∷ opened)
    (port_read 0x3BA reads 0x00 ∷ passes 1 gives 0 ∷ port_read 0x3BA reads 0x09 ∷ [])
    nothing
    ∷ example "02, 10/13" mode12
    (passes 479 gives 0 ∷ port_read 0x3BA reads 0x00 ∷ passes 1 gives 0 ∷ port_read 0x3BA reads 0x01 ∷ passes 9 gives 0 ∷ port_read 0x3BA reads 0x01
    ∷ passes 1 gives 0 ∷ port_read 0x3BA reads 0x09 ∷ passes 1 gives 0 ∷ port_read 0x3BA reads 0x09 ∷ passes 1 gives 0 ∷ port_read 0x3BA reads 0x01
    ∷ passes 32 gives 0 ∷ port_read 0x3BA reads 0x01 ∷ passes 1 gives 0 ∷ port_read 0x3BA reads 0x00 ∷ [])
    nothing
    -- the total shortened to 13 by CR7[5] and back, while the line stands at 490: 9, and 490 again; a line passes at 13: 10
    ∷ example "02, 10/13" (CR11 ≔ 0x0C ∷ mode12)
    (passes 490 gives 0 ∷ port_read 0x3BA reads 0x09 ∷ mmio_write 0x1C 0x1E gives 0 ∷ port_read 0x3BA reads 0x00 ∷ mmio_write 0x1C 0x3E gives 0 ∷ port_read 0x3BA reads 0x09
    ∷ mmio_write 0x1C 0x1E gives 0 ∷ passes 1 gives 0 ∷ mmio_write 0x1C 0x3E gives 0 ∷ port_read 0x3BA reads 0x00
    ∷ passes 469 gives 0 ∷ port_read 0x3BA reads 0x00 ∷ passes 1 gives 0 ∷ port_read 0x3BA reads 0x01 ∷ [])
    nothing
    ∷ example "02, 10/13" opened
    (port_write 0x3C0 0x15 gives 0 ∷ port_write 0x3B4 0x24 gives 0 ∷ port_read 0x3B5 reads 0x80 ∷ port_read 0x3BA reads 0x08 ∷ port_read 0x3B5 reads 0x00 ∷ [])
    nothing
    ∷ example "02, 10/13" (PCI04 ≔ 0x0000 ∷ [])
    (passes 1 gives 0 ∷ port_read 0x3BA gives 3 ∷ config_write 0x04 0x0001 gives 0 ∷ port_read 0x3BA reads 0x09
    ∷ asking 6 1 0x00 1 gives 2 ∷ asking 6 2 0x01 1 gives 2 ∷ passes 0 gives 2 ∷ passes 65536 gives 2 ∷ asking 7 2 0x00 1 gives 2 ∷ port_read 0x3BA reads 0x09 ∷ [])
    nothing
    ∷ []

-- 02, 6/13: those that the two chips answer differently: PCI02, and 10Ch at power-on, with every bit written and with none; 02, 10/13: 140h, and with it
-- the line itself, at its longest total, where line and count together pass 16 bits
unfoldable pub own : Chip → List Example
own Gd5462 =
    example "02, 6/13" opened
    (config_read 0x02 reads 0x00D0 ∷ mmio_read_word 0x302 reads 0x00D0
    ∷ mmio_read_word 0x10C reads 0x0C90 ∷ mmio_write_word 0x10C 0xFFFF gives 0 ∷ mmio_read_word 0x10C reads 0xFFDF ∷ mmio_write_word 0x10C 0x0000 gives 0 ∷ mmio_read_word 0x10C reads 0x0C00 ∷ [])
    nothing
    ∷ example "02, 10/13" opened
    (mmio_read_word 0x140 gives 4 ∷ mmio_write_word 0x140 0x0000 gives 4 ∷ mmio_read 0x140 gives 4 ∷ mmio_read 0x141 gives 4 ∷ mmio_write 0x141 0x00 gives 4 ∷ [])
    nothing
    ∷ []
own Gd5464 =
    example "02, 6/13" opened
    (config_read 0x02 reads 0x00D4 ∷ mmio_read_word 0x302 reads 0x00D4
    ∷ mmio_read_word 0x10C reads 0x0000 ∷ mmio_write_word 0x10C 0xFFFF gives 0 ∷ mmio_read_word 0x10C reads 0x01FF ∷ [])
    nothing
    ∷ example "02, 10/13" opened
    (mmio_read_word 0x140 reads 0x0000 ∷ passes 3 gives 0 ∷ mmio_read_word 0x140 reads 0x0001 ∷ mmio_read 0x140 gives 6 ∷ mmio_write_word 0x140 0x0000 gives 16 ∷ mmio_write 0x140 0x00 gives 16
    ∷ mmio_read 0x141 gives 17 ∷ mmio_write 0x141 0x00 gives 17 ∷ mmio_read 0x142 gives 4 ∷ [])
    nothing
    ∷ example "02, 10/13" (CR6 ≔ 0xFF ∷ CR7 ≔ 0x21 ∷ CR1E ≔ 0x08 ∷ opened)
    (passes 2048 gives 0 ∷ mmio_read_word 0x140 reads 0x0800 ∷ passes 65535 gives 0 ∷ mmio_read_word 0x140 reads 0x07DF
    ∷ mmio_write 0x1C 0x00 gives 0 ∷ mmio_read_word 0x140 reads 0x02DE ∷ mmio_write 0x1C 0x21 gives 0 ∷ mmio_read_word 0x140 reads 0x07DF ∷ [])
    nothing
    ∷ []

-- the table, on a chip
unfoldable pub examples : Chip → List Example
unfolding common own
examples chip = common ++ own chip

-- the tests
unfoldable pub same_numbers : List ℕ → List ℕ → Bool
same_numbers [] [] = true
same_numbers [] (b ∷ bs) = false
same_numbers (a ∷ as') [] = false
same_numbers (a ∷ as') (b ∷ bs) = eqb a b && same_numbers as' bs

unfoldable pub same_integer : ℤ → ℤ → Bool
same_integer (pos a) (pos b) = eqb a b
same_integer (pos a) (negsuc b) = false
same_integer (negsuc a) (pos b) = false
same_integer (negsuc a) (negsuc b) = eqb a b

-- each record gets its code and value
unfoldable pub steps_hold : File → List Step → Bool
steps_hold f [] = true
steps_hold f (s ∷ ss) =
    eqb (code_of (answer f s.asks)) s.code
    && eqb (value_of (answer f s.asks)) s.value
    && steps_hold (access f s.asks).file ss

unfoldable pub after_steps : File → List Step → File
after_steps f [] = f
after_steps f (s ∷ ss) = after_steps (access f s.asks).file ss

unfoldable pub colour_is : Colour → ℕ → ℕ → ℕ → Bool
colour_is c red green blue = eqb c.red red && eqb c.green green && eqb c.blue blue

-- a timing write gets its code; accepted, it reads back
unfoldable pub writing_holds : File → List ℕ → ℕ → Bool
writing_holds f numbers zero =
    eqb (code_of (write_timing f (timing_of numbers)).answer) 0
    && same_numbers (numbers_of (read_timing (write_timing f (timing_of numbers)).file).timing) numbers
writing_holds f numbers (suc code) = eqb (code_of (write_timing f (timing_of numbers)).answer) (suc code)

unfoldable pub look_holds : File → Look → Bool
look_holds f nothing = true
look_holds f (entry_is n red green blue) = colour_is (get_or f.palette n black) red green blue
look_holds f (timing_is numbers) = same_numbers (numbers_of (read_timing f).timing) numbers
look_holds f (writing numbers code) = writing_holds f numbers code
look_holds f (cursor_is left width) = same_integer (read_geometry f).cursor.left.0 left && eqb (read_geometry f).cursor.width.0 width

unfoldable pub holds : Chip → Example → Bool
holds chip e = steps_hold (started chip e.start) e.steps && look_holds (after_steps (started chip e.start) e.steps) e.look

unfoldable pub are_all_held : Chip → List Example → Bool
are_all_held chip [] = true
are_all_held chip (e ∷ es) = holds chip e && are_all_held chip es
