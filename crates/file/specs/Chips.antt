-- 02, 6/13, 'V-Port, both chips': what the chips' registers differ in beside the bits that they store (`Groups`).
-- Assumes nothing.
use Rattle.std.specs.Prelude.{ℕ, Bool, true, false}
use Rattle.file.specs.declared.chip.Chip.{Chip}
use Rattle.file.specs.declared.chip.Chip.TheVariants.{Gd5462, Gd5464}

-- two files are of one chip
unfoldable pub same_chip : Chip → Chip → Bool
same_chip Gd5462 Gd5462 = true
same_chip Gd5462 Gd5464 = false
same_chip Gd5464 Gd5462 = false
same_chip Gd5464 Gd5464 = true

-- 'PCI02 reads 00D0h for the 5462 and 00D4h for the 5464'
unfoldable pub pci02 : Chip → ℕ
pci02 Gd5462 = 0x00D0
pci02 Gd5464 = 0x00D4

-- 10Ch 'on the 5462 .. is V-Port Control ..; bits 11 and 10 read 1, bit 5 reads 0': the bits of 10Ch that read 1, whatever is stored. Bit 5 is not among
-- the stored ones, so it reads 0
unfoldable pub v_port_shown : Chip → ℕ
v_port_shown Gd5462 = 0x0C00
v_port_shown Gd5464 = 0x0000

-- 'and it reads 0C90h at power-on': what 10Ch stores then. The one exception to 01's 'At power-on all stored bits .. are 0'
unfoldable pub v_port_at_power_on : Chip → ℕ
v_port_at_power_on Gd5462 = 0x0090
v_port_at_power_on Gd5464 = 0x0000
