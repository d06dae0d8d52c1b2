-- 01, 'Places', 'Stored bits', and 02, 6/13: the 108 registers that the file stores, as one table, on both chips. A register's number is its place in it.
-- Assumes nothing.
use Rattle.std.specs.Prelude.{ℕ, List, [], ◌∷◌, ◌++◌, map, get_or}
use Prim.Native.String.{String}
use Rattle.file.specs.declared.chip.Chip.{Chip}
use Rattle.file.specs.Groups.{groups, rows_of, stored_in}

-- a register: its name, its index or offset, and its width in bytes
pub record Register : Type 0 where
  pub name : String
  pub index : ℕ
  pub width : ℕ

abbrev eight : String → ℕ → Register
eight name index = record { name = name; index = index; width = 1 }

abbrev sixteen : String → ℕ → Register
sixteen name index = record { name = name; index = index; width = 2 }

-- 01, 'Stored bits', first line: the registers with no index of their own. The index of PCI04 is its offset
unfoldable pub singles : List Register
singles =
    eight "MISC" 0x00
    ∷ eight "SRX" 0x00
    ∷ eight "CRX" 0x00
    ∷ eight "GRX" 0x00
    ∷ eight "ARX" 0x00
    ∷ eight "pixel mask" 0x00
    ∷ sixteen "PCI04" 0x04
    ∷ []

-- 01, 'Stored bits', second line, by index
unfoldable pub sequencer : List Register
sequencer =
    eight "SR0" 0x00
    ∷ eight "SR1" 0x01
    ∷ eight "SR2" 0x02
    ∷ eight "SR3" 0x03
    ∷ eight "SR4" 0x04
    ∷ eight "SR7" 0x07
    ∷ eight "SR9" 0x09
    ∷ eight "SRA" 0x0A
    ∷ eight "SR0B" 0x0B
    ∷ eight "SR0C" 0x0C
    ∷ eight "SR0D" 0x0D
    ∷ eight "SR0E" 0x0E
    ∷ eight "SR14" 0x14
    ∷ eight "SR15" 0x15
    ∷ eight "SR1B" 0x1B
    ∷ eight "SR1C" 0x1C
    ∷ eight "SR1D" 0x1D
    ∷ eight "SR1E" 0x1E
    ∷ []

-- third line
unfoldable pub crtc : List Register
crtc =
    eight "CR0" 0x00
    ∷ eight "CR1" 0x01
    ∷ eight "CR2" 0x02
    ∷ eight "CR3" 0x03
    ∷ eight "CR4" 0x04
    ∷ eight "CR5" 0x05
    ∷ eight "CR6" 0x06
    ∷ eight "CR7" 0x07
    ∷ eight "CR8" 0x08
    ∷ eight "CR9" 0x09
    ∷ eight "CRA" 0x0A
    ∷ eight "CRB" 0x0B
    ∷ eight "CRC" 0x0C
    ∷ eight "CRD" 0x0D
    ∷ eight "CRE" 0x0E
    ∷ eight "CRF" 0x0F
    ∷ eight "CR10" 0x10
    ∷ eight "CR11" 0x11
    ∷ eight "CR12" 0x12
    ∷ eight "CR13" 0x13
    ∷ eight "CR14" 0x14
    ∷ eight "CR15" 0x15
    ∷ eight "CR16" 0x16
    ∷ eight "CR17" 0x17
    ∷ eight "CR18" 0x18
    ∷ eight "CR19" 0x19
    ∷ eight "CR1A" 0x1A
    ∷ eight "CR1B" 0x1B
    ∷ eight "CR1D" 0x1D
    ∷ eight "CR1E" 0x1E
    ∷ []

-- fourth line
unfoldable pub graphics : List Register
graphics =
    eight "GR0" 0x00
    ∷ eight "GR1" 0x01
    ∷ eight "GR2" 0x02
    ∷ eight "GR3" 0x03
    ∷ eight "GR4" 0x04
    ∷ eight "GR5" 0x05
    ∷ eight "GR6" 0x06
    ∷ eight "GR7" 0x07
    ∷ eight "GR8" 0x08
    ∷ []

-- fifth line
unfoldable pub attribute : List Register
attribute =
    eight "AR0" 0x00
    ∷ eight "AR1" 0x01
    ∷ eight "AR2" 0x02
    ∷ eight "AR3" 0x03
    ∷ eight "AR4" 0x04
    ∷ eight "AR5" 0x05
    ∷ eight "AR6" 0x06
    ∷ eight "AR7" 0x07
    ∷ eight "AR8" 0x08
    ∷ eight "AR9" 0x09
    ∷ eight "ARA" 0x0A
    ∷ eight "ARB" 0x0B
    ∷ eight "ARC" 0x0C
    ∷ eight "ARD" 0x0D
    ∷ eight "ARE" 0x0E
    ∷ eight "ARF" 0x0F
    ∷ eight "AR10" 0x10
    ∷ eight "AR11" 0x11
    ∷ eight "AR12" 0x12
    ∷ eight "AR13" 0x13
    ∷ eight "AR14" 0x14
    ∷ []

-- sixth line: the 15 pipeline registers. The index is the MMIO offset
unfoldable pub pipeline : List Register
pipeline =
    eight "B0" 0xB0
    ∷ eight "B8" 0xB8
    ∷ eight "BC" 0xBC
    ∷ sixteen "C0" 0xC0
    ∷ sixteen "CC" 0xCC
    ∷ sixteen "CE" 0xCE
    ∷ sixteen "D0" 0xD0
    ∷ sixteen "D2" 0xD2
    ∷ eight "D4" 0xD4
    ∷ eight "D5" 0xD5
    ∷ sixteen "E0" 0xE0
    ∷ sixteen "E2" 0xE2
    ∷ sixteen "E4" 0xE4
    ∷ sixteen "E6" 0xE6
    ∷ sixteen "E8" 0xE8
    ∷ []

-- 02, 6/13: the registers of source document 001 that it lists, by their MMIO offsets, which are their names here: the manual has two names for 10Ch
unfoldable pub v_port : List Register
v_port =
    sixteen "100" 0x100
    ∷ sixteen "102" 0x102
    ∷ sixteen "104" 0x104
    ∷ sixteen "106" 0x106
    ∷ sixteen "108" 0x108
    ∷ sixteen "10A" 0x10A
    ∷ sixteen "10C" 0x10C
    ∷ sixteen "10E" 0x10E
    ∷ []

-- how many there are; that the table has so many is a law (`registers-counted`)
abbrev pub register_count : ℕ
register_count = 108

-- every register, by its number
unfoldable pub registers : List Register
unfolding singles sequencer crtc graphics attribute pipeline v_port
registers = singles ++ sequencer ++ crtc ++ graphics ++ attribute ++ pipeline ++ v_port

-- the stored bits of each register on a chip, by its number: those that `groups` has under its name
unfoldable pub stored_table : Chip → List ℕ
unfolding registers groups rows_of stored_in
stored_table chip = map (λ (r : Register). stored_in chip (rows_of groups) r.name) registers

-- the stored bits of a register; none of a number that no register has
unfoldable pub stored_bits : Chip → ℕ → ℕ
unfolding stored_table
stored_bits chip number = get_or (stored_table chip) number 0
