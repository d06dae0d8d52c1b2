-- 02, 5/13: the bits that each register stores, by group and in the manual's page order. Chapters 3 and 4 have no headings for groups: they are cut
-- where the registers' names pass to another part of the chip.
-- The bits are those of 01, 'Stored bits', and of 02, 6/13; where a bit table of the manual reads otherwise is in docs/MANUAL.md.
-- Assumes nothing.
use Rattle.std.specs.Prelude.{ℕ, Bool, true, cond, ◌&&◌, List, [], ◌∷◌, ◌++◌}
use Prim.Native.String.{String}
use lib.Text.{eqt}
use Rattle.file.specs.declared.chip.Chip.{Chip}
use Rattle.file.specs.declared.chip.Chip.TheVariants.{Gd5462, Gd5464}
use Rattle.file.specs.Chips.{same_chip}

-- a register of a group: the page that it begins on, its name, the bits that it stores, and the chips that it is so on
pub record Row : Type 0 where
  pub page : ℕ
  pub name : String
  pub stored : ℕ
  pub is_on : Chip → Bool

abbrev on : ℕ → String → ℕ → Row
on page name stored = record { page = page; name = name; stored = stored; is_on = λ (chip : Chip). true }

-- 02, 6/13: the row of one chip alone
abbrev only : Chip → ℕ → String → ℕ → Row
only its page name stored = record { page = page; name = name; stored = stored; is_on = same_chip its }

-- registers that stand together in the manual: in which source document, chapter and sections, from which page to which, and those
-- whose bits the file stores (01, 'Stored bits'; 02, 6/13), in page order. A section without a row is of a register that the file doesn't hold, or that is only read or
-- derived, or of the palette.
-- Page 15 of chapter 3 is printed 3-15
pub record Group : Type 0 where
  pub document : String
  pub chapter : ℕ
  pub sections : String
  pub first_page : ℕ
  pub last_page : ℕ
  pub rows : List Row

-- chapter 3, 'VGA core registers': general and palette registers
unfoldable pub core_general : Group
core_general =
    record {
      document = "002";
      chapter = 3;
      sections = "3.1 to 3.9";
      first_page = 5;
      last_page = 14;
      rows =
          on 5 "MISC" 0xEF
          ∷ on 10 "pixel mask" 0xFF
          ∷ [];
    }

-- chapter 3, 'VGA core registers': the sequencer
unfoldable pub core_sequencer : Group
core_sequencer =
    record {
      document = "002";
      chapter = 3;
      sections = "3.10 to 3.15";
      first_page = 15;
      last_page = 21;
      rows =
          on 15 "SRX" 0x1F
          ∷ on 16 "SR0" 0x03
          ∷ on 17 "SR1" 0x3D
          ∷ on 18 "SR2" 0x0F
          ∷ on 19 "SR3" 0x3F
          ∷ on 21 "SR4" 0x0E
          ∷ [];
    }

-- chapter 3, 'VGA core registers': the CRTC
unfoldable pub core_crtc : Group
core_crtc =
    record {
      document = "002";
      chapter = 3;
      sections = "3.16 to 3.44";
      first_page = 22;
      last_page = 53;
      rows =
          on 22 "CRX" 0x3F
          ∷ on 25 "CR0" 0xFF
          ∷ on 26 "CR1" 0xFF
          ∷ on 27 "CR2" 0xFF
          ∷ on 28 "CR3" 0xFF
          ∷ on 29 "CR4" 0xFF
          ∷ on 30 "CR5" 0xFF
          ∷ on 31 "CR6" 0xFF
          ∷ on 32 "CR7" 0xFF
          ∷ on 33 "CR8" 0x7F
          ∷ on 34 "CR9" 0xFF
          ∷ on 35 "CRA" 0x3F
          ∷ on 36 "CRB" 0x7F
          ∷ on 37 "CRC" 0xFF
          ∷ on 38 "CRD" 0xFF
          ∷ on 39 "CRE" 0xFF
          ∷ on 40 "CRF" 0xFF
          ∷ on 41 "CR10" 0xFF
          ∷ on 42 "CR11" 0xFF
          ∷ on 43 "CR12" 0xFF
          ∷ on 44 "CR13" 0xFF
          ∷ on 45 "CR14" 0x7F
          ∷ on 46 "CR15" 0xFF
          ∷ on 47 "CR16" 0xFF
          ∷ on 48 "CR17" 0xEF
          ∷ on 50 "CR18" 0xFF
          ∷ [];
    }

-- chapter 3, 'VGA core registers': the graphics controller
unfoldable pub core_graphics : Group
core_graphics =
    record {
      document = "002";
      chapter = 3;
      sections = "3.45 to 3.54";
      first_page = 54;
      last_page = 64;
      rows =
          on 54 "GRX" 0x3F
          ∷ on 55 "GR0" 0x0F
          ∷ on 56 "GR1" 0x0F
          ∷ on 57 "GR2" 0x0F
          ∷ on 58 "GR3" 0x1F
          ∷ on 59 "GR4" 0x03
          ∷ on 60 "GR5" 0x7B
          ∷ on 62 "GR6" 0x0F
          ∷ on 63 "GR7" 0x0F
          ∷ on 64 "GR8" 0xFF
          ∷ [];
    }

-- chapter 3, 'VGA core registers': the attribute controller
unfoldable pub core_attribute : Group
core_attribute =
    record {
      document = "002";
      chapter = 3;
      sections = "3.55 to 3.61";
      first_page = 65;
      last_page = 72;
      rows =
          on 65 "ARX" 0x3F
          ∷ on 66 "AR0" 0x3F
          ∷ on 66 "AR1" 0x3F
          ∷ on 66 "AR2" 0x3F
          ∷ on 66 "AR3" 0x3F
          ∷ on 66 "AR4" 0x3F
          ∷ on 66 "AR5" 0x3F
          ∷ on 66 "AR6" 0x3F
          ∷ on 66 "AR7" 0x3F
          ∷ on 66 "AR8" 0x3F
          ∷ on 66 "AR9" 0x3F
          ∷ on 66 "ARA" 0x3F
          ∷ on 66 "ARB" 0x3F
          ∷ on 66 "ARC" 0x3F
          ∷ on 66 "ARD" 0x3F
          ∷ on 66 "ARE" 0x3F
          ∷ on 66 "ARF" 0x3F
          ∷ on 67 "AR10" 0xEF
          ∷ on 69 "AR11" 0xFF
          ∷ on 70 "AR12" 0x3F
          ∷ on 71 "AR13" 0x0F
          ∷ on 72 "AR14" 0x0F
          ∷ [];
    }

-- chapter 4, 'Extended I/O registers': PCI
unfoldable pub extended_pci : Group
extended_pci =
    record {
      document = "000";
      chapter = 4;
      sections = "4.1 to 4.17";
      first_page = 4;
      last_page = 23;
      rows =
          on 6 "PCI04" 0x0027
          ∷ [];
    }

-- chapter 4, 'Extended I/O registers': the sequencer
unfoldable pub extended_sequencer : Group
extended_sequencer =
    record {
      document = "000";
      chapter = 4;
      sections = "4.18 to 4.24";
      first_page = 24;
      last_page = 31;
      rows =
          on 25 "SR7" 0x01
          ∷ on 26 "SR9" 0xFF
          ∷ on 26 "SRA" 0xFF
          ∷ on 26 "SR14" 0xFF
          ∷ on 26 "SR15" 0xFF
          ∷ on 27 "SR0B" 0xFF
          ∷ on 27 "SR0C" 0xFF
          ∷ on 27 "SR0D" 0xFF
          ∷ on 27 "SR0E" 0xFF
          ∷ on 31 "SR1B" 0x7F
          ∷ on 31 "SR1C" 0x7F
          ∷ on 31 "SR1D" 0x7F
          ∷ on 31 "SR1E" 0x7F
          ∷ [];
    }

-- chapter 4, 'Extended I/O registers': the CRTC
unfoldable pub extended_crtc : Group
extended_crtc =
    record {
      document = "000";
      chapter = 4;
      sections = "4.28 to 4.32";
      first_page = 35;
      last_page = 40;
      rows =
          on 35 "CR19" 0xFF
          ∷ on 36 "CR1A" 0xFF
          ∷ on 37 "CR1B" 0xFF
          ∷ on 39 "CR1D" 0x18
          ∷ on 40 "CR1E" 0xFF
          ∷ [];
    }

-- chapter 5, 'Video pipeline registers'
unfoldable pub video_pipeline : Group
video_pipeline =
    record {
      document = "003";
      chapter = 5;
      sections = "5.1 to 5.24";
      first_page = 3;
      last_page = 30;
      rows =
          on 3 "B0" 0x88
          ∷ on 6 "B8" 0xFF
          ∷ on 7 "BC" 0xFF
          ∷ on 8 "C0" 0x3F3F
          ∷ on 13 "CC" 0x0FFF
          ∷ on 14 "CE" 0x0FFF
          ∷ on 15 "D0" 0x0FFF
          ∷ on 16 "D2" 0x0FFF
          ∷ on 17 "D4" 0xFF
          ∷ on 18 "D5" 0x3F
          ∷ on 21 "E0" 0x0FFF
          ∷ on 22 "E2" 0x0FFF
          ∷ on 23 "E4" 0x7F7F
          ∷ on 24 "E6" 0x1101
          ∷ on 25 "E8" 0x7FFC
          ∷ [];
    }

-- chapter 6, 'Enhanced V-Port registers', 02, 6/13. 'Offset 10Ch differs: on the 5464 it is Capture Y Start ..; on the 5462 it is V-Port Control'
unfoldable pub v_port_group : Group
unfolding same_chip
v_port_group =
    record {
      document = "001";
      chapter = 6;
      sections = "6.1 to 6.9";
      first_page = 3;
      last_page = 13;
      rows =
          on 3 "100" 0x1F00
          ∷ on 4 "102" 0x1F00
          ∷ on 5 "104" 0x3FFF
          ∷ on 6 "106" 0x3FFF
          ∷ on 7 "108" 0x03FF
          ∷ on 8 "10A" 0x03FF
          ∷ only Gd5464 9 "10C" 0x01FF
          ∷ on 10 "10E" 0x01FF
          ∷ only Gd5462 11 "10C" 0xF3DF
          ∷ [];
    }

-- the groups in page order: source documents 002, 000, 003, 001. Sections 4.25 to 4.27 (GR9 to GRB) and 4.33 to 4.37 (CSL to TLUT_LOAD), and 6.10 to 6.12 (V-Port Mode to
-- Test Output) are in none: the file stores nothing of them
unfoldable pub groups : List Group
unfolding core_general core_sequencer core_crtc core_graphics core_attribute extended_pci extended_sequencer extended_crtc video_pipeline v_port_group
groups =
    core_general ∷ core_sequencer ∷ core_crtc ∷ core_graphics ∷ core_attribute ∷ extended_pci ∷ extended_sequencer ∷ extended_crtc ∷ video_pipeline ∷ v_port_group ∷ []

-- every row of these groups, one group behind the other
unfoldable pub rows_of : List Group → List Row
rows_of [] = []
rows_of (group ∷ more) = group.rows ++ rows_of more

-- the one lookup: the bits of the row of this name on this chip; none of a name that no row has
unfoldable pub stored_in : Chip → List Row → String → ℕ
stored_in chip [] name = 0
stored_in chip (row ∷ rows) name = cond (eqt row.name name && row.is_on chip) row.stored (stored_in chip rows name)
