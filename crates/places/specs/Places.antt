-- 01, 'Places', and 02, 6/13 and 10/13, as one flat list, for each chip: a row for each kind of record, address and index, with its width and what stands
-- there.
-- Assumes nothing.
use Rattle.std.specs.Prelude.{ℕ, suc, ◌+◌, ◌*◌, cond, List, [], ◌∷◌, ◌++◌, eqb}
use Rattle.places.specs.declared.place.Place.{Place}
use Rattle.places.specs.declared.place.Place.TheVariants.{Register, Attribute, Fixed, DeviceId, ToggleState, AttributeIndex, PaletteState, VPortState, ReadAddress, WriteAddress, PixelData, ToggleReset, Unnamed, UnnamedAttribute, CurrentLine, Passing}
use Rattle.file.specs.declared.chip.Chip.{Chip}
use Rattle.file.specs.declared.chip.Chip.TheVariants.{Gd5462, Gd5464}
use Rattle.file.specs.Registers.{Register as Stored, sequencer, crtc, graphics, attribute, pipeline, v_port}
use Rattle.file.specs.Names.{MISC, SRX, CRX, GRX, ARX, pixel_mask, PCI04, SR0, SR0E, SR1E, CR0, GR0, AR0, B0, buffer_0_x, capture_ystart}

-- which index a row is for: whatever there is; one of the index registers' numbers, ARX counting by ARX[4:0]; and at a 3C0h write the toggle's
-- two states, index due, or data due with ARX[4:0]
pub data Index : Type 0 where
  any : Index
  sr cr gr ar : ℕ → Index
  index_due : Index
  data_due : ℕ → Index

-- a row. The kind is a record's: 0 config read, 1 config write, 2 port read, 3 port write, 4 MMIO read, 5 MMIO write, 6 lines pass (02, 10/13)
pub record Row : Type 0 where
  pub kind : ℕ
  pub address : ℕ
  pub index : Index
  pub width : ℕ
  pub place : Place

abbrev row : ℕ → ℕ → Index → ℕ → Place → Row
row kind address index width place = record { kind = kind; address = address; index = index; width = width; place = place }

-- 'Where no direction is named both are held'; all ports have width 1
abbrev reads : ℕ → Index → Place → List Row
reads address index place = row 2 address index 1 place ∷ []

abbrev writes : ℕ → Index → Place → List Row
writes address index place = row 3 address index 1 place ∷ []

abbrev port : ℕ → Index → Place → List Row
port address index place = reads address index place ++ writes address index place

abbrev mmio : ℕ → ℕ → Place → List Row
mmio address width place = row 4 address any width place ∷ row 5 address any width place ∷ []

abbrev config : ℕ → Place → List Row
config address place = row 0 address any 2 place ∷ row 1 address any 2 place ∷ []

-- 'SR6 reads 12', 'PCI00 reads 1013'; what PCI02 reads goes by the chip (02, 6/13)
abbrev pub sr6 : ℕ
sr6 = 0x12

abbrev pub pci00 : ℕ
pci00 = 0x1013

-- rows for each register of a group, whose first has the given number
unfoldable pub each : (Stored → ℕ → List Row) → ℕ → List Stored → List Row
each rows number [] = []
each rows number (r ∷ rs) = rows r number ++ each rows (suc number) rs

-- '3C0h read (ARX) and write (index or data by the toggle); 3C1h read (attribute data)'
unfoldable pub attribute_ports : List Row
unfolding each attribute
attribute_ports =
    reads 0x3C0 any (Register ARX)
    ++ writes 0x3C0 index_due (Attribute ARX)
    ++ each (λ (r : Stored) (n : ℕ). writes 0x3C0 (data_due r.index) (Attribute n)) AR0 attribute
    ++ writes 0x3C0 any UnnamedAttribute
    ++ each (λ (r : Stored) (n : ℕ). reads 0x3C1 (ar r.index) (Register n)) AR0 attribute
    ++ reads 0x3C1 any Unnamed

-- '3C2h write and 3CCh read (MISC); 3C4h/3C5h; 3C6h; 3C7h; 3C8h; 3C9h; 3CEh/3CFh'
unfoldable pub general_ports : List Row
unfolding each sequencer graphics
general_ports =
    writes 0x3C2 any (Register MISC)
    ++ reads 0x3CC any (Register MISC)
    ++ port 0x3C4 any (Register SRX)
    ++ each (λ (r : Stored) (n : ℕ). port 0x3C5 (sr r.index) (Register n)) SR0 sequencer
    ++ port 0x3C5 (sr 0x06) (Fixed sr6)
    ++ port 0x3C5 any Unnamed
    ++ port 0x3C6 any (Register pixel_mask)
    ++ port 0x3C7 any ReadAddress
    ++ port 0x3C8 any WriteAddress
    ++ port 0x3C9 any PixelData
    ++ port 0x3CE any (Register GRX)
    ++ each (λ (r : Stored) (n : ℕ). port 0x3CF (gr r.index) (Register n)) GR0 graphics
    ++ port 0x3CF any Unnamed

-- '3?4h/3?5h; 3?Ah read (.. sets the toggle to index)', from 3?0h on; what 3?Ah gives is 02, 10/13's
unfoldable pub crtc_ports : ℕ → List Row
unfolding each crtc
crtc_ports base =
    port (base + 4) any (Register CRX)
    ++ each (λ (r : Stored) (n : ℕ). port (base + 5) (cr r.index) (Register n)) CR0 crtc
    ++ port (base + 5) (cr 0x24) ToggleState
    ++ port (base + 5) (cr 0x26) AttributeIndex
    ++ port (base + 5) any Unnamed
    ++ reads (base + 0xA) any ToggleReset

-- 02, 1/13: B0 shows the last pixel data access beside its stored bits
unfoldable pub pipeline_place : ℕ → Place
pipeline_place n = cond (eqb n B0) PaletteState (Register n)

-- 'MMIO: CRn at 4n ..; MISC 80h, SR0E 84h, SR1E 88h, pixel mask A0h, 3C7h's pair A4h, 3C8h A8h, 3C9h ACh, and the 15 pipeline registers'
unfoldable pub mmio_places : List Row
unfolding each crtc pipeline pipeline_place
mmio_places =
    each (λ (r : Stored) (n : ℕ). mmio (4 * r.index) 1 (Register n)) CR0 crtc
    ++ mmio 0x80 1 (Register MISC)
    ++ mmio 0x84 1 (Register SR0E)
    ++ mmio 0x88 1 (Register SR1E)
    ++ mmio 0xA0 1 (Register pixel_mask)
    ++ mmio 0xA4 1 ReadAddress
    ++ mmio 0xA8 1 WriteAddress
    ++ mmio 0xAC 1 PixelData
    ++ each (λ (r : Stored) (n : ℕ). mmio r.index r.width (pipeline_place n)) B0 pipeline

-- 02, 6/13: of 10Ch, 'bits 11 and 10 read 1' on the 5462
unfoldable pub v_port_place : ℕ → Place
v_port_place n = cond (eqb n capture_ystart) VPortState (Register n)

-- 02, 6/13: the registers of source document 001 that it lists, at their offsets
unfoldable pub v_port_places : List Row
unfolding each v_port v_port_place
v_port_places = each (λ (r : Stored) (n : ℕ). mmio r.index r.width (v_port_place n)) buffer_0_x v_port

-- 'PCI00, PCI02, PCI04 at config 00h, 02h, 04h and MMIO 300h, 302h, 304h, width 2'
unfoldable pub pci_places : List Row
pci_places =
    config 0x00 (Fixed pci00)
    ++ config 0x02 DeviceId
    ++ config 0x04 (Register PCI04)
    ++ mmio 0x300 2 (Fixed pci00)
    ++ mmio 0x302 2 DeviceId
    ++ mmio 0x304 2 (Register PCI04)

-- 02, 10/13: 'kind 6: width 2, address 0'. It stands in no space
unfoldable pub passing_places : List Row
passing_places = row 6 0 any 2 Passing ∷ []

-- the places of both chips
unfoldable pub shared_places : List Row
unfolding attribute_ports general_ports crtc_ports mmio_places v_port_places pci_places passing_places
shared_places =
    attribute_ports ++ general_ports ++ crtc_ports 0x3B0 ++ crtc_ports 0x3D0 ++ mmio_places ++ v_port_places ++ pci_places ++ passing_places

-- those of one chip alone; 02, 10/13: 'On the 5464 a 16-bit read of MMIO 140h gives the line, CSL; a write gets 16'
unfoldable pub own_places : Chip → List Row
own_places Gd5462 = []
own_places Gd5464 = row 4 0x140 any 2 CurrentLine ∷ []

-- every place of a chip. An access's is the first row that fits
unfoldable pub places : Chip → List Row
unfolding shared_places own_places
places chip = shared_places ++ own_places chip
