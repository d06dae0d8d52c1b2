-- 01, 'A plan is made from the wanted file alone': its records, stage by stage.
-- Assumes nothing.
use Rattle.std.specs.Prelude.{ℕ, Bool, cond, List, [], ◌∷◌, ◌++◌, get_or}
use Rattle.file.specs.declared.palette.Colour.{Colour}
use Rattle.file.specs.declared.palette.Pointer.{Pointer}
use Rattle.file.specs.declared.registers.File.{File}
use Rattle.file.specs.Names.{MISC, ARX}
use Rattle.file.specs.Palette.{by_colour, marked_read, marked_colour}
use Rattle.access.specs.declared.record.Record.{Record}
use Rattle.roads.specs.Roads.{to_pci04, to_cr11, to_b0, to_cr1_a, to_misc, to_arx, by_half, register_roads, index_roads, closing_roads}
use Rattle.roads.specs.RoadRecords.{write, along}

-- a word to config space, a port's byte, a byte to and from MMIO
abbrev pub config_write : ℕ → ℕ → Record
config_write address value = record { kind = 1; width = 2; address = address; value = value }

abbrev pub port_read : ℕ → Record
port_read address = record { kind = 2; width = 1; address = address; value = 0 }

abbrev pub port_write : ℕ → ℕ → Record
port_write address value = record { kind = 3; width = 1; address = address; value = value }

abbrev pub mmio_write : ℕ → ℕ → Record
mmio_write address value = record { kind = 5; width = 1; address = address; value = value }

abbrev pub mmio_read : ℕ → Record
mmio_read address = record { kind = 4; width = 1; address = address; value = 0 }

-- '3?Ah read (.. sets the toggle to index)', by MISC; what it gives is not looked at (02, 10/13)
abbrev pub to_index : ℕ → Record
to_index misc = port_read (by_half misc 0x3BA 0x3DA)

-- from data to a wanted state: a 3?Ah read, or a 3C0h read, which moves nothing
abbrev pub toggle_read : ℕ → Bool → Record
toggle_read misc toggle = cond toggle (port_read 0x3C0) (to_index misc)

-- '3C7h's pair A4h, 3C8h A8h'
abbrev pub pointer_write : Pointer → Record
pointer_write p = mmio_write (cond p.reading 0xA4 0xA8) p.address

-- what the opened registers hold while a plan runs: PCI04[1:0]=3; CR11[7]=0; B0[7]=0, and B0[3] chooses the palette or the bank; 02, 7/13, 'they must
-- open the palette whatever the start holds': CR1A[3:2]=0
unfoldable pub open_spaces : ℕ
open_spaces = 0x0003

unfoldable pub open_lock : ℕ
open_lock = 0x00

unfoldable pub open_palette : ℕ
open_palette = 0x00

unfoldable pub open_bank : ℕ
open_bank = 0x08

unfoldable pub open_sync : ℕ
open_sync = 0x00

-- both spaces on, CR0 to CR7 unlocked, MISC as wanted, the palette up and its 256 entries chosen, static sync off, the toggle at index
unfoldable pub opening : List ℕ → List Record
opening wanted =
    write to_pci04 open_spaces
    ∷ write to_cr11 open_lock
    ∷ write to_misc (get_or wanted MISC 0)
    ∷ write to_b0 open_palette
    ∷ write to_cr1_a open_sync
    ∷ to_index (get_or wanted MISC 0)
    ∷ []

-- 01, 'The palette pointer': three 3C9h writes for each entry
unfoldable pub pixel : Colour → List Record
pixel c = mmio_write 0xAC c.red ∷ mmio_write 0xAC c.green ∷ mmio_write 0xAC c.blue ∷ []

unfoldable pub pixels : List Colour → List Record
pixels [] = []
pixels (c ∷ cs) = pixel c ++ pixels cs

-- the entries from one on: '3C8h A8h, 3C9h ACh'
unfoldable pub entries : ℕ → List Colour → List Record
entries first cs = mmio_write 0xA8 first ∷ pixels cs

-- the palette, and with B0[3]=1 the bank
unfoldable pub colours : List Colour → List Colour → List Record
colours palette bank = entries 0 palette ++ write to_b0 open_bank ∷ entries 0 bank

-- 02, 1/13, 'the last 3C9h access, direction and colour': one access in the wanted direction; a write's byte is 0
abbrev pub pixel_step : Bool → Record
pixel_step reading = cond reading (mmio_read 0xAC) (mmio_write 0xAC 0)

-- 02, 1/13, as settled: from before red up to and with the colour wanted; the entries leave write, blue, which needs none
unfoldable pub pixel_steps : Bool → ℕ → List Record
pixel_steps reading colour =
    by_colour colour (pixel_step reading ∷ []) (pixel_step reading ∷ pixel_step reading ∷ [])
    (cond reading (mmio_read 0xAC ∷ mmio_read 0xAC ∷ mmio_read 0xAC ∷ []) [])

-- to the marks that are wanted
unfoldable pub marking : ℕ → List Record
unfolding pixel_steps
marking m = pixel_steps (marked_read m) (marked_colour m)

-- SRX, GRX, CRX and ARX, which leaves the toggle at data; then the toggle
unfoldable pub indices : List ℕ → Bool → List Record
indices wanted toggle =
    along wanted (index_roads (get_or wanted MISC 0)) ++ write to_arx (get_or wanted ARX 0) ∷ toggle_read (get_or wanted MISC 0) toggle ∷ []

-- the pointer, whose address write clears what the marking held; then what was open, PCI04 last
unfoldable pub closing : List ℕ → Pointer → List Record
closing wanted pointer = pointer_write pointer ∷ along wanted closing_roads

-- 'A plan is made from the wanted file alone'; how many records it has is `plan-count`
unfoldable pub plan_records : File → List Record
plan_records w =
    opening w.registers
    ++ colours w.palette w.bank
    ++ marking w.state.marks
    ++ along w.registers register_roads
    ++ indices w.registers w.state.toggle
    ++ closing w.registers w.state.pointer
