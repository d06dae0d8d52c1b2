-- 02, 3/13, 'each register with both roads': the pairs of roads. That every register with two is here is the law `all-paired`, that both roads of a
-- pair lead to one place the law `pairs-meet`, how many there are the law `pairs-counted`.
-- Assumes nothing.
use Rattle.std.specs.Prelude.{ℕ, ◌*◌, List, [], ◌∷◌, ◌++◌, map}
use Rattle.file.specs.Registers.{Register as Stored, crtc}
use Rattle.places.specs.Places.{Index, any, sr, cr}

-- 01, 'Accesses and replies': the spaces
pub data Space : Type 0 where
  config ports mmio : Space

-- a road to a register: its space, the address of a read and that of a write, and the number that its index register has to hold, if it has one
pub record Road : Type 0 where
  pub space : Space
  pub reads : ℕ
  pub writes : ℕ
  pub index : Index

-- the road that drivers come from, by ports or config, and the one by MMIO
pub record Pair : Type 0 where
  pub from : Road
  pub to : Road

abbrev road : Space → ℕ → Index → Road
road space address index = record { space = space; reads = address; writes = address; index = index }

abbrev config_road : ℕ → Road
config_road address = road config address any

abbrev port_road : ℕ → Index → Road
port_road address index = road ports address index

-- 01, 'An MMIO access moves no index register', and needs none
abbrev mmio_road : ℕ → Road
mmio_road address = road mmio address any

-- 01, 'Places': '3C2h write and 3CCh read (MISC)'
abbrev misc_ports : Road
misc_ports = record { space = ports; reads = 0x3CC; writes = 0x3C2; index = any }

infix 70 ◌beside◌
abbrev ◌beside◌ : Road → Road → Pair
from beside to = record { from = from; to = to }

-- 01, 'Places': ''?' is B or D'
pub data Half : Type 0 where
  monochrome colour : Half

-- the other of the two
unfoldable pub opposite : Half → Half
opposite monochrome = colour
opposite colour = monochrome

-- '3?5h'
unfoldable pub crtc_data : Half → ℕ
crtc_data monochrome = 0x3B5
crtc_data colour = 0x3D5

-- 01, 'Places': '3C5h; 3C6h; 3C7h; 3C8h; 3C9h; 3?5h' beside 'CRn at 4n ..; MISC 80h, SR0E 84h, SR1E 88h, pixel mask A0h, 3C7h's pair A4h, 3C8h A8h, 3C9h ACh'; 'PCI00, PCI02, PCI04 at config
-- 00h, 02h, 04h and MMIO 300h, 302h, 304h'
unfoldable pub pairs : Half → List Pair
unfolding crtc crtc_data
pairs half =
    map (λ (r : Stored). port_road (crtc_data half) (cr r.index) beside mmio_road (4 * r.index)) crtc
    ++ misc_ports beside mmio_road 0x80
    ∷ port_road 0x3C5 (sr 0x0E) beside mmio_road 0x84
    ∷ port_road 0x3C5 (sr 0x1E) beside mmio_road 0x88
    ∷ port_road 0x3C6 any beside mmio_road 0xA0
    ∷ port_road 0x3C7 any beside mmio_road 0xA4
    ∷ port_road 0x3C8 any beside mmio_road 0xA8
    ∷ port_road 0x3C9 any beside mmio_road 0xAC
    ∷ config_road 0x00 beside mmio_road 0x300
    ∷ config_road 0x02 beside mmio_road 0x302
    ∷ config_road 0x04 beside mmio_road 0x304
    ∷ []
