-- 01, 'Places', and 02, 6/13: the roads by which a plan writes each register.
-- Assumes nothing.
use Rattle.std.specs.Prelude.{ℕ, suc, ◌*◌, cond, List, [], ◌∷◌, ◌++◌, eqb}
use Rattle.bits.specs.Store.{bit}
use Rattle.places.specs.Lookup.{is_one_of}
use Rattle.file.specs.Names.{MISC, SRX, CRX, GRX, ARX, pixel_mask, PCI04, SR0, CR0, CR11, CR1A, GR0, AR0, B0, buffer_0_x}
use Rattle.file.specs.Registers.{Register as Stored, sequencer, crtc, graphics, attribute, pipeline, v_port}
use Rattle.places.specs.Places.{Index, any, sr, gr, index_due, data_due}

-- a road: the register's number; the kind, width and address of the record that writes it; the index that has to be selected first
pub record Road : Type 0 where
  pub register : ℕ
  pub kind : ℕ
  pub width : ℕ
  pub address : ℕ
  pub index : Index

abbrev road : ℕ → ℕ → ℕ → ℕ → Index → Road
road register kind width address index =
    record { register = register; kind = kind; width = width; address = address; index = index }

-- 'config 04h', which is open whatever PCI04 holds
abbrev pub config_road : ℕ → ℕ → Road
config_road number address = road number 1 2 address any

-- 'all ports: 1'
abbrev pub port_road : ℕ → ℕ → Index → Road
port_road number address index = road number 3 1 address index

-- 'An MMIO access moves no index register.'
abbrev pub mmio_road : ℕ → ℕ → ℕ → Road
mmio_road number width address = road number 5 width address any

-- a road for each register of a group, whose first has the given number
unfoldable pub each_road : (Stored → ℕ → Road) → ℕ → List Stored → List Road
each_road rule number [] = []
each_road rule number (r ∷ rs) = rule r number ∷ each_road rule (suc number) rs

-- the roads of a list, but those to some registers
unfoldable pub but : List ℕ → List Road → List Road
but numbers [] = []
but numbers (r ∷ rs) = cond (is_one_of numbers r.register) [] (r ∷ []) ++ but numbers rs

-- what has to stand open while a plan runs: written first
abbrev pub to_pci04 : Road
to_pci04 = config_road PCI04 0x04

abbrev pub to_cr11 : Road
to_cr11 = mmio_road CR11 1 0x44

abbrev pub to_b0 : Road
to_b0 = mmio_road B0 1 0xB0

-- 02, 7/13, static sync: CR1A is under no lock
abbrev pub to_cr1_a : Road
to_cr1_a = mmio_road CR1A 1 0x68

abbrev pub to_misc : Road
to_misc = mmio_road MISC 1 0x80

-- four of them once more at the end, PCI04 last; 02, 7/13: plans 'put CR1A back at the end'
unfoldable pub closing_roads : List Road
closing_roads = to_b0 ∷ to_cr1_a ∷ to_cr11 ∷ to_pci04 ∷ []

-- 'pixel mask A0h', 'CRn at 4n', 'the 15 pipeline registers stored below, at their offsets', and 02, 6/13, 'a plan sets these registers
-- too', the V-Port's at theirs; '3C4h/3C5h', '3CEh/3CFh', '3C0h .. index or data by the toggle'
unfoldable pub register_roads : List Road
unfolding each_road but is_one_of crtc pipeline v_port sequencer graphics attribute
register_roads =
    but (CR11 ∷ CR1A ∷ B0 ∷ [])
    (mmio_road pixel_mask 1 0xA0
    ∷ each_road (λ (r : Stored) (n : ℕ). mmio_road n 1 (4 * r.index)) CR0 crtc
    ++ each_road (λ (r : Stored) (n : ℕ). mmio_road n r.width r.index) B0 pipeline
    ++ each_road (λ (r : Stored) (n : ℕ). mmio_road n r.width r.index) buffer_0_x v_port
    ++ each_road (λ (r : Stored) (n : ℕ). port_road n 0x3C5 (sr r.index)) SR0 sequencer
    ++ each_road (λ (r : Stored) (n : ℕ). port_road n 0x3CF (gr r.index)) GR0 graphics
    ++ each_road (λ (r : Stored) (n : ℕ). port_road n 0x3C0 (data_due r.index)) AR0 attribute)

-- the index registers' own
abbrev pub to_srx : Road
to_srx = port_road SRX 0x3C4 any

abbrev pub to_grx : Road
to_grx = port_road GRX 0x3CE any

abbrev pub to_arx : Road
to_arx = port_road ARX 0x3C0 index_due

-- '? is B or D': by MISC[0] of the wanted file, which MISC holds by then
unfoldable pub by_half : ℕ → ℕ → ℕ → ℕ
by_half misc monochrome colour = cond (eqb (bit 0 misc) 1) colour monochrome

abbrev pub to_crx : ℕ → Road
to_crx misc = port_road CRX (by_half misc 0x3B4 0x3D4) any

unfoldable pub index_roads : ℕ → List Road
index_roads misc = to_srx ∷ to_grx ∷ to_crx misc ∷ []
