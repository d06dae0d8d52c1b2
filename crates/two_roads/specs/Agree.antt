-- 02, 3/13, 'the same access by either road gives the same code and value and the same file': the access by a road, when a road is ready, and what agrees.
-- Assumes nothing.
use Rattle.std.specs.Prelude.{ℕ, ◌≡◌, Bool, true, cond, ◌&&◌, T, eqb}
use Rattle.bits.specs.Store.{bit}
use Rattle.file.specs.declared.registers.File.{File}
use Rattle.file.specs.File.{register}
use Rattle.file.specs.Names.{MISC, PCI04}
use Rattle.places.specs.Lookup.{selects}
use Rattle.access.specs.declared.record.Record.{Record}
use Rattle.access.specs.Access.{access}
use Rattle.two_roads.specs.Pairs.{Space, config, ports, mmio, Road, Pair, Half, monochrome, colour}

-- 01, 'byte 0 kind (0 config read, 1 config write, 2 port read, 3 port write, 4 MMIO read, 5 MMIO write)'
unfoldable pub kind_of : Space → Bool → ℕ
kind_of config write = cond write 1 0
kind_of ports write = cond write 3 2
kind_of mmio write = cond write 5 4

unfoldable pub address_of : Road → Bool → ℕ
address_of road write = cond write road.writes road.reads

-- the access of a direction, a width and a value, whatever they are, by a road
abbrev pub record_by : Road → Bool → ℕ → ℕ → Record
record_by road write width value =
    record { kind = kind_of road.space write; width = width; address = address_of road write; value = value }

-- 'both spaces enabled': those of the two roads; config is never off, by 01's code 3
unfoldable pub space_on : File → Space → Bool
space_on f config = true
space_on f ports = eqb (bit 0 (register f PCI04)) 1
space_on f mmio = eqb (bit 1 (register f PCI04)) 1

-- 'MISC[0] fitting the 3?5h address', by 01's code 5; every file fits one of the two
unfoldable pub half_bit : Half → ℕ
half_bit monochrome = 0
half_bit colour = 1

unfoldable pub half_fits : File → Half → Bool
half_fits f half = eqb (bit 0 (register f MISC)) (half_bit half)

-- 'both spaces enabled, the port road's index register already at that register, and MISC[0] fitting'. Nothing else is asked of the file: it may be
-- locked, powered down or unsound
pub record Ready (f : File) (half : Half) (p : Pair) : Type 0 where
  pub on : T (space_on f p.from.space && space_on f p.to.space)
  pub selected : T (selects f p.from.index)
  pub fitting : T (half_fits f half)

-- 'the same code and value and the same file'
pub record Agree (f : File) (r s : Record) : Type 0 where
  pub code : (access f r).reply.code ≡ (access f s).reply.code
  pub value : (access f r).reply.value ≡ (access f s).reply.value
  pub file : (access f r).file ≡ (access f s).file
