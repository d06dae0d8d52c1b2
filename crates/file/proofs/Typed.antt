-- What it tells of a value that it is a Rattle `File`: how many registers and entries there are. `Is` is what a proof has of a parameter, as `c.well_formed.0`.
-- Assumes nothing.
use Prim.Native.Nat.{◌<◌}
use mathlib.Core.Path.{◌≡◌}
use mathlib.Core.List.{List}
use lib.ListN.{length}
use mir.Val.{Val}
use denote.Laws.{Is}
use denote.Struct.Declared.{row}
use Rattle.file.specs.declared.registers.File.{File}
use Rattle.file.specs.File.{palette_count, bank_count}
use Rattle.file.specs.Registers.{register_count}
use Rattle.file.specs.contracts.registers.File.{the_type}

pub registers-count : (f : File) (vs : List Val) → Is (row the_type) f vs → length f.registers ≡ register_count
registers-count f vs g = g.1.1.0.1.0.1

pub palette-count : (f : File) (vs : List Val) → Is (row the_type) f vs → length f.palette ≡ palette_count
palette-count f vs g = g.1.1.1.0.1.0.1

pub bank-count : (f : File) (vs : List Val) → Is (row the_type) f vs → length f.bank ≡ bank_count
bank-count f vs g = g.1.1.1.1.0.1.0.1

-- and the pointer's address is a byte
pub address-byte : (f : File) (vs : List Val) → Is (row the_type) f vs → f.state.pointer.address < 256
address-byte f vs g = g.1.1.1.1.1.0.1.1.1.0.1.1.0.1
