-- That a road leads to its register, as a test of the road and of what the file shows; computed over the list of roads at once.
-- Assumes nothing.
use Prim.Native.Nat.{ℕ, ◌<◌, ◌^◌, ◌%◌}
use mathlib.Core.Path.{◌≡◌}
use mathlib.Core.Bool.{Bool, true, false, cond, not, ◌&&◌, ◌||◌}
use mathlib.Core.List.{List}
use mathlib.Core.Option.{Option, none, some}
use lib.Dec.{T, eqb, leb, ltb}
use Rattle.bits.specs.Store.{bits, bit}
use Rattle.bits.proofs.Bit.{by_bit}
use Rattle.file.specs.declared.chip.Chip.{Chip}
use Rattle.file.specs.File.{register}
use Rattle.file.specs.Names.{CRX}
use Rattle.file.specs.Registers.{register_count, stored_bits, stored_table}
use Rattle.access.specs.Checks.{is_port, of_other_half}
use Rattle.places.specs.Lookup.{attribute_index, selects, matches, first, row_at, is_one_of}
use Rattle.places.specs.Places.{Index, any, sr, cr, gr, ar, index_due, data_due, Row, places}
use Rattle.places.specs.Profile.{profile, stores_into, flips}
use Rattle.roads.specs.Roads.{Road, port_road, each_road, but, to_pci04, to_cr11, to_b0, to_cr1_a, to_misc, to_srx, to_grx, to_arx, register_roads}
use Rattle.roads.specs.RoadRecords.{write}
use Rattle.roads.specs.RegisterStage.{index_flips, on_both, every_road}
use Rattle.roads.proofs.LookupBySelectors.{Selectors, bare_file}

-- what a file shows with an index selected
unfoldable pub with_index : Index → Selectors → Selectors
with_index any v = v
with_index (sr n) v = record { misc = v.misc; srx = n; crx = v.crx; grx = v.grx; arx = v.arx; toggle = v.toggle; chip = v.chip }
with_index (cr n) v = v
with_index (gr n) v = record { misc = v.misc; srx = v.srx; crx = v.crx; grx = n; arx = v.arx; toggle = v.toggle; chip = v.chip }
with_index (ar n) v = v
with_index index_due v = record { misc = v.misc; srx = v.srx; crx = v.crx; grx = v.grx; arx = v.arx; toggle = false; chip = v.chip }
with_index (data_due n) v = record { misc = v.misc; srx = v.srx; crx = v.crx; grx = v.grx; arx = n; toggle = true; chip = v.chip }

unfoldable pub same : Bool → Bool → Bool
same true b = b
same false b = not b

-- the row is of the road's width, and its place stores into the road's register
unfoldable pub finds : Road → Option Row → Bool
finds road none = false
finds road (some row) =
    eqb row.width road.width
    && eqb (stores_into (profile row.place).writing) road.register
    && same (flips (profile row.place).writing) (index_flips road.index)

-- the road's record is a write in good form that fits the register and MISC[0], and finds such a row
unfoldable pub leads : Selectors → Road → Bool
leads v road =
    eqb (road.kind % 2) 1
    && leb road.kind 5
    && (eqb road.width 1 || eqb road.width 2)
    && on_both (λ (chip : Chip). ltb (stored_bits chip road.register) (256 ^ road.width))
    && ltb road.register register_count
    && not (of_other_half (bare_file v) (write road 0))
    && finds road (row_at (bare_file v) road.kind road.address)

-- in a file that shows this, each road leads to its register with its index selected
unfoldable pub leading : Selectors → List Road → Bool
leading v roads = every_road (λ (road : Road). leads (with_index road.index v) road) roads

-- so does every register's, whatever a file shows
pub registers-lead : (v : Selectors) → T (leading v register_roads)
unfolding leading every_road leads with_index finds same index_flips flips profile stores_into on_both stored_bits stored_table of_other_half is_port is_one_of row_at first matches selects attribute_index bits register bare_file places register_roads
registers-lead v = tt

-- and so do the roads that the stages take one by one
pub record SingleRoads (v : Selectors) : Type 0 where
  pub pci04 : T (leads v to_pci04)
  pub cr11 : T (leads v to_cr11)
  pub b0 : T (leads v to_b0)
  pub cr1a : T (leads v to_cr1_a)
  pub misc : T (leads v to_misc)
  pub srx : T (leads v to_srx)
  pub grx : T (leads v to_grx)
  pub arx : T (leads (with_index index_due v) to_arx)

pub single-roads-lead : (v : Selectors) → SingleRoads v
unfolding every_road leads with_index finds same index_flips flips profile stores_into on_both stored_bits stored_table of_other_half is_port is_one_of row_at first matches selects attribute_index bits register bare_file places
single-roads-lead v = record { pci04 = tt; cr11 = tt; b0 = tt; cr1a = tt; misc = tt; srx = tt; grx = tt; arx = tt }

-- CRX has its port by MISC[0]
pub crx-leads : (v : Selectors) (x : ℕ) → x < 2 → bit 0 v.misc ≡ x → T (leads v (port_road CRX (cond (eqb x 1) 0x3D4 0x3B4) any))
unfolding leads with_index finds same index_flips flips profile stores_into on_both stored_bits stored_table of_other_half is_port is_one_of row_at first matches selects attribute_index bits register bare_file places
crx-leads v =
    by_bit (λ (x : ℕ). bit 0 v.misc ≡ x → T (leads v (port_road CRX (cond (eqb x 1) 0x3D4 0x3B4) any))) (λ e. rw e tt) (λ e. rw e tt)
