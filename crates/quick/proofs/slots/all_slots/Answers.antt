-- `all_slots` meets its contract: every slot of both chips, computed. Assumes nothing.
use Rattle.file.specs.File.{seen}
use Rattle.file.specs.State.{initial, toggling}
use Rattle.places.specs.Lookup.{selects, first, place_of_row, other_way, some_row, held_in, is_wider, inside_in}
use Rattle.places.specs.Places.{places}
use Rattle.places.specs.EngineCells.{plain_cell, indexed_cell, of_kind, of_address, rows_in, rows_at, cell_of, held_cell, nothing_at, cell_at, chosen, cells_from, behind_port, tabled, table_cell, cell_table, port_cell, config_cell, csl_cell, mmio_cell, cell_in, cell_width}
use Rattle.quick.specs.Classes.{class_of}
use Rattle.quick.specs.Slots.{limit_fits, slot_true, slots_true}
use Rattle.quick.proofs.slots.all_slots.Goals as goal

pub returns : goal.returns
unfolding places first selects place_of_row seen initial toggling of_kind of_address rows_in rows_at plain_cell indexed_cell cell_of held_cell nothing_at cell_at other_way some_row held_in is_wider inside_in chosen cells_from behind_port tabled table_cell cell_table port_cell config_cell csl_cell mmio_cell cell_in cell_width class_of limit_fits slot_true slots_true
returns c = (tt, tt)
