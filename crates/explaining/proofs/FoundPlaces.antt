-- The place that a sound file shows at a kind and an address, by the engine's cells. Assumes nothing.
use Prim.Native.Nat.{ℕ, zero, suc, ◌<◌}
use mathlib.Core.Bool.{true, false, true≢false}
use mathlib.Core.List.{List}
use Rattle.std.specs.Prelude.{None, Some}
use mathlib.Core.Path.{◌≡◌, refl, sym, ap, ◌∙◌}
use native.Mathlib.Omega.{arith}
use lib.Dec.{T}
use Rattle.bits.specs.Store.{bits}
use Rattle.file.specs.declared.registers.File.{File}
use Rattle.file.specs.File.{register, seen}
use Rattle.file.specs.Registers.{stored_bits}
use Rattle.file.specs.Sound.{sound}
use Rattle.file.proofs.Soundness.{at_most, registers-sound}
use Rattle.places.specs.EngineCells.{attribute_place, cell_at, cell_in, cell_place, cell_table, held_cell, indexed_places, is_nothing, plain_place}
use Rattle.places.specs.Lookup.{attribute_index, place_at, place_of_row, row_at}
use Rattle.places.proofs.CellsOfRows.{Outcome, nothing, held, outcome, spoken}
use Rattle.places.proofs.IndexedPorts.{decider, count, Indexed, cell-names}
use Rattle.places.proofs.NotHeld.{something-held, cell-held, cell-spoken}
use Rattle.places.proofs.TableOfCells.{cell-true}
use Rattle.explaining.specs.Words.{found_at}

-- the index registers of a sound file
indices : (f : File) → T (sound f) → Indexed f
unfolding decider count register attribute_index bits stored_bits
indices f s zero h = omega (arith, at_most f.state.chip f.registers 1 (registers-sound f s))
indices f s (suc zero) h = omega (arith, at_most f.state.chip f.registers 2 (registers-sound f s))
indices f s (suc (suc zero)) h = omega (arith, at_most f.state.chip f.registers 3 (registers-sound f s))
indices f s (suc (suc (suc zero))) h = omega arith
indices f s (suc (suc (suc (suc zero)))) h = omega arith
indices f s (suc (suc (suc (suc (suc c))))) h = absurd (omega arith)

module _ (f : File) (s : T (sound f)) (kind address : ℕ) (low : kind < 6) where
  -- the cell that the engine finds
  abbrev Cell : ℕ
  Cell = cell_in (cell_table f.state.chip) kind address

  -- no row where the cell says that nothing is held
  pub found_none : is_nothing Cell ≡ true → None ≡ found_at (row_at f kind address)
  found_none e = by (outcome f kind address low)
    where
      by : Outcome f kind address → None ≡ found_at (row_at f kind address)
      by (nothing n c) = rw n
      by (held row n k a t) =
          absurd (true≢false (sym e ∙ ap is_nothing (cell-true f.state.chip kind low address ∙ cell-spoken f.state.chip kind address (spoken row _ t).something) ∙ (spoken row _ t).something))

  -- else the place that it names
  pub found_some : is_nothing Cell ≡ false → Some (cell_place (cell_table f.state.chip) f Cell) ≡ found_at (row_at f kind address)
  unfolding place_at place_of_row
  found_some e = by (outcome f kind address low)
    where
      there : is_nothing (cell_at f.state.chip kind address) ≡ false
      there = ap is_nothing (sym (cell-true f.state.chip kind low address)) ∙ e

      true-cell : Cell ≡ held_cell f.state.chip kind address
      true-cell = cell-true f.state.chip kind low address ∙ cell-held f.state.chip kind address there

      named : place_at f kind address ≡ cell_place (cell_table f.state.chip) f Cell
      named =
          cell-names f (indices f s) kind address low (something-held f.state.chip kind address there)
          ∙ ap (cell_place (cell_table f.state.chip) f) (sym true-cell)

      by : Outcome f kind address → Some (cell_place (cell_table f.state.chip) f Cell) ≡ found_at (row_at f kind address)
      by (nothing n c) = absurd (something-held f.state.chip kind address there c)
      by (held row n k a t) = ap Some (sym named ∙ ap place_of_row n) ∙ ap found_at (sym n)

-- what a cell names goes by registers and state alone
pub place-seen : (cells : List ℕ) (f : File) (cell : ℕ) → cell_place cells (seen f.registers f.state) cell ≡ cell_place cells f cell
unfolding cell_place indexed_places plain_place attribute_place register attribute_index seen
place-seen cells f cell = refl
