-- The cells of kinds and addresses, and those behind the indexed ports, by their places in a table. Assumes nothing.
use Prim.Native.Nat.{ℕ, ◌+◌, ◌-◌, ◌<◌, ◌≤◌}
use mathlib.Core.Path.{◌≡◌, sym, ap, ◌∙◌}
use mathlib.Core.Bool.{Bool, cond}
use mathlib.Core.List.{List}
use native.Mathlib.Omega.{arith}
use borrow.Author.Tests.{lt-ltb, le-ltb, le-leb, eqb-true, ltb-false}
use lib.Dec.{T, eqb, ltb}
use lib.ListN.{get_or}
use Rattle.bits.proofs.Test.{every_below, by-test, is_true, below}
use Rattle.file.specs.declared.chip.Chip.{Chip}
use Rattle.file.specs.declared.chip.Chip.TheVariants.{Gd5462, Gd5464}
use Rattle.file.specs.File.{seen}
use Rattle.file.specs.State.{initial, toggling}
use Rattle.places.specs.Lookup.{selects, first, place_of_row, other_way, some_row, held_in, is_wider, inside_in}
use Rattle.places.specs.Places.{places}
use Rattle.places.specs.EngineCells.{nothing_held, config_cell, mmio_cell, port_cell, plain_cell, indexed_cell, of_kind, of_address, rows_in, rows_at, cell_of, held_cell, nothing_at, cell_at, chosen, cells_from, behind_port, tabled, table_cell, cell_table}

-- ---- by kind

module _ (cells : List ℕ) (at : ℕ) where
  pub low-mmio : (write : Bool) → at < 0x110 → get_or cells (294 + at) 0 ≡ mmio_cell cells write at
  unfolding mmio_cell
  low-mmio write h = rw (lt-ltb at 0x110 h)

  pub config-found : at < 6 → get_or cells (288 + at) 0 ≡ config_cell cells at
  unfolding config_cell
  config-found h = rw (lt-ltb at 6 h)

  pub port-found : (write : Bool) (n : ℕ) → 0x3B0 ≤ at → at < 0x3E0 → n ≡ cond write 48 0 + (at - 0x3B0) → get_or cells n 0 ≡ port_cell cells write at
  unfolding port_cell
  port-found write n low high e = rw (le-leb 0x3B0 at low, lt-ltb at 0x3E0 high) (ap (λ (k : ℕ). get_or cells k 0) e)

pub high-mmio : (cells : List ℕ) (at : ℕ) (write : Bool) → 0x300 ≤ at → at - 0x300 < 6 → get_or cells (288 + (at - 0x300)) 0 ≡ mmio_cell cells write at
unfolding mmio_cell
high-mmio cells at write low high = rw (le-ltb at 0x110 (omega (arith, low)), le-leb 0x300 at low) (config-found cells (at - 0x300) high)

-- ---- behind the indexed ports: no register behind the last numbers of CRX and GRX, on both chips

abbrev Unnamed : Chip → ℕ → ℕ → Type 0
Unnamed chip from count = T (every_below (λ (n : ℕ). eqb (get_or (cell_table chip) (from + n) 0) nothing_held) count)

unnamed : (Unnamed Gd5462 168 24 × Unnamed Gd5464 168 24) × (Unnamed Gd5462 208 48 × Unnamed Gd5464 208 48)
unfolding every_below places first selects place_of_row seen initial toggling of_kind of_address rows_in rows_at plain_cell indexed_cell cell_of held_cell nothing_at cell_at other_way some_row held_in is_wider inside_in chosen cells_from behind_port tabled table_cell cell_table
unnamed = ((tt, tt), (tt, tt))

beyond : (chip : Chip) (from count n : ℕ) → Unnamed chip from count → n < count → get_or (cell_table chip) (from + n) 0 ≡ nothing_held
beyond chip from count n t h = eqb-true _ nothing_held (is_true _ (below (λ (k : ℕ). eqb (get_or (cell_table chip) (from + k) 0) nothing_held) count t n h))

pub beyond-crx : (chip : Chip) (n : ℕ) → 40 ≤ n → n < 64 → get_or (cell_table chip) (128 + n) 0 ≡ nothing_held
beyond-crx Gd5462 n low high = let same : 128 + n ≡ 168 + (n - 40) = omega (arith, low) in ap (λ (k : ℕ). get_or (cell_table Gd5462) k 0) same ∙ beyond Gd5462 168 24 (n - 40) unnamed.0.0 (omega (arith, low, high))
beyond-crx Gd5464 n low high = let same : 128 + n ≡ 168 + (n - 40) = omega (arith, low) in ap (λ (k : ℕ). get_or (cell_table Gd5464) k 0) same ∙ beyond Gd5464 168 24 (n - 40) unnamed.0.1 (omega (arith, low, high))

pub beyond-grx : (chip : Chip) (n : ℕ) → 16 ≤ n → n < 64 → get_or (cell_table chip) (192 + n) 0 ≡ nothing_held
beyond-grx Gd5462 n low high = let same : 192 + n ≡ 208 + (n - 16) = omega (arith, low) in ap (λ (k : ℕ). get_or (cell_table Gd5462) k 0) same ∙ beyond Gd5462 208 48 (n - 16) unnamed.1.0 (omega (arith, low, high))
beyond-grx Gd5464 n low high = let same : 192 + n ≡ 208 + (n - 16) = omega (arith, low) in ap (λ (k : ℕ). get_or (cell_table Gd5464) k 0) same ∙ beyond Gd5464 208 48 (n - 16) unnamed.1.1 (omega (arith, low, high))

-- what is picked is the table's
pub picked : (table cells : List ℕ) → cells ≡ table → (base end n k r : ℕ) → n ≡ k → (end ≤ base + k → get_or table (base + k) 0 ≡ nothing_held)
    → r ≡ cond (ltb (base + n) end) (get_or cells (base + n) 0) nothing_held → r ≡ get_or table (base + k) 0
picked table cells same base end n k r e none p =
    p ∙ ap (λ (j : ℕ). cond (ltb (base + j) end) (get_or cells (base + j) 0) nothing_held) e
    ∙ by-test (ltb (base + k) end) (λ t. rw t (ap (λ (l : List ℕ). get_or l (base + k) 0) same)) (λ t. rw t (sym (none (ltb-false (base + k) end t))))
