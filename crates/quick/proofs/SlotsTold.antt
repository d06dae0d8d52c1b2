-- What a slot says of a record whose key it has, by the table of cells that it was made from. Assumes nothing.
use Prim.Native.Nat.{ℕ, zero, suc, ◌+◌, ◌/◌, ◌%◌, ◌^◌, ◌<◌, ◌≤◌}
use mathlib.Core.Path.{◌≡◌, refl, sym, ap, ap₂, ◌∙◌}
use mathlib.Core.Bool.{Bool, true, false, cond, true≢false, not, ◌&&◌, ◌||◌}
use mathlib.Core.List.{List, [], ◌∷◌}
use native.Mathlib.Nat.{mod-eq_of_lt}
use native.Mathlib.Omega.{arith}
use borrow.Author.Tests.{le-ltb, lt-leb, eq-eqb, eqb-true, eqb-false, leb-true, ltb-true}
use lib.Dec.{T, eqb, ltb, ltb→lt}
use lib.ListN.{get_or}
use Rattle.bits.specs.Store.{bit}
use Rattle.bits.proofs.Bit.{bit-zero}
use Rattle.bits.proofs.Test.{every_below, left, right, either, by-test, is_true, or-false, below}
use Rattle.file.specs.declared.answer.Answer.TheVariants.{SpaceOff, OtherHalf}
use Rattle.file.specs.declared.chip.Chip.{Chip}
use Rattle.file.specs.declared.chip.Chip.TheVariants.{Gd5462, Gd5464}
use Rattle.file.specs.declared.registers.File.{File}
use Rattle.file.specs.File.{register, seen}
use Rattle.file.specs.Names.{MISC, ARX, PCI04, CR7}
use Rattle.file.specs.State.{initial, toggling}
use Rattle.places.specs.Lookup.{selects, first, place_of_row, other_way, some_row, held_in, is_wider, inside_in}
use Rattle.places.specs.Places.{places}
use Rattle.places.specs.EngineCells.{other_way_held, wider, is_nothing, cell_width, cell_in, cell_place, behind_arx, behind_cell, plain_cell, indexed_cell, of_kind, of_address, rows_in, rows_at, cell_of, held_cell, nothing_at, cell_at, chosen, cells_from, behind_port, tabled, table_cell, cell_table}
use Rattle.std.specs.Prelude.{Err, Ok}
use Rattle.access.specs.declared.engine.Meant.TheVariants.{At}
use Rattle.access.specs.Checks.{is_write, is_port, is_mmio, bad_access, space_off}
use Rattle.access.specs.Engine.{no_access, other_row, looked_by}
use Rattle.access.proofs.PassedChecks.{word_fits}
use Rattle.quick.specs.Classes.{class_of, codes_of}
use Rattle.quick.specs.Slots.{by_the_key, limit_fits, slot_true, slots_true, empty}
use Rattle.quick.specs.declared.slots.Slot.{Slot}

-- each slot, and what stands past them
pub slot_at : (cells : List ℕ) (slots : List Slot) → T (slots_true cells slots) → (i : ℕ)
    → T (slot_true cells (get_or slots i empty).key (get_or slots i empty).limit (get_or slots i empty).class (get_or slots i empty).cell)
unfolding slots_true slot_true
slot_at cells [] t i = tt
slot_at cells (s ∷ slots) t zero = left (slot_true cells s.key s.limit s.class s.cell) (slots_true cells slots) t
slot_at cells (s ∷ slots) t (suc i) = slot_at cells slots (right (slot_true cells s.key s.limit s.class s.cell) (slots_true cells slots) t) i

module _ (cells : List ℕ) (key limit class cell value : ℕ) (t : T (slot_true cells key limit class cell)) (fits : value < limit) where
  abbrev Kind : ℕ
  Kind = key % 256

  abbrev Width : ℕ
  Width = key / 256 % 256

  abbrev Address : ℕ
  Address = key / 65536

  abbrev Here : ℕ
  Here = cell_in cells Kind Address

  -- its parts, from the last on
  abbrev A1 : Bool
  A1 = ltb Kind 6

  abbrev A2 : Bool
  A2 = A1 && limit_fits Kind Width limit

  abbrev A3 : Bool
  A3 = A2 && eqb class (class_of Kind Address)

  abbrev A4 : Bool
  A4 = A3 && ltb cell (0x7C + Kind % 2)

  abbrev A5 : Bool
  A5 = A4 && eqb (Here % wider) cell

  all : T (A5 && eqb (cell_width Here) Width)
  unfolding slot_true
  all = either (eqb limit 0) (A5 && eqb (cell_width Here) Width) t (λ z. absurd (omega (arith, eqb-true limit 0 (is_true (eqb limit 0) z))))

  t5 : T A5
  t5 = left A5 (eqb (cell_width Here) Width) all

  t4 : T A4
  t4 = left A4 (eqb (Here % wider) cell) t5

  t3 : T A3
  t3 = left A3 (ltb cell (0x7C + Kind % 2)) t4

  t2 : T A2
  t2 = left A2 (eqb class (class_of Kind Address)) t3

  low : Kind < 6
  low = ltb-true Kind 6 (is_true A1 (left A1 (limit_fits Kind Width limit) t2))

  pub its-class : class ≡ class_of Kind Address
  its-class = eqb-true class (class_of Kind Address) (is_true _ (right A2 (eqb class (class_of Kind Address)) t3))

  pub cell-low : cell < 0x7C + Kind % 2
  cell-low = ltb-true cell (0x7C + Kind % 2) (is_true _ (right A3 (ltb cell (0x7C + Kind % 2)) t4))

  its-cell : Here % wider ≡ cell
  its-cell = eqb-true (Here % wider) cell (is_true _ (right A4 (eqb (Here % wider) cell) t5))

  its-width : eqb (cell_width Here) Width ≡ true
  its-width = is_true _ (right A5 (eqb (cell_width Here) Width) all)

  limited : limit ≤ cond (eqb (Kind % 2) 1) (256 ^ Width) 1
  unfolding limit_fits
  limited = leb-true limit (cond (eqb (Kind % 2) 1) (256 ^ Width) 1) (is_true _ (right A1 (limit_fits Kind Width limit) t2))

  wide : (eqb Width 1 || eqb Width 2) ≡ true
  unfolding cell_width
  wide =
      rw (sym (eqb-true (cell_width Here) Width its-width))
      (by-test (ltb Here wider) (λ e. rw e) (λ e. rw e))

  formed : no_access (by_the_key key value) ≡ false
  unfolding no_access bad_access is_write by_the_key
  formed =
      rw (le-ltb 5 Kind (omega (arith, low)), wide)
      (by-test (eqb (Kind % 2) 1)
      (λ e. rw e (lt-leb (256 ^ Width) value (lt_of (rw e at limited))))
      (λ e. rw e (ap not (eq-eqb value 0 (none_left (rw e at limited))))))
    where
      lt_of : limit ≤ 256 ^ Width → value < 256 ^ Width
      lt_of h = omega (arith, h, fits)

      none_left : limit ≤ 1 → value ≡ 0
      none_left h = omega (arith, h, fits)

  something : is_nothing Here ≡ false
  unfolding is_nothing
  something = rw its-cell (lt-leb other_way_held cell (omega (arith, cell-low)))

  -- the checks, of which those of the class are left
  pub looks : (f : File) → looked_by cells f (by_the_key key value)
      ≡ cond (space_off f (by_the_key key value)) (Err SpaceOff) (cond (other_row f (by_the_key key value)) (Err OtherHalf) (Ok (At Here)))
  unfolding looked_by space_off is_port by_the_key
  looks f = rw (formed, something, its-width)

  -- the cell that the slot has names the same place
  pub same_place : (f : File) → cell_place cells f Here ≡ cell_place cells f cell
  unfolding cell_place
  same_place f = rw (its-cell, mod-eq_of_lt {n = cell} {m = wider} (omega (arith, cell-low)))

  -- a write is an odd key's
  pub writes : is_write (by_the_key key value) ≡ eqb (key % 2) 1
  unfolding is_write by_the_key
  writes = let same : key % 256 % 2 ≡ key % 2 = omega arith in rw same

  -- and its value has 16 bits
  pub short : is_write (by_the_key key value) ≡ true → value < 65536
  unfolding by_the_key
  short w = word_fits (by_the_key key value) formed w

-- ---- the code of a class

port-code : (ports colour low high : Bool) (rest : List ℕ) → (low ≡ true → high ≡ false)
    → get_or (0 ∷ cond ports 3 0 ∷ cond ports 3 (cond colour 5 0) ∷ cond ports 3 (cond colour 0 5) ∷ rest) (cond low 2 (cond high 3 1)) 0
    ≡ cond ports 3 (cond (low && colour || high && not colour) 5 0)
port-code true colour true high rest x = refl
port-code true colour false true rest x = refl
port-code true colour false false rest x = refl
port-code false true true true rest x = absurd (true≢false (x refl))
port-code false true true false rest x = refl
port-code false false true true rest x = absurd (true≢false (x refl))
port-code false false true false rest x = refl
port-code false true false true rest x = refl
port-code false false false true rest x = refl
port-code false true false false rest x = refl
port-code false false false false rest x = refl

even-or-odd : (n : ℕ) → eqb (n % 2) 0 ≡ not (eqb (n % 2) 1)
even-or-odd n =
    by-test (eqb (n % 2) 1)
    (λ e. rw (eqb-true (n % 2) 1 e))
    (λ e. let even : n % 2 ≡ 0 = omega (arith, eqb-false (n % 2) 1 e) in rw even)

module _ (f : File) (key value : ℕ) where
  abbrev Space : ℕ
  Space = key % 256 / 2

  abbrev Row : ℕ
  Row = key / 65536 / 16

  abbrev Enables : ℕ
  Enables = get_or f.registers PCI04 0

  abbrev Misc : ℕ
  Misc = get_or f.registers MISC 0

  abbrev Code : ℕ
  Code = get_or (codes_of f.registers) (class_of (key % 256) (key / 65536)) 0

  abbrev Told : Bool → Bool → ℕ
  Told off row = cond off 3 (cond row 5 0)

  off-port : eqb Space 1 ≡ true → space_off f (by_the_key key value) ≡ eqb (Enables % 2) 0
  unfolding space_off is_port is_mmio by_the_key register
  off-port p = rw (p, ap (λ (n : ℕ). eqb n 2) (eqb-true Space 1 p), or-false, bit-zero)

  row-port : eqb Space 1 ≡ true → other_row f (by_the_key key value) ≡ (eqb Row 0x3B && eqb (Misc % 2) 1 || eqb Row 0x3D && not (eqb (Misc % 2) 1))
  unfolding other_row is_port by_the_key register
  row-port p = rw (p, bit-zero, even-or-odd)

  class-port : eqb Space 1 ≡ true → class_of (key % 256) (key / 65536) ≡ cond (eqb Row 0x3B) 2 (cond (eqb Row 0x3D) 3 1)
  unfolding class_of
  class-port p = rw p

  of-port : eqb Space 1 ≡ true → Code ≡ Told (space_off f (by_the_key key value)) (other_row f (by_the_key key value))
  unfolding codes_of
  of-port p =
      ap (λ (c : ℕ). get_or (codes_of f.registers) c 0) (class-port p)
      ∙ port-code (eqb (Enables % 2) 0) (eqb (Misc % 2) 1) (eqb Row 0x3B) (eqb Row 0x3D) (cond (eqb (Enables / 2 % 2) 0) 3 0 ∷ 0 ∷ 0 ∷ 0 ∷ []) (λ e. ap (λ (n : ℕ). eqb n 0x3D) (eqb-true Row 0x3B e))
      ∙ sym (ap₂ Told (off-port p) (row-port p))

  row-else : eqb Space 1 ≡ false → other_row f (by_the_key key value) ≡ false
  unfolding other_row is_port by_the_key
  row-else p = rw p

  off-mmio : eqb Space 1 ≡ false → eqb Space 2 ≡ true → space_off f (by_the_key key value) ≡ eqb (Enables / 2 % 2) 0
  unfolding space_off is_port is_mmio by_the_key register bit
  off-mmio p m = rw (p, m)

  off-config : eqb Space 1 ≡ false → eqb Space 2 ≡ false → space_off f (by_the_key key value) ≡ false
  unfolding space_off is_port is_mmio by_the_key
  off-config p m = rw (p, m)

  of-mmio : eqb Space 1 ≡ false → eqb Space 2 ≡ true → Code ≡ Told (space_off f (by_the_key key value)) (other_row f (by_the_key key value))
  unfolding codes_of class_of
  of-mmio p m = rw (p, m) (sym (ap₂ Told (off-mmio p m) (row-else p)))

  of-config : eqb Space 1 ≡ false → eqb Space 2 ≡ false → Code ≡ Told (space_off f (by_the_key key value)) (other_row f (by_the_key key value))
  unfolding codes_of class_of
  of-config p m = rw (p, m) (sym (ap₂ Told (off-config p m) (row-else p)))

  pub code-told : Code ≡ Told (space_off f (by_the_key key value)) (other_row f (by_the_key key value))
  code-told = by-test (eqb Space 1) of-port (λ p. by-test (eqb Space 2) (of-mmio p) (of-config p))

-- ---- a write of 3C0h stores into the index or a register behind CR7, on both chips

attribute-cells : T (every_below (λ (n : ℕ). ltb CR7 (get_or (cell_table Gd5462) (behind_arx + n) 0)) 32) × T (every_below (λ (n : ℕ). ltb CR7 (get_or (cell_table Gd5464) (behind_arx + n) 0)) 32)
unfolding every_below places first selects place_of_row seen initial toggling of_kind of_address rows_in rows_at plain_cell indexed_cell cell_of held_cell nothing_at cell_at other_way some_row held_in is_wider inside_in chosen cells_from behind_port tabled table_cell cell_table
attribute-cells = (tt, tt)

pub attribute-free : (chip : Chip) (registers : List ℕ) → CR7 < behind_cell (cell_table chip) registers 0x7C
unfolding behind_cell
attribute-free Gd5462 registers =
    ltb→lt CR7 (get_or (cell_table Gd5462) (behind_arx + get_or registers ARX 0 % 32) 0)
    (below (λ (n : ℕ). ltb CR7 (get_or (cell_table Gd5462) (behind_arx + n) 0)) 32 attribute-cells.0 (get_or registers ARX 0 % 32) (omega arith))
attribute-free Gd5464 registers =
    ltb→lt CR7 (get_or (cell_table Gd5464) (behind_arx + get_or registers ARX 0 % 32) 0)
    (below (λ (n : ℕ). ltb CR7 (get_or (cell_table Gd5464) (behind_arx + n) 0)) 32 attribute-cells.1 (get_or registers ARX 0 % 32) (omega arith))
