-- What there is where an address is not held (02, 2/13), by the list of places and by its cell. Assumes nothing.
use Prim.Native.Nat.{ℕ, ◌+◌, ◌/◌, ◌%◌, ◌<◌}
use mathlib.Core.Path.{◌≡◌, refl, sym, ap, ap₂, ◌∙◌}
use mathlib.Core.Bool.{Bool, true, false, cond, true≢false, not, ◌&&◌}
use mathlib.Core.List.{List}
use native.Mathlib.Omega.{arith}
use borrow.Author.Tests.{eq-eqb, ne_eqb, eqb-true, eqb-false}
use lib.Dec.{eqb, ltb}
use Rattle.bits.proofs.Test.{by-test}
use Rattle.file.specs.declared.chip.Chip.{Chip}
use Rattle.file.specs.File.{power_on}
use Rattle.file.specs.State.{initial}
use Rattle.places.specs.EngineCells.{other_way_held, wider_held, nothing_held, held_cell, nothing_at, cell_at, is_nothing}
use Rattle.places.specs.Lookup.{other_way, some_row, held_in, is_wider, inside_in}
use Rattle.places.specs.Places.{Row, places}
use Rattle.places.proofs.CellsOfRows.{told-held}

-- the other direction is one of the same space
same-space : (kind : ℕ) → other_way kind / 2 ≡ kind / 2
unfolding other_way
same-space kind =
    by-test (eqb (kind % 2) 0)
    (λ e. rw e (omega (arith, eqb-true (kind % 2) 0 e)))
    (λ e. rw e (omega (arith, eqb-false (kind % 2) 0 e)))

pub other-kind : (kind : ℕ) → kind < 6 → other_way kind < 6
other-kind kind low = omega (arith, same-space kind)

-- whatever the list, a wider register is asked for in either direction
pub either_way : (rows : List Row) (kind address : ℕ) → inside_in rows (other_way kind) address ≡ inside_in rows kind address
unfolding inside_in is_wider
either_way rows kind address =
    ap (λ (space : ℕ). some_row (λ (row : Row). eqb address (row.address + 1) && (eqb space (row.kind / 2) && ltb 1 row.width)) rows) (same-space kind)

-- a cell of nothing is told as one
pub nothing-there : (chip : Chip) (kind address : ℕ) → is_nothing (nothing_at chip kind address) ≡ true
unfolding is_nothing nothing_at
nothing-there chip kind address =
    by-test (held_in (places chip) (other_way kind) address) (λ e. rw e refl)
    (λ e. rw e (by-test (inside_in (places chip) kind address) (λ w. rw w refl) (λ w. rw w refl)))

-- where an address's rows have a cell it is theirs, and else one of nothing
module _ (chip : Chip) (kind address : ℕ) where
  pub cell-nothing : held_cell chip kind address ≡ nothing_held → cell_at chip kind address ≡ nothing_at chip kind address
  unfolding cell_at
  cell-nothing n = rw (eq-eqb _ _ n) refl

  pub cell-spoken : is_nothing (held_cell chip kind address) ≡ false → cell_at chip kind address ≡ held_cell chip kind address
  unfolding cell_at is_nothing
  cell-spoken s = rw (ne_eqb (held_cell chip kind address) nothing_held (λ n. true≢false (ap is_nothing (sym n) ∙ s))) refl

-- a cell that isn't one of nothing is theirs
module _ (chip : Chip) (kind address : ℕ) (e : is_nothing (cell_at chip kind address) ≡ false) where
  pub something-held : held_cell chip kind address ≡ nothing_held → ⊥
  something-held n = true≢false (sym (ap is_nothing (cell-nothing chip kind address n) ∙ nothing-there chip kind address) ∙ e)

  pub cell-held : cell_at chip kind address ≡ held_cell chip kind address
  unfolding cell_at
  cell-held = by-test (eqb (held_cell chip kind address) nothing_held) (λ n. absurd (something-held (eqb-true _ _ n))) (λ n. rw n refl)

-- where the rows of both directions have the same cell, so has the address
module _ (chip : Chip) (kind address : ℕ) (low : kind < 6) (other : other_way kind < 6) (back : other_way (other_way kind) ≡ kind)
    (same : held_cell chip kind address ≡ held_cell chip (other_way kind) address) where
  alike-held : held_in (places chip) (other_way kind) address ≡ held_in (places chip) (other_way (other_way kind)) address
  unfolding power_on initial
  alike-held =
      told-held (power_on chip) (other_way kind) address other
      ∙ ap (λ (cell : ℕ). not (is_nothing cell)) (sym same)
      ∙ sym (told-held (power_on chip) kind address low)
      ∙ ap (λ (k : ℕ). held_in (places chip) k address) (sym back)

  pub both_ways : cell_at chip kind address ≡ cell_at chip (other_way kind) address
  unfolding cell_at nothing_at
  both_ways =
      ap₂ (λ (cell nothing : ℕ). cond (eqb cell nothing_held) nothing cell) same
      (ap₂ (λ (held inside : Bool). cond held other_way_held (cond inside wider_held nothing_held)) alike-held (sym (either_way (places chip) kind address)))
