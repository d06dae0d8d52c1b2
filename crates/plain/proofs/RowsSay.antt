-- What a walk over rows finds is what the list of places that they say holds. Assumes nothing.
use Prim.Native.Nat.{ℕ, ◌+◌, ◌*◌, ◌-◌, ◌/◌, ◌%◌}
use mathlib.Core.Path.{◌≡◌, refl, sym, ap, ap₂, ◌∙◌, subst}
use mathlib.Core.Bool.{Bool, true, false, cond, true≢false, not, ◌&&◌, ◌||◌}
use mathlib.Core.List.{List, [], ◌∷◌, ◌++◌}
use mathlib.Core.Option.{Option, none, some}
use lib.Dec.{T, eqb, ltb}
use Rattle.std.specs.Prelude.{Option as Maybe, Some, None}
use Rattle.std.specs.List.{find, list_any}
use borrow.Author.Tests.{eqb-true}
use Rattle.bits.proofs.Test.{left, right, both, by-test, passes, and-true, and-false, or-false}
use Rattle.file.specs.declared.chip.Chip.{Chip}
use Rattle.file.specs.declared.registers.File.{File}
use Rattle.places.specs.Lookup.{selects, matches, first, some_row, held_in, is_wider, inside_in}
use Rattle.places.specs.Places.{Row as PlaceRow}
use Rattle.plain.specs.declared.row.Row.{Row}
use Rattle.plain.specs.Rows.{space, kinds, of_chip, index_of, said, said_for, says, say_all, every_row}
use Rattle.plain.specs.Walk.{is_at, selected, fits, holds, inside}
use Rattle.plain.proofs.KindsOfRecord.{read_first, read-not-second, write-second, write-not-first, first-space, second-space, other-space, other-direction, one-above, two-or-more, reordered, picked, either_way, or-swapped}

-- ---- a row, by its two directions

module _ (test : PlaceRow → Bool) (row : Row) where
  abbrev Reads : PlaceRow
  Reads = said row (2 * space row)

  abbrev Writes : PlaceRow
  Writes = said row (2 * space row + 1)

  some-said : some_row test (said_for row (kinds row)) ≡ (row.reads && test Reads || row.writes && test Writes)
  unfolding some_row said_for kinds
  some-said = by row.reads row.writes
    where
      by : (r w : Bool) → some_row test (said_for row (cond r (2 * space row ∷ []) [] ++ cond w ((2 * space row + 1) ∷ []) [])) ≡ (r && test Reads || w && test Writes)
      by true true = ap (λ (b : Bool). test Reads || b) (or-false (test Writes))
      by true false = refl
      by false true = or-false (test Writes)
      by false false = refl

  first_said : (rest : List PlaceRow)
      → first test (said_for row (kinds row) ++ rest) ≡ cond (row.reads && test Reads) (some Reads) (cond (row.writes && test Writes) (some Writes) (first test rest))
  unfolding first said_for kinds
  first_said rest = by row.reads row.writes
    where
      by : (r w : Bool) → first test (said_for row (cond r (2 * space row ∷ []) [] ++ cond w ((2 * space row + 1) ∷ []) []) ++ rest)
          ≡ cond (r && test Reads) (some Reads) (cond (w && test Writes) (some Writes) (first test rest))
      by true true = refl
      by true false = refl
      by false true = refl
      by false false = refl

some-append : (test : PlaceRow → Bool) (xs ys : List PlaceRow) → some_row test (xs ++ ys) ≡ (some_row test xs || some_row test ys)
unfolding some_row
some-append test [] ys = refl
some-append test (x ∷ xs) ys = by-test (test x) (λ e. rw e refl) (λ e. rw e (some-append test xs ys))

-- ---- the row that a record means

module _ (f : File) (kind address : ℕ) where
  abbrev Fitting : Row → Bool
  Fitting = fits f kind address

  abbrev Matching : PlaceRow → Bool
  Matching = matches f kind address

  module _ (row : Row) (rest : List PlaceRow) where
    abbrev Kept : Option PlaceRow
    Kept = first Matching rest

    abbrev Means : Option PlaceRow
    Means = cond ((eqb address row.address && (eqb (kind / 2) (space row) && cond (eqb (kind % 2) 0) row.reads row.writes)) && selects f (index_of row)) (some (said row kind)) Kept

    -- in the first of its two directions, and in the second
    abbrev Either : Option PlaceRow
    Either =
        cond (row.reads && Matching (said row (2 * space row))) (some (said row (2 * space row)))
        (cond (row.writes && Matching (said row (2 * space row + 1))) (some (said row (2 * space row + 1))) Kept)

    reads_fit : eqb (kind % 2) 0 ≡ true → Either ≡ Means
    unfolding matches said
    reads_fit even =
        rw (even, read_first kind (space row) even, read-not-second kind (space row) even, and-false row.writes)
        (picked row.reads (eqb (kind / 2) (space row)) (eqb address row.address) (selects f (index_of row)) _ _ Kept
        (λ e. ap (λ (k : ℕ). some (said row k)) (sym (eqb-true kind (2 * space row) (read_first kind (space row) even ∙ e)))))

    writes-fit : eqb (kind % 2) 0 ≡ false → Either ≡ Means
    unfolding matches said
    writes-fit odd =
        rw (odd, write-not-first kind (space row) odd, write-second kind (space row) odd, and-false row.reads)
        (picked row.writes (eqb (kind / 2) (space row)) (eqb address row.address) (selects f (index_of row)) _ _ Kept
        (λ e. ap (λ (k : ℕ). some (said row k)) (sym (eqb-true kind (2 * space row + 1) (write-second kind (space row) odd ∙ e)))))

    row_fits : first Matching (says f.state.chip row ++ rest) ≡ cond (Fitting row) (some (said row kind)) Kept
    unfolding says fits is_at selected
    row_fits =
        by-test (of_chip f.state.chip row)
        (λ chip. rw chip (first_said Matching row rest ∙ by-test (eqb (kind % 2) 0) reads_fit writes-fit))
        (λ chip. rw (chip, and-false) refl)

  -- what was found, as a row of the list of places
  unfoldable pub meant_row : Maybe Row → Option PlaceRow
  meant_row (Some row) = some (said row kind)
  meant_row None = none

  pub first_found : (rows : List Row) → first Matching (say_all f.state.chip rows) ≡ meant_row (find Fitting rows)
  unfolding first say_all meant_row
  first_found [] = refl
  first_found (row ∷ rows) =
      row_fits row (say_all f.state.chip rows)
      ∙ by-test (Fitting row) (λ e. rw e refl) (λ e. rw e (first_found rows))

-- ---- an address that is held, and one inside a wider register

module _ (chip : Chip) (kind address : ℕ) where
  abbrev Holding : PlaceRow → Bool
  Holding row = eqb address row.address && eqb kind row.kind

  row-holds : (row : Row) → some_row Holding (says chip row) ≡ holds chip kind address row
  unfolding says holds is_at some_row said
  row-holds row =
      by-test (of_chip chip row)
      (λ of. rw (of, and-true)
      (some-said Holding row
      ∙ by-test (eqb (kind % 2) 0)
      (λ even. rw (even, read_first kind (space row) even, read-not-second kind (space row) even)
      (simp (and-false, or-false) (reordered row.reads (eqb address row.address) (eqb (kind / 2) (space row)))))
      (λ odd. rw (odd, write-not-first kind (space row) odd, write-second kind (space row) odd)
      (simp (and-false) (reordered row.writes (eqb address row.address) (eqb (kind / 2) (space row)))))))
      (λ of. rw (of, and-false) refl)

  pub held_found : (rows : List Row) → held_in (say_all chip rows) kind address ≡ list_any (holds chip kind address) rows
  unfolding held_in some_row say_all
  held_found [] = refl
  held_found (row ∷ rows) =
      some-append Holding (says chip row) (say_all chip rows) ∙ ap₂ (λ (a b : Bool). a || b) (row-holds row) (held_found rows)

  abbrev Inside : PlaceRow → Bool
  Inside row = eqb address (row.address + 1) && is_wider kind row

  row_inside : (row : Row) → some_row Inside (says chip row) ≡ inside chip kind address row
  unfolding says inside holds is_at is_wider some_row said
  row_inside row =
      by-test (of_chip chip row)
      (λ of. rw of
      (some-said Inside row
      ∙ simp (first-space (space row), second-space (space row), one-above address row.address, two-or-more row.width, other-space kind, other-direction kind, and-true)
      (by-test (eqb (kind % 2) 0)
      (λ even. rw even (wide row.reads row.writes))
      (λ odd. rw odd (or-swapped (row.reads && X) (row.writes && X) ∙ wide row.writes row.reads)))))
      (λ of. rw of (simp and-false))
    where
      X : Bool
      X = (not (eqb address 0) && eqb (address - 1) row.address) && (eqb (kind / 2) (space row) && not (ltb row.width 2))

      wide : (d e : Bool) → (d && X || e && X)
          ≡ (not (ltb row.width 2) && (not (eqb address 0) && (eqb (address - 1) row.address && (eqb (kind / 2) (space row) && d) || eqb (address - 1) row.address && (eqb (kind / 2) (space row) && e))))
      wide d e = either_way d e (not (eqb address 0)) (eqb (address - 1) row.address) (eqb (kind / 2) (space row)) (not (ltb row.width 2))

  pub inside_found : (rows : List Row) → inside_in (say_all chip rows) kind address ≡ list_any (inside chip kind address) rows
  unfolding inside_in some_row say_all
  inside_found [] = refl
  inside_found (row ∷ rows) =
      some-append Inside (says chip row) (say_all chip rows) ∙ ap₂ (λ (a b : Bool). a || b) (row_inside row) (inside_found rows)

-- ---- what every row passes

is_found : Maybe Row → Bool
is_found (Some row) = true
is_found None = false

row_in : Row → Maybe Row → Row
row_in otherwise (Some row) = row
row_in otherwise None = otherwise

-- the row that a walk finds passes what every row passes, and the walk's own test
pub found-passes : (P test : Row → Bool) (rows : List Row) (row : Row) → T (every_row P rows) → find test rows ≡ Some row → T (P row && test row)
unfolding every_row is_found row_in
found-passes P test [] row t e = absurd (true≢false (sym (ap is_found e)))
found-passes P test (this ∷ rows) row t e =
    by-test (test this)
    (λ yes. subst (λ (x : Row). T (P x && test x)) (ap (row_in this) (rw yes at e))
    (both (P this) (test this) (left (P this) (every_row P rows) t) (passes (test this) yes)))
    (λ no. found-passes P test rows row (right (P this) (every_row P rows) t) (rw no at e))
