-- The engine's way through the checks, by 01's table of cells, is 01's order, for a sound file. Assumes nothing.
use Prim.Native.Nat.{ℕ, ◌<◌}
use mathlib.Core.Path.{◌≡◌, refl, sym, ap, ◌∙◌}
use mathlib.Core.Bool.{Bool, true, false, cond, true≢false, not, ◌&&◌}
use mathlib.Core.Option.{Option, none, some}
use lib.Dec.{T, eqb}
use Rattle.bits.proofs.Test.{by-test, is_true, and-false}
use Rattle.file.specs.declared.answer.Answer.{Answer}
use Rattle.file.specs.declared.answer.Answer.TheVariants.{NotHeld, OtherDirection, InsideWider}
use Rattle.file.specs.declared.registers.File.{File}
use Rattle.file.specs.Sound.{sound}
use Rattle.places.specs.EngineCells.{held_cell, nothing_at, cell_at, is_nothing, cell_width, cell_table}
use Rattle.places.specs.declared.place.Place.TheVariants.{Passing as PassingPlace}
use Rattle.places.specs.Lookup.{selects, matches, first, row_at, place_of_row, place_at, other_way, held_in, inside_in}
use Rattle.places.specs.Places.{any, Row, places}
use Rattle.places.proofs.CellsOfRows.{Outcome, nothing, held, outcome, some-held, none-held, spoken}
use Rattle.places.proofs.NotHeld.{other-kind, nothing-there, cell-nothing, cell-spoken, something-held, cell-held}
use Rattle.places.proofs.RulesOfPlaces.{halves}
use Rattle.places.proofs.TableOfCells.{cell-true}
use Rattle.access.specs.declared.engine.Meant.{Meant}
use Rattle.std.specs.Prelude.{Result, Err, Ok}
use Rattle.access.specs.declared.engine.Meant.TheVariants.{At, Lines}
use Rattle.access.specs.declared.record.Record.{Record}
use Rattle.access.specs.Access.{place_of}
use Rattle.access.specs.Checks.{checks, first_refusal, not_sound, space_off, not_held, no_row, other_direction, inside_wider, is_port, is_mmio, of_other_half, other_width, wrong_width}
use Rattle.access.specs.Engine.{no_access, lines_pass, other_row, nothing_told, looked_by}
use Rattle.access.specs.Promises.{turned}
use Rattle.access.proofs.PassedChecks.{kind-below, Passing, is-passing, malformed-told}

module _ (f : File) (r : Record) (low : r.kind < 6) where
  abbrev Cell : ℕ
  Cell = cell_at f.state.chip r.kind r.address

  -- an address that is not held has a cell of nothing
  pub not-held : not_held f r ≡ is_nothing Cell
  unfolding not_held no_row
  not-held = by (outcome f r.kind r.address low)
    where
      by : Outcome f r.kind r.address → not_held f r ≡ is_nothing Cell
      by (nothing e c) = rw (e, cell-nothing f.state.chip r.kind r.address c) (sym (nothing-there f.state.chip r.kind r.address))
      by (held row e k a s) =
          let some-row = (spoken row (held_cell f.state.chip r.kind r.address) s).something in
          rw (e, cell-spoken f.state.chip r.kind r.address some-row) (sym some-row)

  -- code 16 asks of the other direction what code 4 asks of the record's own
  pub other-way-asked : other_direction f r ≡ (not_held f r && not (not_held f (turned r)))
  unfolding other_direction not_held no_row
  other-way-asked = ap (λ (b : Bool). not_held f r && b) (by (row_at f (other_way r.kind) r.address) refl)
    where
      by : (o : Option Row) → row_at f (other_way r.kind) r.address ≡ o → held_in (places f.state.chip) (other_way r.kind) r.address ≡ not (no_row o)
      by none e = none-held f (other_way r.kind) r.address (other-kind r.kind low) e
      by (some row) e = some-held f (other_way r.kind) r.address row e

  -- and a cell of nothing tells codes 16, 17 and 4 apart
  abbrev Other : Bool
  Other = held_in (places f.state.chip) (other_way r.kind) r.address

  abbrev Inside : Bool
  Inside = inside_in (places f.state.chip) r.kind r.address

  pub told-apart : not_held f r ≡ true → nothing_told Cell ≡ cond Other OtherDirection (cond Inside InsideWider NotHeld)
  unfolding not_held no_row nothing_told nothing_at
  told-apart n = by (outcome f r.kind r.address low)
    where
      by : Outcome f r.kind r.address → nothing_told Cell ≡ cond Other OtherDirection (cond Inside InsideWider NotHeld)
      by (nothing e c) =
          rw (cell-nothing f.state.chip r.kind r.address c)
          (by-test Other (λ o. rw o refl) (λ o. rw o (by-test Inside (λ i. rw i refl) (λ i. rw i refl))))
      by (held row e k a s) = absurd (true≢false (sym (rw e at n)))

  module _ (some-cell : is_nothing Cell ≡ false) where
    -- code 6 is another width than the cell's
    pub wrong-width : wrong_width f r ≡ not (eqb (cell_width Cell) r.width)
    unfolding wrong_width other_width
    wrong-width = by (outcome f r.kind r.address low)
      where
        by : Outcome f r.kind r.address → wrong_width f r ≡ not (eqb (cell_width Cell) r.width)
        by (nothing e c) = absurd (something-held f.state.chip r.kind r.address some-cell c)
        by (held row e k a s) = rw (e, cell-held f.state.chip r.kind r.address some-cell, (spoken row (held_cell f.state.chip r.kind r.address) s).width)

    -- code 5 is another half than the row's
    pub other_half : of_other_half f r ≡ other_row f r
    unfolding of_other_half other_row is_port
    other_half =
        by-test (is_port r)
        (λ p. let h = halves f r.kind r.address low (something-held f.state.chip r.kind r.address some-cell) p in rw (p, h.0, h.1))
        (λ p. rw p)

-- the answer where the checks refuse, else another
unfoldable pub settled : Result Meant Answer → Answer → Answer
settled (Err a) otherwise = a
settled (Ok (At cell)) otherwise = otherwise
settled (Ok Lines) otherwise = otherwise

-- 02, 10/13: kind 6 finds its row, whatever the file
passing-row : (f : File) → row_at f 6 0 ≡ some (record { kind = 6; address = 0; index = any; width = 2; place = PassingPlace })
unfolding row_at first matches selects places
passing-row f = refl

pub passing-place : (f : File) (r : Record) → Passing r → place_of f r ≡ PassingPlace
unfolding place_of place_at place_of_row
passing-place f r p = rw (p.kind, p.address, passing-row f) refl

-- so no check stands in its way but soundness: it needs no space enabled
pub passing-through : (f : File) (r : Record) (otherwise : Answer) → T (sound f) → lines_pass r ≡ true → first_refusal checks f r otherwise ≡ otherwise
unfolding first_refusal checks not_sound space_off other_direction inside_wider not_held no_row of_other_half wrong_width other_width is_port is_mmio
passing-through f r otherwise s h =
    let p = is-passing r h in
    rw (is_true (sound f) s, malformed-told f r, h, and-false, p.kind, p.address, p.width, passing-row f) refl

-- 'Access checks run 12, 2, 3, 4, 5, 6'; at 4's place 16, 17, 4
pub in_order : (f : File) (r : Record) (otherwise : Answer) → T (sound f)
    → first_refusal checks f r otherwise ≡ settled (looked_by (cell_table f.state.chip) f r) otherwise
unfolding first_refusal checks not_sound other_direction inside_wider settled looked_by
in_order f r otherwise s =
    by-test (no_access r)
    (λ m. by-test (lines_pass r)
    (λ p. passing-through f r otherwise s p ∙ sym (rw (m, p) refl))
    (λ p. rw (is_true (sound f) s, malformed-told f r, m, p)))
    (λ m. rw (is_true (sound f) s, malformed-told f r, m, cell-true f.state.chip r.kind (kind-below r m) r.address)
    (by-test (space_off f r) (λ o. rw o)
    (λ o. rw o
    (by-test (not_held f r)
    (λ n. rw (n, sym (not-held f r (kind-below r m)) ∙ n) (sym (told-apart f r (kind-below r m) n)))
    (λ n.
    let some-cell = sym (not-held f r (kind-below r m)) ∙ n in
    rw (n, some-cell, wrong-width f r (kind-below r m) some-cell, other_half f r (kind-below r m) some-cell)
    (by-test (other_row f r) (λ h. rw h)
    (λ h. rw h
    (by-test (eqb (cell_width (cell_at f.state.chip r.kind r.address)) r.width) (λ w. rw w) (λ w. rw w)))))))))
