-- `words::find` meets its contract. Assumes nothing.
use Prim.Native.Nat.{ℕ}
use mathlib.Core.List.{List}
use Rattle.std.specs.Prelude.{Some}
use mathlib.Core.Path.{sym, ap, ap₂, ◌∙◌}
use borrow.Author.Tests.{lt-ltb, le-ltb, not-true, not-false}
use Rattle.bits.proofs.Test.{passes}
use Rattle.file.specs.File.{seen}
use Rattle.places.specs.EngineCells.{cell_in, cell_place, cell_table, is_nothing}
use Rattle.explaining.specs.Words.{found}
use Rattle.explaining.proofs.FoundPlaces.{found_none, found_some, place-seen}
use Rattle.explaining.proofs.words.find.Goals as goal

pub returns-then-not-is_sound : goal.returns-then-not-is_sound
unfolding found
returns-then-not-is_sound c = rw (sym c.is_sound.ensures ∙ not-true _ c.if-not-is_sound.true-raw)

pub returns-then-kind-ge6 : goal.returns-then-kind-ge6
unfolding found
returns-then-kind-ge6 c =
    rw (sym c.is_sound.ensures ∙ not-false _ c.if-not-is_sound.false-raw, le-ltb _ _ c.if-kind-ge6.true) c.passing_found.ensures

pub returns-then-is_nothing : goal.returns-then-is_nothing
unfolding found
returns-then-is_nothing c =
    let start = c.args in
    let is-sound = sym c.is_sound.ensures ∙ not-false _ c.if-not-is_sound.false-raw in
    let low = c.if-kind-ge6.false in
    let cell = c.cell_at-cell.ensures ∙ ap (λ (t : List ℕ). cell_in t start.asked.kind start.asked.address) c.cells-cells.ensures in
    rw (is-sound, lt-ltb _ _ low)
    (found_none start.file (passes _ is-sound) start.asked.kind start.asked.address low
    (sym (c.is_nothing.ensures ∙ ap is_nothing cell) ∙ c.if-is_nothing.true))

pub returns : goal.returns
unfolding found
returns c =
    let start = c.args in
    let is-sound = sym c.is_sound.ensures ∙ not-false _ c.if-not-is_sound.false-raw in
    let low = c.if-kind-ge6.false in
    let cell = c.cell_at-cell.ensures ∙ ap (λ (t : List ℕ). cell_in t start.asked.kind start.asked.address) c.cells-cells.ensures in
    rw (is-sound, lt-ltb _ _ low)
    (ap Some
    (c.place_of.ensures
    ∙ ap₂ (λ (t : List ℕ) (n : ℕ). cell_place t (seen start.file.registers start.file.state) n) c.cells-cells.ensures cell
    ∙ place-seen (cell_table start.file.state.chip) start.file _)
    ∙ found_some start.file (passes _ is-sound) start.asked.kind start.asked.address low
    (sym (c.is_nothing.ensures ∙ ap is_nothing cell) ∙ c.if-is_nothing.false))
