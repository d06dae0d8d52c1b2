-- By 01's tables the engine decides as 01 says, for a sound file. Assumes nothing.
use Prim.Native.Nat.{ℕ, zero, suc, ◌<◌, ◌^◌}
use mathlib.Core.Path.{◌≡◌, refl, sym, ap, ap₂, ◌∙◌, subst}
use mathlib.Core.Bool.{Bool, true, false, cond, true≢false, not, ◌&&◌}
use mathlib.Core.List.{List}
use native.Mathlib.Nat.{mod-eq_of_lt}
use native.Mathlib.Omega.{arith}
use borrow.Author.Tests.{eqb-true, not-true}
use lib.Dec.{T, eqb}
use Rattle.bits.specs.Store.{bits}
use Rattle.bits.proofs.Test.{left, either, by-test, is_true, chosen, and-false}
use Rattle.file.specs.declared.answer.Answer.{Answer}
use Rattle.file.specs.declared.answer.Answer.TheVariants.{Done, Malformed, SpaceOff, NotHeld, OtherHalf, WrongWidth, OtherDirection, InsideWider}
use Rattle.file.specs.declared.effect.Effect.TheVariants.{Nothing}
use Rattle.file.specs.declared.registers.File.{File}
use Rattle.file.specs.Answers.{code_of, refused}
use Rattle.file.specs.File.{register}
use Rattle.file.specs.Registers.{stored_bits, stored_table}
use Rattle.file.specs.Sound.{sound}
use Rattle.file.proofs.Soundness.{at_most, registers-sound}
use Rattle.places.specs.declared.place.Place.{Place}
use Rattle.places.specs.EngineCells.{other_way_held, wider_held, held_cell, cell_at, is_nothing, cell_width, cell_in, cell_table, cell_place, taken, takes_bytes}
use Rattle.places.specs.Lookup.{attribute_index, matches, place_of_row, place_at}
use Rattle.places.specs.Places.{Row}
use Rattle.places.specs.Profile.{Reading, gives_held, gives_fixed, gives_device_id, gives_toggle, gives_palette_state, gives_vport_state, gives_dac_state, gives_address, gives_pixel, resets_toggle, gives_line, names_nothing, Writing, stores_to, read_only, sets_address, writes_pixel, stores_nothing, passes_lines, profile, reads_pixel}
use Rattle.places.proofs.CellsOfRows.{Outcome, nothing, held, outcome, spoken}
use Rattle.places.proofs.IndexedPorts.{decider, count, Indexed, cell-names}
use Rattle.places.proofs.NotHeld.{something-held, cell-held}
use Rattle.places.proofs.Rows.{Passes, row-passes}
use Rattle.places.proofs.RulesOfPlaces.{narrow, all-narrow}
use Rattle.places.proofs.TableOfCells.{cell-true}
use Rattle.access.specs.declared.engine.Meant.{Meant}
use Rattle.std.specs.Prelude.{Result, Err, Ok}
use Rattle.access.specs.declared.engine.Meant.TheVariants.{At, Lines}
use Rattle.access.specs.declared.record.Record.{Record}
use Rattle.access.specs.Access.{place_of, palette_up, reach_in, answer_of_read, write_answer, answer_at, write_effect, read_effect, effect_at, answer, effect}
use Rattle.access.specs.Checks.{is_write, is_passing, carries, space_off}
use Rattle.access.specs.Engine.{no_access, lines_pass, other_row, nothing_told, looked_by, reach_by, decided_write, decided_read, decided_by, asks_pixel, decision}
use Rattle.access.proofs.ChecksInOrder.{settled, in_order, passing-place, passing-through}
use Rattle.access.proofs.PassedChecks.{kind-below, value-fits, carries-below, is-passing, Passed, passed, lines-told}
use Rattle.access.proofs.SeenDecisions.{same-decision}
use Rattle.access.proofs.SeenFiles.{decided-refused, decided-lines, decided-write, decided-read}

-- the index registers of a sound file
indices : (f : File) → T (sound f) → Indexed f
unfolding decider count register attribute_index bits stored_bits
indices f s zero h = omega (arith, at_most f.state.chip f.registers 1 (registers-sound f s))
indices f s (suc zero) h = omega (arith, at_most f.state.chip f.registers 2 (registers-sound f s))
indices f s (suc (suc zero)) h = omega (arith, at_most f.state.chip f.registers 3 (registers-sound f s))
indices f s (suc (suc (suc zero))) h = omega arith
indices f s (suc (suc (suc (suc zero)))) h = omega arith
indices f s (suc (suc (suc (suc (suc c))))) h = absurd (omega arith)

-- a refusal of the checks is one
refuses : Result Meant Answer → Bool
refuses (Err a) = refused a
refuses (Ok (At cell)) = true
refuses (Ok Lines) = true

told-refuses : (cell : ℕ) → T (refuses (Err (nothing_told cell)))
unfolding nothing_told refuses refused code_of
told-refuses cell =
    chosen refused (eqb cell other_way_held) OtherDirection _ tt (chosen refused (eqb cell wider_held) InsideWider NotHeld tt tt)

looked-refuses : (cells : List ℕ) (f : File) (r : Record) → T (refuses (looked_by cells f r))
unfolding looked_by refuses refused code_of
looked-refuses cells f r =
    chosen refuses (no_access r) _ _ (chosen refuses (lines_pass r) (Ok Lines) (Err Malformed) tt tt)
    (chosen refuses (space_off f r) (Err SpaceOff) _ tt
    (chosen refuses (is_nothing (cell_in cells r.kind r.address)) (Err (nothing_told (cell_in cells r.kind r.address))) _ (told-refuses (cell_in cells r.kind r.address))
    (chosen refuses (other_row f r) (Err OtherHalf) _ tt
    (chosen refuses (eqb (cell_width (cell_in cells r.kind r.address)) r.width) (Ok (At (cell_in cells r.kind r.address))) (Err WrongWidth) tt tt))))

-- what a write takes of a byte is the byte
taken-byte : (writing : Writing) (value : ℕ) → value < 256 → taken writing value ≡ value
unfolding taken
taken-byte (stores_to number flips) value h = refl
taken-byte read_only value h = refl
taken-byte (sets_address reading) value h = mod-eq_of_lt h
taken-byte writes_pixel value h = mod-eq_of_lt h
taken-byte (stores_nothing flips) value h = refl
taken-byte passes_lines value h = refl

taken-whole : (writing : Writing) (value : ℕ) → takes_bytes writing ≡ false → taken writing value ≡ value
unfolding taken takes_bytes
taken-whole (stores_to number flips) value h = refl
taken-whole read_only value h = refl
taken-whole (sets_address reading) value h = absurd (true≢false h)
taken-whole writes_pixel value h = absurd (true≢false h)
taken-whole (stores_nothing flips) value h = refl
taken-whole passes_lines value h = refl

-- a pixel is shown where its read isn't refused
pixel-shown : (f : File) (reading : Reading) → (reads_pixel reading && palette_up f) ≡ (not (refused (answer_of_read f reading)) && reads_pixel reading)
unfolding reads_pixel answer_of_read refused code_of
pixel-shown f (gives_held number) = refl
pixel-shown f (gives_fixed value) = refl
pixel-shown f gives_device_id = refl
pixel-shown f gives_toggle = refl
pixel-shown f gives_palette_state = refl
pixel-shown f gives_vport_state = refl
pixel-shown f gives_dac_state = refl
pixel-shown f gives_address = refl
pixel-shown f gives_pixel = by-test (palette_up f) (λ e. rw e refl) (λ e. rw e refl)
pixel-shown f resets_toggle = refl
pixel-shown f gives_line = refl
pixel-shown f names_nothing = refl

module _ (f : File) (s : T (sound f)) (r : Record) where
  -- the tables of the file's chip
  abbrev pub Cells : List ℕ
  Cells = cell_table f.state.chip

  abbrev pub Stored : List ℕ
  Stored = stored_table f.state.chip

  -- the checks' refusal is the answer, and does nothing
  module _ (a : Answer) (e : looked_by Cells f r ≡ Err a) where
    answer-refused : answer f r ≡ a
    unfolding answer settled
    answer-refused = in_order f r (answer_at (carries r) f (place_of f r)) s ∙ ap (λ (l : Result Meant Answer). settled l (answer_at (carries r) f (place_of f r))) e

    is-refused : refused (answer f r) ≡ true
    unfolding refuses
    is-refused = ap refused answer-refused ∙ is_true (refused a) (subst (λ (l : Result Meant Answer). T (refuses l)) e (looked-refuses Cells f r))

    refused-decision : decided_by Cells Stored f r ≡ decision f r
    unfolding decision effect asks_pixel
    refused-decision = decided-refused Cells Stored f r a e ∙ same-decision (sym answer-refused) (sym (rw is-refused refl)) (sym (rw is-refused refl))

  -- past them the place is the cell's, and it answers
  module _ (cell : ℕ) (e : looked_by Cells f r ≡ Ok (At cell)) where
    through : Passed Cells f r cell
    through = passed Cells f r cell e

    low : r.kind < 6
    low = kind-below r through.formed

    some-cell : is_nothing (cell_at f.state.chip r.kind r.address) ≡ false
    some-cell = ap is_nothing (sym (cell-true f.state.chip r.kind low r.address)) ∙ through.something

    true-cell : cell_in Cells r.kind r.address ≡ held_cell f.state.chip r.kind r.address
    true-cell = cell-true f.state.chip r.kind low r.address ∙ cell-held f.state.chip r.kind r.address some-cell

    place-there : place_of f r ≡ cell_place Cells f cell
    unfolding place_of
    place-there =
        cell-names f (indices f s) r.kind r.address low (something-held f.state.chip r.kind r.address some-cell)
        ∙ ap (cell_place Cells f) (sym (through.named ∙ true-cell))

    answer-there : answer f r ≡ answer_at (carries r) f (place_of f r)
    unfolding answer settled
    answer-there = in_order f r (answer_at (carries r) f (place_of f r)) s ∙ ap (λ (l : Result Meant Answer). settled l (answer_at (carries r) f (place_of f r))) e

    carried : carries r ≡ is_write r
    carried = carries-below r low

    -- the pointer's places are one byte wide, so what is taken of a value is the value
    value_taken : is_write r ≡ true → taken (profile (place_of f r)).writing r.value ≡ r.value
    unfolding place_of place_at place_of_row narrow
    value_taken w = by (outcome f r.kind r.address low)
      where
        by : Outcome f r.kind r.address → taken (profile (place_of f r)).writing r.value ≡ r.value
        by (nothing n c) = absurd (something-held f.state.chip r.kind r.address some-cell c)
        by (held row n k a t) =
            let passes-narrow : T (narrow row && matches f r.kind r.address row) =
            subst (Passes (λ (row : Row). narrow row && matches f r.kind r.address row)) n (row-passes f r.kind r.address narrow all-narrow) in
            rw n
            (by-test (eqb row.width 1)
            (λ one. taken-byte (profile row.place).writing r.value
            (subst (λ (m : ℕ). r.value < 256 ^ m)
            (sym through.width ∙ ap cell_width true-cell ∙ sym (spoken row (held_cell f.state.chip r.kind r.address) t).width ∙ eqb-true row.width 1 one)
            (value-fits r through.formed w)))
            (λ two. taken-whole (profile row.place).writing r.value
            (not-true (takes_bytes (profile row.place).writing)
            (is_true (not (takes_bytes (profile row.place).writing))
            (either (eqb row.width 1) (not (takes_bytes (profile row.place).writing)) (left (narrow row) (matches f r.kind r.address row) passes-narrow)
            (λ o. true≢false (sym (is_true (eqb row.width 1) o) ∙ two)))))))

    write-decision : is_write r ≡ true → decided_by Cells Stored f r ≡ decision f r
    unfolding decision effect effect_at answer_at decided_write reach_by reach_in stored_bits asks_pixel
    write-decision w =
        decided-write Cells Stored f r cell e w
        ∙ ap (λ (p : Place). decided_write Stored f (profile p).writing r.value) (sym place-there)
        ∙ same-decision same_answer
        (ap₂ (λ (a : Answer) (v : ℕ). cond (refused a) Nothing (write_effect (reach_in f) f (profile (place_of f r)).writing v)) same_answer (value_taken w) ∙ sym (rw (carried ∙ w) refl))
        (sym (rw (carried ∙ w, and-false) refl))
      where
        same_answer : write_answer f (profile (place_of f r)).writing ≡ answer f r
        same_answer = sym (answer-there ∙ rw (carried ∙ w) refl)

    read-decision : is_write r ≡ false → decided_by Cells Stored f r ≡ decision f r
    unfolding decision effect effect_at answer_at decided_read asks_pixel
    read-decision w =
        decided-read Cells Stored f r cell e w
        ∙ ap (λ (p : Place). decided_read f (profile p).reading) (sym place-there)
        ∙ same-decision same_answer
        (ap (λ (a : Answer). cond (refused a) Nothing (read_effect f (profile (place_of f r)).reading)) same_answer ∙ sym (rw (carried ∙ w) refl))
        (pixel-shown f (profile (place_of f r)).reading
        ∙ ap (λ (a : Answer). not (refused a) && reads_pixel (profile (place_of f r)).reading) same_answer ∙ sym (rw (carried ∙ w) refl))
      where
        same_answer : answer_of_read f (profile (place_of f r)).reading ≡ answer f r
        same_answer = sym (answer-there ∙ rw (carried ∙ w) refl)

  -- lines pass
  module _ (e : looked_by Cells f r ≡ Ok Lines) where
    good : lines_pass r ≡ true
    good = lines-told Cells f r e

    carried-lines : carries r ≡ true
    unfolding carries is_write is_passing
    carried-lines = rw (is-passing r good).kind refl

    answered : answer f r ≡ Done 0
    unfolding answer answer_at write_answer profile
    answered =
        passing-through f r (answer_at (carries r) f (place_of f r)) s good ∙ rw (carried-lines, passing-place f r (is-passing r good)) refl

    lines-decision : decided_by Cells Stored f r ≡ decision f r
    unfolding decision effect effect_at decided_write write_answer write_effect taken asks_pixel profile refused code_of
    lines-decision =
        decided-lines Cells Stored f r e
        ∙ same-decision (sym answered) (sym (rw (answered, carried-lines, passing-place f r (is-passing r good)) refl)) (sym (rw (carried-lines, and-false) refl))

  -- 01's answer and effect, by 01's tables
  pub decided-by-tables : decided_by Cells Stored f r ≡ decision f r
  decided-by-tables = by (looked_by Cells f r) refl
    where
      by : (l : Result Meant Answer) → looked_by Cells f r ≡ l → decided_by Cells Stored f r ≡ decision f r
      by (Err a) e = refused-decision a e
      by (Ok Lines) e = lines-decision e
      by (Ok (At cell)) e = by-test (is_write r) (write-decision cell e) (read-decision cell e)
