-- What the engine goes by, and nobody beside 01 needs: answer and effect of a record in a file of which only registers and state are looked at, by
-- whatever tables of cells and stored bits are lent. That this is 01's answer by 01's tables is a law (`decided-by-tables`).
-- Assumes nothing.
use Rattle.std.specs.Prelude.{ℕ, ◌/◌, Bool, false, cond, not, ◌&&◌, ◌||◌, List, eqb, ltb, get_or, Result, Ok, Err}
use Rattle.bits.specs.Store.{bit}
use Rattle.file.specs.declared.answer.Answer.{Answer}
use Rattle.file.specs.declared.answer.Answer.TheVariants.{Malformed, SpaceOff, NotHeld, OtherHalf, WrongWidth, OtherDirection, InsideWider}
use Rattle.file.specs.declared.effect.Effect.{Effect}
use Rattle.file.specs.declared.effect.Effect.TheVariants.{Nothing}
use Rattle.file.specs.declared.registers.File.{File}
use Rattle.file.specs.Answers.{refused}
use Rattle.file.specs.File.{register, crtc_locked}
use Rattle.file.specs.Names.{MISC, CR7}
use Rattle.places.specs.declared.place.Place.{Place}
use Rattle.places.specs.EngineCells.{other_way_held, wider_held, is_nothing, cell_in, cell_width, cell_place, taken}
use Rattle.places.specs.Profile.{Reading, Writing, passes_lines, profile, reads_pixel}
use Rattle.access.specs.declared.engine.Decision.{Decision}
use Rattle.access.specs.declared.engine.Meant.{Meant}
use Rattle.access.specs.declared.engine.Meant.TheVariants.{At, Lines}
use Rattle.access.specs.declared.record.Record.{Record}
use Rattle.access.specs.Access.{locked_reach, palette_up, answer_of_read, write_answer, read_effect, write_effect, answer, effect, place_of}
use Rattle.access.specs.Checks.{is_write, is_passing, carries, is_port, bad_access, bad_passing, space_off}

-- code 5, of an address that is held: of the ports, 3B?h and 3D?h are the CRTC's
unfoldable pub other_row : File → Record → Bool
other_row f r =
    is_port r
    && (eqb (r.address / 16) 0x3B && eqb (bit 0 (register f MISC)) 1 || eqb (r.address / 16) 0x3D && eqb (bit 0 (register f MISC)) 0)

-- 02, 2/13: which of 16, 17 and 4 the cell of an address that is not held means
unfoldable pub nothing_told : ℕ → Answer
nothing_told cell = cond (eqb cell other_way_held) OtherDirection (cond (eqb cell wider_held) InsideWider NotHeld)

-- a record that is no ordinary access in good form
unfoldable pub no_access : Record → Bool
no_access r = ltb 5 r.kind || bad_access r

-- 02, 10/13: a record of kind 6 in good form
unfoldable pub lines_pass : Record → Bool
lines_pass r = is_passing r && not (bad_passing r)

-- 'Access checks run .. 2, 3, 4, 5, 6', by the cell of the record's kind and address; lines that pass are told among what is no access, and have no cell
unfoldable pub looked_by : List ℕ → File → Record → Result Meant Answer
looked_by cells f r =
    let cell = cell_in cells r.kind r.address in
    cond (no_access r) (cond (lines_pass r) (Ok Lines) (Err Malformed))
    (cond (space_off f r) (Err SpaceOff)
    (cond (is_nothing cell) (Err (nothing_told cell))
    (cond (other_row f r) (Err OtherHalf) (cond (eqb (cell_width cell) r.width) (Ok (At cell)) (Err WrongWidth)))))

-- the bits of a register that a write may change, by a table of stored bits
unfoldable pub reach_by : List ℕ → File → ℕ → ℕ
reach_by stored f number = cond (crtc_locked f && eqb number CR7) locked_reach (get_or stored number 0)

-- an answer, and unless it is a refusal an effect; whether what was read is the pixel that the pointer names
abbrev pub deciding : Answer → Effect → Bool → Decision
deciding a e pixel = record { answer = a; effect = cond (refused a) Nothing e; pixel = pixel }

unfoldable pub decided_write : List ℕ → File → Writing → ℕ → Decision
decided_write stored f writing value =
    deciding (write_answer f writing) (write_effect (reach_by stored f) f writing (taken writing value)) false

unfoldable pub decided_read : File → Reading → Decision
decided_read f reading = deciding (answer_of_read f reading) (read_effect f reading) (reads_pixel reading && palette_up f)

unfoldable pub decided_at : List ℕ → Bool → File → Place → ℕ → Decision
decided_at stored write f place value =
    cond write (decided_write stored f (profile place).writing value) (decided_read f (profile place).reading)

unfoldable pub decided_from : List ℕ → List ℕ → File → Record → Result Meant Answer → Decision
decided_from cells stored f r (Err a) = record { answer = a; effect = Nothing; pixel = false }
decided_from cells stored f r (Ok (At cell)) = decided_at stored (is_write r) f (cell_place cells f cell) r.value
decided_from cells stored f r (Ok Lines) = decided_write stored f passes_lines r.value

unfoldable pub decided_by : List ℕ → List ℕ → File → Record → Decision
decided_by cells stored f r = decided_from cells stored f r (looked_by cells f r)

-- a record that is answered with a pixel's component
unfoldable pub asks_pixel : File → Record → Bool
asks_pixel f r = not (refused (answer f r)) && (not (carries r) && reads_pixel (profile (place_of f r)).reading)

-- the answer and the effect of a record by the rules
unfoldable pub decision : File → Record → Decision
decision f r = record { answer = answer f r; effect = effect f r; pixel = asks_pixel f r }
