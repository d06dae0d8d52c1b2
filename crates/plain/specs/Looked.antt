-- 01, 'Access checks run 12, 2, 3, 4, 5, 6', and 02, 2/13, '16 is tested before 17 and 17 before 4', read off rows: what the checks say of a record.
-- Assumes nothing.
use Rattle.std.specs.Prelude.{cond, List, eqb, Option, Some, None, Result, Ok, Err}
use Rattle.std.specs.List.{find, list_any}
use Rattle.file.specs.declared.answer.Answer.{Answer}
use Rattle.file.specs.declared.answer.Answer.TheVariants.{Malformed, SpaceOff, NotHeld, OtherHalf, WrongWidth, NotSound, OtherDirection, InsideWider}
use Rattle.file.specs.declared.chip.Chip.{Chip}
use Rattle.file.specs.declared.registers.File.{File}
use Rattle.file.specs.Sound.{sound}
use Rattle.places.specs.Lookup.{other_way}
use Rattle.access.specs.declared.record.Record.{Record}
use Rattle.access.specs.Checks.{malformed, space_off, of_other_half}
use Rattle.plain.specs.declared.row.Row.{Row}
use Rattle.plain.specs.Walk.{fits, holds, inside}

-- codes 16, 17 and 4, where no row fits
unfoldable pub nothing_there : List Row → Chip → Record → Answer
nothing_there rows chip r =
    cond (list_any (holds chip (other_way r.kind) r.address) rows) OtherDirection
    (cond (list_any (inside chip r.kind r.address) rows) InsideWider NotHeld)

-- by what the walk found: then 5, and 6, 'width is not the register's'
unfoldable pub looked_at : List Row → File → Record → Option Row → Result Row Answer
looked_at rows f r None = Err (nothing_there rows f.state.chip r)
looked_at rows f r (Some row) =
    cond (of_other_half f r) (Err OtherHalf) (cond (eqb row.width r.width) (Ok row) (Err WrongWidth))

unfoldable pub looked_over : List Row → File → Record → Result Row Answer
looked_over rows f r =
    cond (sound f)
    (cond (malformed f r) (Err Malformed)
    (cond (space_off f r) (Err SpaceOff) (looked_at rows f r (find (fits f r.kind r.address) rows))))
    (Err NotSound)
