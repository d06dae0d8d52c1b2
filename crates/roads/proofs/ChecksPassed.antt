-- A record that passes the checks is answered by its place, and does what its place does. Assumes nothing.
use Prim.Native.Nat.{ℕ}
use mathlib.Core.Path.{◌≡◌}
use mathlib.Core.Bool.{true, false}
use mathlib.Core.Option.{some}
use lib.Dec.{T, eqb}
use Rattle.bits.proofs.Test.{is_true}
use Rattle.file.specs.declared.answer.Answer.TheVariants.{Done}
use Rattle.file.specs.declared.registers.File.{File}
use Rattle.file.specs.Answers.{code_of, refused}
use Rattle.file.specs.Effects.{apply}
use Rattle.file.specs.Sound.{sound}
use Rattle.access.specs.declared.record.Record.{Record}
use Rattle.access.specs.Access.{answer_at, effect_at, answer, effect, access, place_of}
use Rattle.access.specs.Checks.{carries, checks, first_refusal, not_sound, malformed, space_off, no_row, not_held, other_direction, inside_wider, of_other_half, other_width, wrong_width}
use Rattle.places.specs.Lookup.{row_at, place_of_row, place_at}
use Rattle.places.specs.Places.{Row}

-- the checks 12, 2, 3, 4, 5 and 6, each passed
pub record PassesChecks (f : File) (r : Record) (row : Row) : Type 0 where
  pub is_sound : T (sound f)
  pub formed : malformed f r ≡ false
  pub on : space_off f r ≡ false
  pub found : row_at f r.kind r.address ≡ some row
  pub half : of_other_half f r ≡ false
  pub width : eqb row.width r.width ≡ true

pub answered-by-place : (f : File) (r : Record) (row : Row) → PassesChecks f r row → answer f r ≡ answer_at (carries r) f row.place
unfolding answer checks first_refusal not_sound other_direction inside_wider not_held no_row wrong_width other_width place_of place_at place_of_row
answered-by-place f r row p = simp (is_true (sound f) p.is_sound, p.formed, p.on, p.found, p.half, p.width)

-- an accepted record does what its place does
pub does-as-place : (f : File) (r : Record) (row : Row) (value : ℕ) → row_at f r.kind r.address ≡ some row → answer f r ≡ Done value
    → (access f r).file ≡ apply (effect_at (carries r) f row.place r.value) f
unfolding access effect refused code_of place_of place_at place_of_row
does-as-place f r row value found done = simp (done, found)
