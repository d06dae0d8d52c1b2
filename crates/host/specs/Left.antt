-- For a host in C: what an access leaves behind its references.
-- Assumes nothing.
use Rattle.std.specs.Prelude.{ℕ, ◌+◌, ◌*◌, ◌%◌, ◌≡◌, true, false, cond, List, [], ◌∷◌, get_or}
use Rattle.std.proofs.lemmas.List.Edits.{sets}
use Rattle.file.specs.declared.palette.Colour.{Colour}
use Rattle.file.specs.declared.state.State.{State}
use Rattle.file.specs.Answers.{code_of, value_of}
use Rattle.file.specs.File.{bank_count}
use Rattle.access.specs.declared.record.Record.{Record}
use Rattle.access.specs.Access.{access}
use Rattle.trace.specs.declared.running.Served.{Served}
use Rattle.image.specs.Bytes.{colour_bytes}
use Rattle.timing.specs.Timing.{timing_of, write_timing}
use Rattle.image.specs.Parts.{palette_at, bank_at, state_bytes, fits_in, held_in, sound_in}
use Rattle.host.specs.Numbers.{told, not_sound}

-- the colour of three bytes
unfoldable pub colour_at : List ℕ → ℕ → Colour
colour_at rest at = record { red = get_or rest at 0; green = get_or rest (at + 1) 0; blue = get_or rest (at + 2) 0 }

-- the bytes of a rest after a served access: the entry that it paints, where the pointer stood, and the state
unfoldable pub rest_left : State → Served → List ℕ → List ℕ
rest_left stood s rest =
    sets
    (cond s.paints (sets rest (cond s.bank (bank_at + 3 * (stood.pointer.address % bank_count)) (palette_at + 3 * stood.pointer.address)) (colour_bytes (s.colour ∷ []))) rest)
    0
    (state_bytes s.state)

-- an access to a sound file: the file behind the references is the access's, in bytes that are a file's, and the number is its reply's
pub record Accesses (asked : Record) (words bytes words' bytes' : List ℕ) (number : ℕ) : Type 0 where
  pub left : held_in words' bytes' ≡ (access (held_in words bytes) asked).file
  pub fits : fits_in bytes' ≡ true
  pub said : number ≡ told (code_of (access (held_in words bytes) asked).answer) (value_of (access (held_in words bytes) asked).answer)

-- to any other: 12, and all as it was
pub record Refuses (words bytes words' bytes' : List ℕ) (number : ℕ) : Type 0 where
  pub registers : words' ≡ words
  pub rest : bytes' ≡ bytes
  pub said : number ≡ not_sound

pub record AccessLeft (asked : Record) (words bytes words' bytes' : List ℕ) (number : ℕ) : Type 0 where
  pub done : sound_in words bytes ≡ true → Accesses asked words bytes words' bytes' number
  pub refused : sound_in words bytes ≡ false → Refuses words bytes words' bytes' number

-- a timing written: 01's file with the numbers, of any size, in its registers; a rest that is no file's is refused with 12 and the registers as they were
pub record TimingLeft (numbers words bytes words' : List ℕ) (number : ℕ) : Type 0 where
  pub unfit : fits_in bytes ≡ false → (number ≡ 12) × (words' ≡ words)
  pub said : fits_in bytes ≡ true → number ≡ code_of (write_timing (held_in words bytes) (timing_of numbers)).answer
  pub left : fits_in bytes ≡ true → held_in words' bytes ≡ (write_timing (held_in words bytes) (timing_of numbers)).file
