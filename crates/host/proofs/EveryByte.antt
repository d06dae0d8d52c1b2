-- For a host in C: which bytes an access leaves, and that one that 01 refuses leaves every byte.
-- Assumes nothing.
use Prim.Native.Nat.{ℕ, ◌≤◌, ◌<◌}
use mathlib.Core.Path.{◌≡◌, refl, sym, ap, ◌∙◌}
use mathlib.Core.Bool.{Bool, true, false}
use mathlib.Core.List.{List}
use native.Mathlib.Omega.{arith}
use lib.Dec.{T, leb}
use lib.ListN.{length, get_or}
use lib.Seq.{sets, sets-eq, length-sets}
use Rattle.bits.proofs.Test.{by-test, left, passes, is_true}
use Rattle.file.specs.declared.chip.Chip.{Chip}
use Rattle.file.specs.declared.chip.Chip.TheVariants.{Gd5462, Gd5464}
use Rattle.file.specs.declared.registers.File.{File}
use Rattle.file.specs.declared.state.State.{State}
use Rattle.file.specs.Answers.{refused}
use Rattle.file.specs.Sound.{sound}
use Rattle.access.specs.declared.record.Record.{Record}
use Rattle.access.specs.Access.{answer, access}
use Rattle.access.proofs.Refusals.{refusal-leaves}
use Rattle.trace.specs.declared.running.Served.{Served}
use Rattle.image.specs.Bytes.{flag_byte}
use Rattle.image.specs.Parts.{rest_count, chip_byte, state_bytes, fits_in, rest_of, held_in, sound_in}
use Rattle.image.proofs.RestKept.{rest-kept}
use Rattle.host.specs.Left.{rest_left, Accesses, AccessLeft}

-- ---- the bytes of a state are 0 or 1 where they must be

flag-fits : (flag : Bool) → leb (flag_byte flag) 1 ≡ true
unfolding flag_byte
flag-fits true = refl
flag-fits false = refl

chip-fits : (chip : Chip) → leb (chip_byte chip) 1 ≡ true
unfolding chip_byte
chip-fits Gd5462 = refl
chip-fits Gd5464 = refl

pub state-fits : (rest : List ℕ) (s : State) → 10 ≤ length rest → fits_in (sets rest 0 (state_bytes s)) ≡ true
unfolding fits_in state_bytes
state-fits rest s h = ap fits_in (sets-eq (state_bytes s) rest 0 h) ∙ rw (flag-fits s.pointer.reading, flag-fits s.toggle, chip-fits s.chip)

pub left-fits : (stood : State) (s : Served) (rest : List ℕ) → length rest ≡ rest_count → fits_in (rest_left stood s rest) ≡ true
unfolding rest_left
left-fits stood s rest long =
    by-test s.paints (λ p. rw p (state-fits _ s.state (simp length-sets (omega (arith, long))))) (λ p. rw p (state-fits rest s.state (omega (arith, long))))

-- ---- an access, by its contract; that there are 826 bytes and each is below 256 is what a lent array of bytes is

module _ (asked : Record) (words bytes words' bytes' : List ℕ) (number : ℕ) (long' : length bytes' ≡ rest_count) (low' : get_or bytes' 0 0 < 256) where
  -- every byte is the new file's
  pub every_byte : Accesses asked words bytes words' bytes' number → bytes' ≡ rest_of (access (held_in words bytes) asked).file
  every_byte a = sym (rest-kept words' bytes' long' a.fits low') ∙ ap rest_of a.left

  -- and what 01 refuses leaves every register and every byte
  pub access-refused : length bytes ≡ rest_count → get_or bytes 0 0 < 256 → AccessLeft asked words bytes words' bytes' number → T (refused (answer (held_in words bytes) asked))
      → (words' ≡ words) × (bytes' ≡ bytes)
  unfolding held_in sound_in
  access-refused long low a t =
      by-test (sound_in words bytes)
      (λ s. let same = refusal-leaves (held_in words bytes) asked t in (
        ap (λ (f : File). f.registers) ((a.done s).left ∙ same),
        every_byte (a.done s) ∙ ap rest_of same ∙ rest-kept words bytes long (is_true (fits_in bytes) (left (fits_in bytes) (sound (held_in words bytes)) (passes _ s))) low,
      ))
      (λ n. ((a.refused n).registers, (a.refused n).rest))
