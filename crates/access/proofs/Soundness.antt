-- An access to a sound file leaves a sound file. Assumes nothing.
use Prim.Native.Nat.{ℕ, ◌+◌}
use mathlib.Core.Path.{◌≡◌, sym, subst}
use mathlib.Core.Bool.{true, false, ◌&&◌}
use native.Mathlib.Nat.{mod-lt}
use native.Mathlib.Omega.{arith}
use lib.Dec.{T, eqb, leb, eqb→eq, le→leb}
use Rattle.bits.specs.Store.{within, store}
use Rattle.bits.proofs.Stored.{within-self}
use Rattle.bits.proofs.Test.{both, right, chosen_by, passes}
use Rattle.file.specs.declared.effect.Effect.{Effect}
use Rattle.file.specs.declared.registers.File.{File}
use Rattle.file.specs.File.{crtc_locked}
use Rattle.file.specs.Names.{CR7}
use Rattle.file.specs.Palette.{after_write, after_read, marks_from, marks_sound, pointer_sound}
use Rattle.file.specs.Registers.{stored_bits}
use Rattle.file.specs.Sound.{sound, keeps}
use Rattle.file.specs.State.{last_line}
use Rattle.file.proofs.Soundness.{apply-sound, apply-chip, addressed-sound, after_write-sound, after_read-sound, marks_from-sound, pointer-sound}
use Rattle.places.specs.Profile.{Reading, Writing, profile}
use Rattle.timing.specs.Timing.{timing_in}
use Rattle.timing.proofs.VerticalNumbers.{total-least, total-most}
use Rattle.access.specs.declared.record.Record.{Record}
use Rattle.access.specs.Access.{place_of, locked_reach, reach_in, v_total, line_shown, line_after, write_effect, read_effect, effect, access}
use Rattle.access.proofs.Refusals.{by_read, by-write, by-effect}

-- what a write may reach is within the stored bits, under the lock too
pub reach-within : (f : File) (number : ℕ) → T (within (stored_bits f.state.chip number) (reach_in f number))
unfolding reach_in locked_reach stored_bits within store
reach-within f number =
    chosen_by (within (stored_bits f.state.chip number)) (crtc_locked f && eqb number CR7) locked_reach (stored_bits f.state.chip number)
    (λ e. subst (λ (n : ℕ). T (within (stored_bits f.state.chip n) locked_reach))
    (sym (eqb→eq number CR7 (right (crtc_locked f) (eqb number CR7) (passes (crtc_locked f && eqb number CR7) e)))) tt)
    (within-self (stored_bits f.state.chip number))

-- lines pass to a sound line: it is below a total of at most 2,049
pub line-after-sound : (f : File) (lines : ℕ) → T (leb (line_after f lines) last_line)
unfolding line_after v_total last_line
line-after-sound f lines =
    le→leb (line_after f lines) 2048
    (omega (arith, mod-lt (line_shown f + lines) {m = (timing_in f).v_total.0} (omega (arith, total-least f)), total-most f))

module _ (f : File) (s : T (sound f)) where
  write_keeps : (writing : Writing) (value : ℕ) → T (keeps f.state.chip (write_effect (reach_in f) f writing value))
  unfolding keeps
  write_keeps writing value =
      by-write (λ (e : Effect). T (keeps f.state.chip e)) (reach_in f) f writing value tt (λ number flips e. reach-within f number)
      (λ reading. addressed-sound reading value) stepped stepped (λ e. tt) (λ e. line-after-sound f value)
    where
      stepped : T (marks_sound (marks_from false f.state.pointer) && pointer_sound (after_write f.state.pointer value))
      stepped =
          both (marks_sound (marks_from false f.state.pointer)) (pointer_sound (after_write f.state.pointer value))
          (marks_from-sound false f.state.pointer) (after_write-sound f.state.pointer value (pointer-sound f s))

  read_keeps : (reading : Reading) → T (keeps f.state.chip (read_effect f reading))
  unfolding keeps
  read_keeps reading =
      by_read (λ (e : Effect). T (keeps f.state.chip e)) f reading tt
      (both (marks_sound (marks_from true f.state.pointer)) (pointer_sound (after_read f.state.pointer))
      (marks_from-sound true f.state.pointer) (after_read-sound f.state.pointer (pointer-sound f s)))
      (λ e. tt)

  pub access-sound : (r : Record) → T (sound (access f r).file)
  unfolding access keeps
  access-sound r =
      apply-sound (effect f r) f
      (by-effect (λ (e : Effect). T (keeps f.state.chip e)) f r tt (λ n w. write_keeps (profile (place_of f r)).writing r.value)
      (read_keeps (profile (place_of f r)).reading)) s

-- 02, 6/13: no access changes the chip
pub access-chip : (f : File) (r : Record) → (access f r).file.state.chip ≡ f.state.chip
unfolding access
access-chip f r = apply-chip (effect f r) f
