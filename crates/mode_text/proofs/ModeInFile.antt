-- A file that a mode was put into has the mode's timing and the mode's flags. Assumes nothing.
use Prim.Native.Nat.{ℕ, ◌<◌}
use mathlib.Core.Bool.{Bool, true, false, ◌||◌}
use mathlib.Core.List.{List, [], ◌∷◌}
use mathlib.Core.Path.{◌≡◌, refl, sym, ap, ◌∙◌, subst}
use native.Mathlib.Omega.{arith}
use lib.Dec.{T, eqb}
use lib.ListN.{set, length, get_or}
use lib.Seq.{get_or-set_other}
use Rattle.bits.proofs.Test.{is_true}
use Rattle.bits.specs.Numbers.{read_from, read_numbers}
use Rattle.bits.specs.Pieces.{gather, held}
use Rattle.bits.specs.Store.{bit, store}
use Rattle.file.proofs.Reached.{stored-inside}
use Rattle.file.proofs.Soundness.{sound-count}
use Rattle.file.specs.Answers.{code_of, refused}
use Rattle.file.specs.Effects.{apply, store_in}
use Rattle.file.specs.File.{register, with_registers, with_state}
use Rattle.file.specs.Names.{MISC, CR1B}
use Rattle.file.specs.Sound.{sound}
use Rattle.file.specs.State.{flipped}
use Rattle.file.specs.declared.answer.Answer.{Answer}
use Rattle.file.specs.declared.answer.Answer.TheVariants.{Done}
use Rattle.file.specs.declared.registers.File.{File}
use Rattle.timing.proofs.Writer.{timing-sound, reads-back}
use Rattle.timing.specs.Table.{table, wide}
use Rattle.timing.specs.Timing.{timing_of, timing_in, timing_answer, with_timing, write_timing, written_file}
use Rattle.timing.specs.declared.Timing.{Timing}
use Rattle.modes.specs.declared.mode.Mode.{Mode}
use Rattle.mode_file.specs.Said.{timing_said, flag_bits, flag_reach, flag_store, with_mode}
use Rattle.mode_text.specs.Out.{minus_in}
use Rattle.mode_text.proofs.Joined.{timing-read}

-- MISC has no timing number
misc-apart : (w : Bool) (xs : List ℕ) (v : ℕ) → read_numbers (table w) (set xs MISC v) ≡ read_numbers (table w) xs
unfolding read_numbers read_from gather held table
misc-apart w [] v = refl
misc-apart true (x ∷ xs) v = refl
misc-apart false (x ∷ xs) v = refl

-- so a store into MISC leaves a file's timing
store_apart : (h v : Bool) (x : File) → timing_in (apply (flag_store h v) x) ≡ timing_in x
unfolding timing_in apply flag_store flag_reach with_state flipped store_in with_registers wide register
store_apart h v x =
    let value : ℕ = store 0xC0 (get_or x.registers MISC 0) (flag_bits h v) in
    ap (λ (cr1b : ℕ). timing_of (read_numbers (table (eqb (bit 5 cr1b) 1 || eqb (bit 7 cr1b) 1)) (set x.registers MISC value)))
    (get_or-set_other x.registers MISC CR1B value 0 (λ e. omega (arith, e)))
    ∙ ap timing_of (misc-apart (wide x) x.registers value)

-- and its flags are those that were stored
flag-bits : (h v : Bool) → (eqb (bit 6 (flag_bits h v)) 1 ≡ h) × (eqb (bit 7 (flag_bits h v)) 1 ≡ v)
unfolding flag_bits bit
flag-bits true true = (refl, refl)
flag-bits true false = (refl, refl)
flag-bits false true = (refl, refl)
flag-bits false false = (refl, refl)

store-flags : (h v : Bool) (x : File) → 0 < length x.registers → (minus_in (apply (flag_store h v) x) 6 ≡ h) × (minus_in (apply (flag_store h v) x) 7 ≡ v)
unfolding minus_in apply flag_store flag_reach with_state flipped register store_in with_registers bit
store-flags h v x n = (
  ap (λ (b : ℕ). eqb b 1) (stored-inside x MISC 0xC0 (flag_bits h v) 6 n refl) ∙ (flag-bits h v).0,
  ap (λ (b : ℕ). eqb b 1) (stored-inside x MISC 0xC0 (flag_bits h v) 7 n refl) ∙ (flag-bits h v).1,
)

module _ (f : File) (m : Mode) (s : T (sound f)) (a : timing_answer f (timing_said m.numbers) ≡ Done 0) where
  abbrev said : Timing
  said = timing_said m.numbers

  written : (write_timing f said).file ≡ with_timing said f
  unfolding write_timing written_file refused code_of
  written = ap (λ (x : Answer). written_file x said f) a

  pub mode-timing : timing_in (with_mode m f) ≡ said
  unfolding with_mode
  mode-timing =
      store_apart m.h_minus m.v_minus (with_timing said f)
      ∙ ap timing_in (sym written)
      ∙ sym (timing-read (write_timing f said).file (record { answer = Done 0; timing = said }) (is_true _ (timing-sound f said s)) (sym (reads-back f said a)))

  pub mode-flags : (minus_in (with_mode m f) 6 ≡ m.h_minus) × (minus_in (with_mode m f) 7 ≡ m.v_minus)
  unfolding with_mode
  mode-flags =
      let still : T (sound (with_timing said f)) = subst (λ (x : File). T (sound x)) written (timing-sound f said s) in
      store-flags m.h_minus m.v_minus (with_timing said f) (omega (arith, sound-count (with_timing said f) still))
