-- 02, 7/13: B0[7], CR1A[3] and CR1A[2] each stop the palette, and nothing else does. While it is stopped no access moves an entry or the marks.
-- Assumes nothing.
use Prim.Native.Nat.{ℕ}
use mathlib.Core.Path.{◌≡◌, refl, sym, ap, ◌∙◌}
use mathlib.Core.Bool.{true, false, true≢false}
use mathlib.Core.Logic.{inl, inr, ⊎_elim}
use native.Mathlib.Omega.{arith}
use borrow.Author.Tests.{eqb-false}
use lib.Dec.{eqb}
use Rattle.bits.specs.Store.{bit}
use Rattle.bits.proofs.Bit.{bit-lt}
use Rattle.bits.proofs.Test.{by-test, and-false}
use Rattle.file.specs.declared.effect.Effect.{Effect}
use Rattle.file.specs.declared.effect.Effect.TheVariants.{Nothing}
use Rattle.file.specs.declared.registers.File.{File}
use Rattle.file.specs.Answers.{code_of, refused}
use Rattle.file.specs.Effects.{apply}
use Rattle.file.specs.File.{register}
use Rattle.file.specs.Names.{CR1A, B0}
use Rattle.places.specs.Profile.{Reading, gives_held, gives_fixed, gives_device_id, gives_toggle, gives_palette_state, gives_vport_state, gives_dac_state, gives_address, gives_pixel, resets_toggle, gives_line, names_nothing, Writing, stores_to, read_only, sets_address, writes_pixel, stores_nothing, passes_lines, profile}
use Rattle.access.specs.declared.record.Record.{Record}
use Rattle.access.specs.Access.{place_of, reach_in, palette_up, answer_of_read, write_answer, answer_at, read_effect, write_effect, effect_at, answer, effect, access}
use Rattle.access.specs.Checks.{carries}
use Rattle.access.specs.Promises.{Stopped, SameColours}
use Rattle.access.proofs.Codes.{place-answers}

-- ---- what stops the palette

pub stopped-down : (f : File) → Stopped f → palette_up f ≡ false
unfolding palette_up
stopped-down f = ⊎_elim (λ e. rw e) (⊎_elim (λ e. rw (e, and-false)) (λ e. rw (e, and-false)))

-- a bit that is not 0 is 1
one : (i n : ℕ) → eqb (bit i n) 0 ≡ false → bit i n ≡ 1
one i n e = omega (arith, bit-lt i n, eqb-false (bit i n) 0 e)

pub down-stopped : (f : File) → palette_up f ≡ false → Stopped f
unfolding palette_up
down-stopped f e =
    by-test (eqb (bit 7 (register f B0)) 0)
    (λ a. by-test (eqb (bit 3 (register f CR1A)) 0)
    (λ b. inr (inr (one 2 (register f CR1A) (rw (a, b) at e)))) (λ b. inr (inl (one 3 (register f CR1A) b))))
    (λ a. inl (one 7 (register f B0) a))

-- ---- what a stopped palette keeps

module _ (f : File) (down : palette_up f ≡ false) where
  abbrev Keeps : Effect → Type 0
  Keeps e = SameColours f (apply e f)

  nothing-keeps : Keeps Nothing
  unfolding apply
  nothing-keeps = record { palette = refl; bank = refl; marks = refl }

  read_keeps : (reading : Reading) → refused (answer_of_read f reading) ≡ false → Keeps (read_effect f reading)
  unfolding answer_of_read read_effect refused code_of apply
  read_keeps (gives_held number) n = nothing-keeps
  read_keeps (gives_fixed value) n = nothing-keeps
  read_keeps gives_device_id n = nothing-keeps
  read_keeps gives_toggle n = nothing-keeps
  read_keeps gives_palette_state n = nothing-keeps
  read_keeps gives_vport_state n = nothing-keeps
  read_keeps gives_dac_state n = nothing-keeps
  read_keeps gives_address n = nothing-keeps
  read_keeps gives_pixel n = absurd (true≢false (rw down at n))
  read_keeps resets_toggle n = record { palette = refl; bank = refl; marks = refl }
  read_keeps gives_line n = nothing-keeps
  read_keeps names_nothing n = nothing-keeps

  write_keeps : (writing : Writing) (value : ℕ) → refused (write_answer f writing) ≡ false → Keeps (write_effect (reach_in f) f writing value)
  unfolding write_answer write_effect refused code_of apply
  write_keeps (stores_to number flips) value n = record { palette = refl; bank = refl; marks = refl }
  write_keeps read_only value n = nothing-keeps
  write_keeps (sets_address reading) value n = record { palette = refl; bank = refl; marks = refl }
  write_keeps writes_pixel value n = absurd (true≢false (rw down at n))
  write_keeps (stores_nothing true) value n = record { palette = refl; bank = refl; marks = refl }
  write_keeps (stores_nothing false) value n = nothing-keeps
  write_keeps passes_lines value n = record { palette = refl; bank = refl; marks = refl }

  effect-keeps : (r : Record) → Keeps (effect f r)
  unfolding effect effect_at answer_at
  effect-keeps r =
      by-test (refused (answer f r)) (λ e. rw e nothing-keeps)
      (λ e.
      let there = sym (ap refused (place-answers f r e)) ∙ e in
      rw e
      (by-test (carries r)
      (λ w. rw w (write_keeps (profile (place_of f r)).writing r.value (rw w at there)))
      (λ w. rw w (read_keeps (profile (place_of f r)).reading (rw w at there)))))

-- while the palette is stopped no access moves an entry or the marks
pub stopped-holds : (f : File) (r : Record) → Stopped f → SameColours f (access f r).file
unfolding access
stopped-holds f r s = effect-keeps f (stopped-down f s) r
