-- At line 0 the display is neither past its end nor, unless that starts there, in vertical sync. Assumes nothing.
use Prim.Native.Nat.{ℕ, ◌%◌, ◌<◌}
use mathlib.Core.Path.{◌≡◌, refl, sym, ap, ◌∙◌, subst}
use mathlib.Core.List.{List}
use native.Mathlib.Nat.{zero-mod}
use borrow.Author.Tests.{lt-leb}
use Rattle.file.specs.declared.state.State.{State}
use Rattle.file.specs.File.{seen, register}
use Rattle.file.specs.State.{unasked}
use Rattle.timing.specs.Table.{wide}
use Rattle.timing.specs.Timing.{timing_in}
use Rattle.access.specs.Access.{v_total, v_display, v_sync_start, line_shown, in_sync, past_display, display_state}

module _ (registers : List ℕ) (s : State) where
  start-alike : v_sync_start (seen registers unasked) ≡ v_sync_start (seen registers s)
  unfolding v_sync_start timing_in wide seen register
  start-alike = refl

  display-alike : v_display (seen registers unasked) ≡ v_display (seen registers s)
  unfolding v_display timing_in wide seen register
  display-alike = refl

  first : s.line ≡ 0 → line_shown (seen registers s) ≡ 0
  unfolding line_shown seen
  first line = ap (λ (n : ℕ). n % v_total (seen registers s)) line ∙ zero-mod (v_total (seen registers s))

  pub at-line-zero : s.line ≡ 0 → 0 < v_sync_start (seen registers unasked) → 0 < v_display (seen registers unasked) → 0 ≡ display_state (seen registers s)
  unfolding display_state in_sync past_display
  at-line-zero line start shown =
      sym
      (rw (first line, lt-leb (v_sync_start (seen registers s)) 0 (subst (λ (n : ℕ). 0 < n) start-alike start), lt-leb (v_display (seen registers s)) 0 (subst (λ (n : ℕ). 0 < n) display-alike shown)))
