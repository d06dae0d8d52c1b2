-- The line as the engine shows it and lets it pass, by the numbers that it reads from the registers alone. Assumes nothing.
use Prim.Native.Nat.{ℕ, ◌+◌, ◌%◌, ◌<◌, ◌≤◌}
use mathlib.Core.Path.{◌≡◌, refl, sym, ap, ap₂, subst, ◌∙◌}
use mathlib.Core.Bool.{Bool, true, false, cond, ◌&&◌}
use mathlib.Core.List.{List}
use native.Mathlib.Omega.{arith}
use borrow.Author.Tests.{le-leb, lt-leb}
use lib.Dec.{leb, ltb}
use Rattle.file.specs.declared.state.State.{State}
use Rattle.file.specs.File.{register, seen}
use Rattle.file.specs.State.{unasked}
use Rattle.timing.specs.declared.Scanlines.{Scanlines}
use Rattle.timing.specs.declared.Timing.{Timing}
use Rattle.timing.specs.Table.{wide}
use Rattle.timing.specs.Timing.{timing_in}
use Rattle.timing.proofs.VerticalNumbers.{total-least, total-most}
use Rattle.access.specs.Access.{v_total, v_display, v_sync_start, v_sync_end, line_shown, line_after, in_sync, past_display, display_state}

module _ (registers : List ℕ) (state : State) where
  -- timing goes by the registers
  pub timing-alike : timing_in (seen registers unasked) ≡ timing_in (seen registers state)
  unfolding timing_in wide seen register
  timing-alike = refl

  module _ (total : Scanlines) (e : total ≡ (timing_in (seen registers unasked)).v_total) where
    read-total : total.0 ≡ v_total (seen registers state)
    unfolding v_total
    read-total = ap (λ (s : Scanlines). s.0) e ∙ ap (λ (t : Timing). t.v_total.0) timing-alike

    pub total-some : 0 < total.0
    total-some = subst (λ (s : Scanlines). 0 < s.0) (sym e) (omega (arith, total-least (seen registers unasked)))

    pub total-fits : total.0 < 2050
    total-fits = subst (λ (s : Scanlines). s.0 < 2050) (sym e) (omega (arith, total-most (seen registers unasked)))

    pub shown_by : state.line % total.0 ≡ line_shown (seen registers state)
    unfolding line_shown seen
    shown_by = ap (λ (n : ℕ). state.line % n) read-total

    pub after-by : (lines : ℕ) → (state.line % total.0 + lines) % total.0 ≡ line_after (seen registers state) lines
    unfolding line_after
    after-by lines = ap₂ (λ (line n : ℕ). (line + lines) % n) shown_by read-total

-- vertical sync, by its start and its end
module _ (registers : List ℕ) (line : ℕ) (start : Scanlines) (e : start ≡ (timing_in (seen registers unasked)).v_sync_start) where
  abbrev Sync : Bool
  Sync = leb (v_sync_start (seen registers unasked)) line && ltb line (v_sync_end (seen registers unasked))

  pub before-sync : line < start.0 → false ≡ Sync
  unfolding v_sync_start
  before-sync h =
      sym (ap (λ (s : Scanlines). leb s.0 line && ltb line (v_sync_end (seen registers unasked))) (sym e) ∙ rw (lt-leb start.0 line h) refl)

  pub until_end : (end : Scanlines) → end ≡ (timing_in (seen registers unasked)).v_sync_end → start.0 ≤ line → ltb line end.0 ≡ Sync
  unfolding v_sync_start v_sync_end
  until_end end d h =
      sym (ap₂ (λ (s t : Scanlines). leb s.0 line && ltb line t.0) (sym e) (sym d) ∙ rw (le-leb start.0 line h) refl)

-- what 3?Ah reads
pub display-by : (registers : List ℕ) (state : State) (line : ℕ) → line ≡ line_shown (seen registers state)
    → (sync : Bool) → sync ≡ (leb (v_sync_start (seen registers unasked)) line && ltb line (v_sync_end (seen registers unasked)))
    → (display : Scanlines) → display ≡ (timing_in (seen registers unasked)).v_display
    → cond sync 0x08 0x00 + cond (leb display.0 line) 0x01 0x00 ≡ display_state (seen registers state)
unfolding display_state in_sync past_display v_sync_start v_sync_end v_display timing_in wide seen register
display-by registers state line l sync s display d =
    ap₂ (λ (a b : Bool). cond a 0x08 0x00 + cond b 0x01 0x00)
    (s ∙ ap (λ (n : ℕ). leb (v_sync_start (seen registers unasked)) n && ltb n (v_sync_end (seen registers unasked))) l)
    (ap₂ (λ (s : Scanlines) (n : ℕ). leb s.0 n) d l)

-- its two bits fit
pub bits_fit : (a b : Bool) → cond a 0x08 0x00 + cond b 0x01 0x00 < 10
bits_fit true true = omega arith
bits_fit true false = omega arith
bits_fit false true = omega arith
bits_fit false false = omega arith
