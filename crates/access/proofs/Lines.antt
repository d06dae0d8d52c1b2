-- 02, 10/13: lines that pass move the line and nothing else, whatever space is off; no other access moves it, those that show it neither.
-- Assumes nothing.
use Prim.Native.Nat.{ℕ, ◌≤◌, ◌<◌}
use mathlib.Core.Path.{◌≡◌, refl, sym, ap, ◌∙◌}
use mathlib.Core.Bool.{true, false, not}
use native.Mathlib.Nat.{mod-lt}
use native.Mathlib.Omega.{arith}
use borrow.Author.Tests.{le-leb, not-true}
use lib.Dec.{T, leb, leb→le, ltb→lt}
use Rattle.bits.proofs.Test.{either, is_true}
use Rattle.file.specs.declared.answer.Answer.TheVariants.{Done}
use Rattle.file.specs.declared.effect.Effect.{Effect}
use Rattle.file.specs.declared.effect.Effect.TheVariants.{Pass}
use Rattle.file.specs.declared.registers.File.{File}
use Rattle.file.specs.Answers.{code_of, refused}
use Rattle.file.specs.Effects.{apply, reach_of}
use Rattle.file.specs.File.{with_line}
use Rattle.file.specs.Sound.{sound}
use Rattle.places.specs.Profile.{Reading, Writing, profile, lets_pass}
use Rattle.places.proofs.RulesOfPlaces.{line_rule, line-rule}
use Rattle.timing.proofs.VerticalNumbers.{total-least}
use Rattle.access.specs.declared.record.Record.{Record}
use Rattle.access.specs.Access.{place_of, reach_in, v_total, line_shown, line_after, write_answer, answer_at, write_effect, read_effect, effect_at, answer, effect, reach, access}
use Rattle.access.specs.Checks.{is_write, is_passing, ordinary, carries, bad_passing}
use Rattle.access.specs.Engine.{lines_pass}
use Rattle.access.specs.Promises.{passing}
use Rattle.access.proofs.ChecksInOrder.{passing-place, passing-through}
use Rattle.access.proofs.PassedChecks.{is-passing}
use Rattle.access.proofs.Reach.{outside-reach}
use Rattle.access.proofs.Refusals.{by_read, by-write, by-effect}

-- ---- kind 6

module _ (f : File) (lines : ℕ) (s : T (sound f)) (least : 1 ≤ lines) (most : lines ≤ 65535) where
  good : lines_pass (passing lines) ≡ true
  unfolding lines_pass is_passing bad_passing
  good = rw (le-leb 1 lines least, le-leb lines 65535 most) refl

  -- 'Kind 6 replies 0 with value 0 and needs no space enabled'
  pub passing-done : answer f (passing lines) ≡ Done 0
  unfolding answer answer_at carries is_write is_passing write_answer profile
  passing-done =
      passing-through f (passing lines) _ s good ∙ rw (passing-place f (passing lines) (is-passing (passing lines) good)) refl

  passing-effect : effect f (passing lines) ≡ Pass (line_after f lines)
  unfolding effect effect_at carries is_write is_passing write_effect profile refused code_of
  passing-effect = rw (passing-done, passing-place f (passing lines) (is-passing (passing lines) good)) refl

  -- its reach names the line and nothing else
  pub passing-reach : reach f (passing lines) ≡ reach_of (Pass (line_after f lines))
  unfolding reach
  passing-reach = ap reach_of passing-effect

  pub passing-moves : (access f (passing lines)).file ≡ with_line (line_after f lines) f
  unfolding access apply
  passing-moves = ap (λ (e : Effect). apply e f) passing-effect

-- the line as it is shown, and as it is after some more, is below the total
pub shown-below : (f : File) → line_shown f < v_total f
unfolding line_shown v_total
shown-below f = mod-lt f.state.line (omega (arith, total-least f))

-- ---- every other access leaves the line

write-leaves-line : (f : File) (writing : Writing) (value : ℕ) → lets_pass writing ≡ false → (reach_of (write_effect (reach_in f) f writing value)).line ≡ false
unfolding reach_of lets_pass
write-leaves-line f writing value h =
    by-write (λ (e : Effect). (reach_of e).line ≡ false) (reach_in f) f writing value refl
    (λ number flip e. refl) (λ reading. refl) refl refl (λ e. refl) (λ e. sym (ap lets_pass e) ∙ h)

read-leaves-line : (f : File) (reading : Reading) → (reach_of (read_effect f reading)).line ≡ false
unfolding reach_of
read-leaves-line f reading = by_read (λ (e : Effect). (reach_of e).line ≡ false) f reading refl refl (λ e. refl)

-- 'Both reads .. store nothing of it', and no ordinary access does
pub ordinary-line : (f : File) (r : Record) → T (ordinary r) → (access f r).file.state.line ≡ f.state.line
unfolding ordinary line_rule reach reach_of place_of
ordinary-line f r low =
    (outside-reach f r).line
    (by-effect (λ (e : Effect). (reach_of e).line ≡ false) f r refl
    (λ n w. write-leaves-line f (profile (place_of f r)).writing r.value still) (read-leaves-line f (profile (place_of f r)).reading))
  where
    still : lets_pass (profile (place_of f r)).writing ≡ false
    still =
        not-true _
        (is_true _ (either (leb 6 r.kind) (not (lets_pass (profile (place_of f r)).writing)) (line-rule f r.kind r.address) kind))
      where
        kind : T (leb 6 r.kind) → ⊥
        kind t = absurd (omega (arith, leb→le 6 r.kind t, ltb→lt r.kind 6 low))
