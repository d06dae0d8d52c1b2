-- However an input is cut into parts, the reports that are put out, and then the closing, are those of all its lines. Assumes nothing.
use Prim.Native.Nat.{ℕ, zero, suc, ◌+◌, ◌-◌, ◌≤◌, ◌<◌}
use mathlib.Core.Bool.{Bool, false}
use mathlib.Core.List.{List, [], ◌∷◌, ◌++◌, append-nil}
use mathlib.Core.Path.{◌≡◌, refl, sym, ap, ◌∙◌}
use native.Mathlib.Omega.{arith}
use borrow.Author.Tests.{eqb-true, eqb-false}
use lib.Dec.{eqb}
use lib.ListN.{length, replicate, take, length-take}
use Rattle.bits.proofs.Test.{by-test}
use Rattle.mode_lines.specs.Inputs.{InParts, Input, input_of, on, on_byte}
use Rattle.mode_lines.specs.Inputs.InParts.{more, nothing}
use Rattle.mode_lines.specs.Lines.{has_newline, up_to}
use Rattle.mode_lines.specs.Parts.{Held, Reports, behind, last_number, take_lines, taken, with_line}
use Rattle.mode_lines.proofs.InputLines.{all-reported}
use Rattle.mode_lines.specs.declared.job.LinesFed.{LinesFed}
use Rattle.mode_lines.specs.declared.job.LinesJob.{LinesJob}
use Rattle.mode_lines.specs.Start.{start_file}
use Rattle.mode_lines.specs.Job.{LinesStep, started}
use Rattle.job_modeline.specs.Job.{InSteps, all_lines, closing_part, last_line}
use Rattle.job_modeline.specs.Job.InSteps.{none, then}

-- the steps of a job are the parts of an input, read into the file that it was started with
record Stepped (wide : Bool) (bytes text : List ℕ) (job : LinesJob) : Type 0 where
  parts : InParts (start_file wide) bytes text job.number job.count job.kept
  file : job.file ≡ start_file wide
  long : length job.kept ≡ 256

stepped : {wide : Bool} {bytes text : List ℕ} {job : LinesJob} → InSteps wide bytes text job → Stepped wide bytes text job
unfolding started
stepped none = record { parts = nothing (replicate 256 0) refl; file = refl; long = refl }
stepped (then {before = before} part out₀ out r fed step) =
    let so = stepped fed in
    record {
      parts =
          more part r.job.kept out₀ out (record { used = r.used; number = r.job.number; count = r.job.count; end = r.end }) so.parts
          (rw so.file at step.reported);
      file = step.file ∙ so.file;
      long = step.long;
    }

-- more of an input
on-parts : (i : Input) (a b : List ℕ) → on i (a ++ b) ≡ on (on i a) b
unfolding on
on-parts i [] b = refl
on-parts i (x ∷ a) b = on-parts (on_byte i x) a b

-- a newline ends the line at hand
on-newline : (bytes : List ℕ) → (input_of (bytes ++ 0x0A ∷ [])).lines ≡ (input_of bytes).lines ++ (input_of bytes).begun ∷ []
unfolding input_of on on_byte
on-newline bytes = ap (λ (i : Input). i.lines) (on-parts (record { lines = []; begun = [] }) bytes (0x0A ∷ []))

-- of no bytes none are taken
none-taken : (n : ℕ) → ◌≡◌ {A = List ℕ} (take n []) []
none-taken zero = refl
none-taken (suc n) = refl

-- a line that isn't begun, and one that is
not-begun : (line : List ℕ) → take 256 line ≡ [] → line ≡ []
not-begun [] e = refl
not-begun (b ∷ line) e = absurd (omega (arith, ap length e))

last-begun : (line : List ℕ) → (line ≡ [] → ⊥) → last_line line ≡ line ∷ []
unfolding last_line
last-begun [] some = absurd (some refl)
last-begun (b ∷ line) some = refl

-- a newline as a part: it ends the line at hand if there is room for one
newline-taken : (most : ℕ) (h : Held) → 0 < most → ((take_lines most h (0x0A ∷ [])).count ≡ 0) × ((take_lines most h (0x0A ∷ [])).used ≡ h.used + 1)
unfolding take_lines with_line behind up_to has_newline
newline-taken zero h some = absurd (omega (arith, some))
newline-taken (suc zero) h some = (refl, omega arith)
newline-taken (suc (suc most)) h some = (refl, omega arith)

newline-left : (h : Held) → take_lines 0 h (0x0A ∷ []) ≡ h
unfolding take_lines
newline-left h = refl

nothing-taken : (most : ℕ) (h : Held) → take_lines most h [] ≡ h
unfolding take_lines
nothing-taken zero h = refl
nothing-taken (suc most) h = refl

-- so where its byte count says that a line was closed, it was used
newline-used : (most : ℕ) (h : Held) → (take_lines most h (0x0A ∷ [])).count ≡ 0 → (h.count ≡ 0 → ⊥)
    → (take_lines most h (0x0A ∷ [])).used ≡ h.used + 1
unfolding take_lines
newline-used zero h e some = absurd (some e)
newline-used (suc most) h e some = (newline-taken (suc most) h (omega arith)).1

-- closing a job
module _ (job : LinesJob) (out₀ out : List ℕ) (r : LinesFed) (step : LinesStep job (closing_part job) out₀ out r) where
  abbrev Most : ℕ
  Most = last_number job.number (length out₀) - job.number

  abbrev Now : Held
  Now = record { lines = []; kept = job.kept; count = job.count; used = 0 }

  closing-used : eqb job.count 0 ≡ false → r.job.count ≡ 0 → r.used ≡ 1
  unfolding taken closing_part
  closing-used t closed =
      let used : r.used ≡ (take_lines Most Now (0x0A ∷ [])).used = rw t at step.reported.used in
      let counted : r.job.count ≡ (take_lines Most Now (0x0A ∷ [])).count = rw t at step.reported.counted in
      used ∙ newline-used Most Now (sym counted ∙ closed) (eqb-false job.count 0 t)

  -- 256 bytes and a number are enough for it
  pub closing-room : 256 ≤ length out₀ → job.number < 18446744073709551615 → r.job.count ≡ 0
  unfolding taken closing_part last_number
  closing-room room number =
      by-test (eqb job.count 0)
      (λ t. let counted : r.job.count ≡ (take_lines Most Now []).count = rw t at step.reported.counted in
      counted ∙ ap (λ (h : Held). h.count) (nothing-taken Most Now) ∙ eqb-true job.count 0 t)
      (λ t. let counted : r.job.count ≡ (take_lines Most Now (0x0A ∷ [])).count = rw t at step.reported.counted in
      counted ∙ (newline-taken Most Now (omega (arith, room, number))).0)

-- the theorem of the command: the reports of the parts, and what closing puts out, are those of all lines of the input, the last one too if no newline ends it
module _ {wide : Bool} {bytes text : List ℕ} {job : LinesJob} (fed : InSteps wide bytes text job) (out₀ out : List ℕ) (r : LinesFed)
    (step : LinesStep job (closing_part job) out₀ out r) (closed : r.job.count ≡ 0) where
  begun : take job.count job.kept ≡ take 256 (input_of bytes).begun
  begun = (all-reported (stepped fed).parts).begun

  -- no byte is kept where no line is begun, and only there
  none_kept : job.count ≡ 0 → (input_of bytes).begun ≡ []
  none_kept e = not-begun (input_of bytes).begun (sym begun ∙ rw e refl)

  some-kept : (job.count ≡ 0 → ⊥) → (input_of bytes).begun ≡ [] → ⊥
  some-kept some e =
      some (omega (
        arith,
        length-take job.count job.kept,
        (stepped fed).long,
        ap length (begun ∙ ap (take 256) e),
      ))

  lines-closed : (input_of (bytes ++ take r.used (closing_part job))).lines ≡ all_lines bytes
  unfolding closing_part all_lines last_line
  lines-closed =
      by-test (eqb job.count 0)
      (λ t. rw (t, none-taken r.used, append-nil bytes, none_kept (eqb-true job.count 0 t)) (sym (append-nil (input_of bytes).lines)))
      (λ t. rw (t, closing-used job out₀ out r step t closed)
      (on-newline bytes
      ∙ ap (λ (l : List (List ℕ)). (input_of bytes).lines ++ l) (sym (last-begun (input_of bytes).begun (some-kept (eqb-false job.count 0 t))))))

  pub modelines-whole : Reports (start_file wide) 0 (all_lines bytes) (text ++ take r.end out)
  modelines-whole = rw lines-closed at (all-reported (stepped (then (closing_part job) out₀ out r fed step)).parts).reported
