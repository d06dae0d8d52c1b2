-- What a restore promises, from what the code did. Assumes nothing.
use Prim.Native.Nat.{ℕ}
use mathlib.Core.Path.{◌≡◌, refl, sym, ap, ◌∙◌, subst}
use mathlib.Core.Bool.{cond, true, false, true≢false}
use mathlib.Core.List.{List}
use lib.ListN.{length}
use Rattle.std.specs.Prelude.{Result, Ok, Err, MatchResult}
use Rattle.bits.proofs.Test.{by-test, passes}
use Rattle.file.specs.declared.answer.Answer.{Answer}
use Rattle.file.specs.declared.answer.Answer.TheVariants.{NotSound, OtherChip}
use Rattle.file.specs.declared.registers.File.{File}
use Rattle.file.specs.Answers.{code_of, refused}
use Rattle.file.specs.Chips.{same_chip}
use Rattle.file.specs.File.{with_line, Same}
use Rattle.file.specs.Sound.{sound}
use Rattle.trace.specs.Records.{items}
use Rattle.trace.specs.Run.{file_after}
use Rattle.plan.specs.Promises.{PlanKept}
use Rattle.roads.specs.Refusals.{answer_of, plan_answer, restore_answer}
use Rattle.roads.specs.Restores.{IsFile}
use Rattle.roads.proofs.PlanServes.{same-chip, planned-runs, planned-line, Between, fifteen-between, fifteen-only-between}
use Rattle.restoring.specs.declared.Restored.{Restored}
use Rattle.restoring.specs.Promises.{PlannedFrom, RestoreDone, RestoreRefused, RestoreKept}

-- ---- a plan to run

module _ (f w : File) (before : List ℕ) where
  pub unsound-current : sound f ≡ false → PlannedFrom f w before before (Err NotSound)
  unfolding restore_answer refused code_of
  unsound-current s = record { answered = rw s; told = (refl, refl) }

  -- 02, 6/13: between different chips, where the wanted file's soundness is asked first
  pub elsewhere : sound f ≡ true → same_chip f.state.chip w.state.chip ≡ false → (a : Answer) → a ≡ cond (sound w) OtherChip NotSound
      → PlannedFrom f w before before (Err a)
  unfolding restore_answer refused code_of
  elsewhere s c a e =
      by-test (sound w)
      (λ t. let is : a ≡ OtherChip = rw t at e in rw is (record { answered = rw (s, t, c); told = (refl, refl) }))
      (λ t. let is : a ≡ NotSound = rw t at e in rw is (record { answered = rw (s, t); told = (refl, refl) }))

  -- on one chip it answers as the plan does
  as-planned : sound f ≡ true → same_chip f.state.chip w.state.chip ≡ true → (room : ℕ) → plan_answer w room ≡ restore_answer f w room
  unfolding restore_answer plan_answer
  as-planned s c room = by-test (sound w) (λ t. rw (s, t, c)) (λ t. rw (s, t))

  pub between : sound f ≡ true → same_chip f.state.chip w.state.chip ≡ true → {after : List ℕ} (p : Result ℕ Answer) → PlanKept w before after p
      → PlannedFrom f w before after p
  between s c (Ok count) kept =
      record { answered = kept.answered ∙ as-planned s c (length before); told = record { current = s; chips = c; written = kept.told.written } }
  between s c (Err a) kept = record { answered = kept.answered ∙ as-planned s c (length before); told = kept.told }

-- ---- and the run

module _ {f w : File} {before after : List ℕ} where
  pub restore-refused : (a : Answer) → PlannedFrom f w before after (Err a) → RestoreKept f w before after (record { count = Err a; file = f })
  restore-refused a p = record { answered = p.answered; line = refl; told = record { refuses = p.told.0; back = refl; kept = p.told.1 } }

  pub restore-done : (count : ℕ) → PlannedFrom f w before after (Ok count) → IsFile f → (g : File) → g ≡ file_after f (items count after)
      → RestoreKept f w before after (record { count = Ok count; file = g })
  restore-done count p ff g e =
      let wrote = p.told.written in
      record {
        answered = p.answered;
        line = ap (λ (h : File). h.state.line) e ∙ planned-line w before after count wrote f;
        told = record {
          made = wrote;
          ran = e;
          restored = subst (λ (h : File). Same h w) (sym e) (planned-runs w before after count wrote f ff (passes (sound f) p.told.current) (same-chip _ _ p.told.chips)).1;
        };
      }

-- ---- what the promise settles

-- 02, 6/13: between two sound files 15 is answered where their chips differ
pub kept-fifteen : (f w : File) (before after : List ℕ) (r : Restored) → RestoreKept f w before after r → sound f ≡ true → sound w ≡ true
    → same_chip f.state.chip w.state.chip ≡ false → code_of (answer_of r.count) ≡ 15
kept-fifteen f w before after r p s t c = ap code_of p.answered ∙ fifteen-between f w (length before) s t c

-- and nowhere else
pub kept-only-fifteen : (f w : File) (before after : List ℕ) (r : Restored) → RestoreKept f w before after r → code_of (answer_of r.count) ≡ 15 → Between f w
kept-only-fifteen f w before after r p e = fifteen-only-between f w (length before) (sym (ap code_of p.answered) ∙ e)

-- two restores answer the same and end in the same file
pub restores-alike : (f w : File) (before after other : List ℕ) (p q : Restored) → RestoreKept f w before after p → RestoreKept f w before other q
    → (answer_of p.count ≡ answer_of q.count) × (p.file ≡ q.file)
unfolding Same refused code_of
restores-alike f w before after other p q s t = (same, files p.count q.count same s.told t.told)
  where
    same : answer_of p.count ≡ answer_of q.count
    same = s.answered ∙ sym t.answered

    -- the wanted file with the current one's line, or the current file
    files : (m n : Result ℕ Answer) → answer_of m ≡ answer_of n → MatchResult m (RestoreDone f w p.file before after) (RestoreRefused f p.file before after)
        → MatchResult n (RestoreDone f w q.file before other) (RestoreRefused f q.file before other) → p.file ≡ q.file
    files (Ok m) (Ok n) e d d' = d.restored ∙ ap (λ (k : ℕ). with_line k w) (s.line ∙ sym t.line) ∙ sym d'.restored
    files (Ok m) (Err a) e d r = absurd (true≢false (sym r.refuses ∙ sym (ap refused e)))
    files (Err a) (Ok n) e r d = absurd (true≢false (sym r.refuses ∙ ap refused e))
    files (Err a) (Err b) e r r' = r.back ∙ sym r'.back
