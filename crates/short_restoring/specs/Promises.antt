-- 02, 11/13: what the restores with the set promise, for every input.
-- Assumes nothing.
use Rattle.std.specs.Prelude.{ℕ, ◌≡◌, cond, List, MatchResult, is_ok, length}
use Rattle.file.specs.declared.registers.File.{File}
use Rattle.file.specs.File.{Same}
use Rattle.trace.specs.Records.{items}
use Rattle.trace.specs.Run.{file_after}
use Rattle.restoring.specs.Promises.{RestoreKept}
use Rattle.touched.specs.declared.set.Touched.{Touched}
use Rattle.touched.specs.Things.{nothing}
use Rattle.short_roads.specs.Serves.{ShortWritten}
use Rattle.short_restoring.specs.declared.kept.RestoreNoted.{RestoreNoted}
use Rattle.short_restoring.specs.declared.kept.ShortRestored.{ShortRestored}
use Rattle.plan.specs.ShortAnswers.{done_of, short_answer}

-- a restore by a short plan that is done: 'Run from the current file it ends in the saved file'; 'Right after a restore the set is empty'
pub record ShortDone (f w g : File) (s t : Touched) (before after : List ℕ) (count : ℕ) : Type 0 where
  pub made : ShortWritten w s before after count
  pub ran : g ≡ file_after f (items count after)
  pub restored : Same g w
  pub noted : t ≡ nothing

-- one that is refused: all as it was
pub record ShortRefused (f g : File) (s t : Touched) (before after : List ℕ) : Type 0 where
  pub back : g ≡ f
  pub kept : after ≡ before
  pub noted : t ≡ s

-- a restore by a short plan, with the current file's line (02, 10/13, as settled)
pub record ShortRestoreKept (f w : File) (s : Touched) (before after : List ℕ) (r : ShortRestored) : Type 0 where
  pub answered : done_of r.count ≡ short_answer f w s (length before)
  pub line : r.file.state.line ≡ f.state.line
  pub told : MatchResult r.count (ShortDone f w r.file s r.touched before after) (λ a. ShortRefused f r.file s r.touched before after)

-- a restore by the full plan, as without the set
pub record RestoreNotedKept (f w : File) (s : Touched) (before after : List ℕ) (r : RestoreNoted) : Type 0 where
  pub done : RestoreKept f w before after r.done
  pub noted : r.touched ≡ cond (is_ok r.done.count) nothing s
