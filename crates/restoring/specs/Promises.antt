-- What a restore promises, for every input.
-- Assumes nothing.
use Rattle.std.specs.Prelude.{ℕ, ◌≡◌, true, List, Result, MatchResult, length}
use Rattle.file.specs.declared.answer.Answer.{Answer}
use Rattle.file.specs.declared.registers.File.{File}
use Rattle.file.specs.Answers.{refused}
use Rattle.file.specs.Chips.{same_chip}
use Rattle.file.specs.File.{Same}
use Rattle.file.specs.Sound.{sound}
use Rattle.trace.specs.Records.{items}
use Rattle.trace.specs.Run.{file_after}
use Rattle.roads.specs.Refusals.{answer_of, restore_answer}
use Rattle.roads.specs.Restores.{PlanWritten}
use Rattle.restoring.specs.declared.Restored.{Restored}

-- a plan of a wanted file that may be run from the current one
pub record PlannedBetween (f w : File) (before after : List ℕ) (count : ℕ) : Type 0 where
  pub current : sound f ≡ true
  pub chips : same_chip f.state.chip w.state.chip ≡ true
  pub written : PlanWritten w before after count

pub record PlannedFrom (f w : File) (before after : List ℕ) (r : Result ℕ Answer) : Type 0 where
  pub answered : answer_of r ≡ restore_answer f w (length before)
  pub told : MatchResult r (PlannedBetween f w before after) (λ a. (refused a ≡ true) × (after ≡ before))

-- a restore that is done: 'the file the run ends in', which is the wanted one (02, 10/13, as settled)
pub record RestoreDone (f w g : File) (before after : List ℕ) (count : ℕ) : Type 0 where
  pub made : PlanWritten w before after count
  pub ran : g ≡ file_after f (items count after)
  pub restored : Same g w

-- one that is refused: all as it was
pub record RestoreRefused (f g : File) (before after : List ℕ) (a : Answer) : Type 0 where
  pub refuses : refused a ≡ true
  pub back : g ≡ f
  pub kept : after ≡ before

-- a restore: 01's '12, 13, 11, 14' with 15 behind 12 (02, 6/13) and without 14 (02, 9/13), and a file with the current file's line (02, 10/13, as settled)
pub record RestoreKept (f w : File) (before after : List ℕ) (r : Restored) : Type 0 where
  pub answered : answer_of r.count ≡ restore_answer f w (length before)
  pub line : r.file.state.line ≡ f.state.line
  pub told : MatchResult r.count (RestoreDone f w r.file before after) (RestoreRefused f r.file before after)
