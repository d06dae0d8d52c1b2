-- 02, 11/13: what a short plan promises, for every input.
-- Assumes nothing.
use Rattle.std.specs.Prelude.{ℕ, ◌≡◌, List, Result, MatchResult, length}
use Rattle.file.specs.declared.registers.File.{File}
use Rattle.touched.specs.declared.set.Touched.{Touched}
use Rattle.short_roads.specs.Serves.{ShortWritten}
use Rattle.plan.specs.declared.short_answer.ShortAnswer.{ShortAnswer}
use Rattle.plan.specs.ShortAnswers.{done_of, short_answer}

-- a short plan of a saved file and a set, given the current file, by what the buffer holds before and after
pub record ShortKept (f w : File) (s : Touched) (before after : List ℕ) (r : Result ℕ ShortAnswer) : Type 0 where
  pub answered : done_of r ≡ short_answer f w s (length before)
  pub told : MatchResult r (ShortWritten w s before after) (λ a. after ≡ before)
