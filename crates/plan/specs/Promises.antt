-- What a plan promises, for every input, and its run.
-- Assumes nothing.
use Rattle.std.specs.Prelude.{ℕ, ◌*◌, ◌<◌, ◌≡◌, true, List, Result, MatchResult, length, get_or}
use Rattle.file.specs.declared.answer.Answer.{Answer}
use Rattle.file.specs.declared.answer.Answer.TheVariants.{Done}
use Rattle.file.specs.declared.registers.File.{File}
use Rattle.file.specs.Answers.{refused}
use Rattle.file.specs.File.{Same}
use Rattle.trace.specs.declared.running.Ran.{Ran}
use Rattle.roads.specs.Plan.{plan_records}
use Rattle.roads.specs.Refusals.{answer_of, plan_answer}
use Rattle.roads.specs.Restores.{PlanWritten}

-- a plan that is made: which it is stays open but for its length, which a short plan's is measured by (02, 11/13)
pub record PlanMade (w : File) (before after : List ℕ) (count : ℕ) : Type 0 where
  pub written : PlanWritten w before after count
  pub counted : count ≡ length (plan_records w)

-- a plan, by what the buffer holds before and after: 'Plan: 12, 13, 11'; a refusal leaves the buffer
pub record PlanKept (w : File) (before after : List ℕ) (r : Result ℕ Answer) : Type 0 where
  pub answered : answer_of r ≡ plan_answer w (length before)
  pub told : MatchResult r (PlanMade w before after) (λ a. (refused a ≡ true) × (after ≡ before))

-- demand 3 of a run over so many records: 'accepted at each access and ends in exactly the wanted file'; 02, 10/13, as settled: with the line of
-- the file that it began with
pub record RunServes (f w : File) (count : ℕ) (replies : List ℕ) (r : Ran) : Type 0 where
  pub answered : r.answer ≡ Done 0
  pub counted : r.count ≡ count
  pub accepted : (k : ℕ) → k < count → get_or replies (8 * k) 0 ≡ 0
  pub ended : Same r.file w
  pub line : r.file.state.line ≡ f.state.line
