-- Which of the listed codes a plan answers, from what it promises; every answer of a short plan is on the list. Assumes nothing.
use Prim.Native.Nat.{ℕ}
use mathlib.Core.Path.{sym, subst}
use mathlib.Core.Bool.{Bool, cond}
use mathlib.Core.List.{List, [], ◌∷◌}
use lib.Dec.{T, eqb, leb}
use lib.ListN.{length}
use Rattle.std.specs.Prelude.{Result}
use Rattle.bits.proofs.Test.{chosen}
use Rattle.file.specs.declared.answer.Answer.{Answer}
use Rattle.file.specs.declared.answer.Answer.TheVariants.{Done, ShortBuffer, NotSound, NotBeforeRed}
use Rattle.file.specs.declared.registers.File.{File}
use Rattle.file.specs.Answers.{code_of, among, listed, one_of}
use Rattle.file.specs.Sound.{sound}
use Rattle.roads.specs.Refusals.{answer_of, plan_answer}
use Rattle.plan.specs.Promises.{PlanKept}
use Rattle.plan.specs.declared.short_answer.ShortAnswer.{ShortAnswer}
use Rattle.plan.specs.declared.short_answer.ShortAnswer.TheVariants.{ShortBuffer as ShortRoom, NotSound as Unsound, NotBeforeRed as AwayFromRed, OtherChip, Elsewhere}
use Rattle.plan.specs.ShortAnswers.{number_of}

abbrev pub planning : Answer → Bool
planning a = one_of (0 ∷ 11 ∷ 12 ∷ 13 ∷ []) a

pub answer-planning : (w : File) (room : ℕ) → T (planning (plan_answer w room))
unfolding plan_answer one_of code_of
answer-planning w room =
    chosen planning (sound w) (cond (eqb w.state.pointer.next 0) (cond (leb 8192 room) (Done 0) ShortBuffer) NotBeforeRed) NotSound
    (chosen planning (eqb w.state.pointer.next 0) (cond (leb 8192 room) (Done 0) ShortBuffer) NotBeforeRed
    (chosen planning (leb 8192 room) (Done 0) ShortBuffer tt tt) tt)
    tt

pub plan-codes : (w : File) (before after : List ℕ) (r : Result ℕ Answer) → PlanKept w before after r → T (planning (answer_of r))
plan-codes w before after r kept = subst (λ (a : Answer). T (planning a)) (sym kept.answered) (answer-planning w (length before))

pub short-listed : (a : ShortAnswer) → T (among listed (number_of a))
unfolding among listed number_of
short-listed ShortRoom = tt
short-listed Unsound = tt
short-listed AwayFromRed = tt
short-listed OtherChip = tt
short-listed Elsewhere = tt
