-- Which of the listed codes a restore answers, from what it promises. Assumes nothing.
use Prim.Native.Nat.{ℕ}
use mathlib.Core.Path.{sym, subst}
use mathlib.Core.Bool.{Bool}
use mathlib.Core.List.{List, [], ◌∷◌}
use lib.Dec.{T, eqb, leb}
use lib.ListN.{length}
use Rattle.bits.proofs.Test.{chosen}
use Rattle.file.specs.declared.answer.Answer.{Answer}
use Rattle.file.specs.declared.answer.Answer.TheVariants.{Done, ShortBuffer, NotSound, NotBeforeRed, OtherChip}
use Rattle.file.specs.declared.registers.File.{File}
use Rattle.file.specs.Answers.{code_of, one_of}
use Rattle.file.specs.Chips.{same_chip}
use Rattle.file.specs.Sound.{sound}
use Rattle.roads.specs.Refusals.{answer_of, plan_answer, restore_answer}
use Rattle.restoring.specs.declared.Restored.{Restored}
use Rattle.restoring.specs.Promises.{RestoreKept}

-- those that a plan answers, and 15 (02, 6/13)
abbrev pub restoring : Answer → Bool
restoring a = one_of (0 ∷ 11 ∷ 12 ∷ 13 ∷ 15 ∷ []) a

planned-restoring : (w : File) (room : ℕ) → T (restoring (plan_answer w room))
unfolding plan_answer one_of code_of
planned-restoring w room =
    chosen restoring (sound w) _ NotSound
    (chosen restoring (eqb w.state.pointer.next 0) _ NotBeforeRed (chosen restoring (leb 8192 room) (Done 0) ShortBuffer tt tt) tt) tt

pub restore-codes : (f w : File) (before after : List ℕ) (r : Restored) → RestoreKept f w before after r → T (restoring (answer_of r.count))
unfolding restore_answer one_of code_of
restore-codes f w before after r kept =
    subst (λ (a : Answer). T (restoring a)) (sym kept.answered)
    (chosen restoring (sound f) _ NotSound
    (chosen restoring (sound w) _ NotSound
    (chosen restoring (same_chip f.state.chip w.state.chip) (plan_answer w (length before)) OtherChip (planned-restoring w (length before)) tt) tt) tt)
