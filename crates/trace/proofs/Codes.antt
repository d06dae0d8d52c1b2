-- Which of the listed codes a run answers, from its contract. Assumes nothing.
use Prim.Native.Nat.{ℕ}
use mathlib.Core.Path.{◌≡◌, sym, subst}
use mathlib.Core.List.{List, [], ◌∷◌}
use lib.Dec.{T}
use Rattle.bits.proofs.Test.{chosen}
use Rattle.file.specs.declared.answer.Answer.{Answer}
use Rattle.file.specs.declared.answer.Answer.TheVariants.{NotSound}
use Rattle.file.specs.declared.registers.File.{File}
use Rattle.file.specs.Answers.{code_of, one_of}
use Rattle.file.specs.Sound.{sound}
use Rattle.trace.specs.declared.running.Ran.{Ran}
use Rattle.trace.specs.Run.{RunLeft, run_count, ran, run}

-- 0, or 12 for a file that is not sound
pub ran-codes : (f : File) (trace buffer : List ℕ) (r : Ran) → r.answer ≡ (run f trace buffer).answer → T (one_of (0 ∷ 12 ∷ []) r.answer)
unfolding run ran one_of code_of
ran-codes f trace buffer r met =
    subst (λ (a : Answer). T (one_of (0 ∷ 12 ∷ []) a)) (sym met)
    (chosen (λ (x : RunLeft). one_of (0 ∷ 12 ∷ []) x.answer) (sound f) (ran (run_count trace buffer) f trace buffer)
    (record { answer = NotSound; file = f; count = 0; buffer = buffer; rest = trace }) tt tt)
