-- Which of the listed codes a part of a trace and the whole answer. Assumes nothing.
use Prim.Native.Nat.{ℕ}
use mathlib.Core.Bool.{cond}
use mathlib.Core.List.{List, [], ◌∷◌}
use lib.Dec.{T}
use lib.ListN.{length}
use Rattle.bits.proofs.Test.{chosen}
use Rattle.file.specs.declared.answer.Answer.TheVariants.{Done, NotSound, OutOfRange, ShortBuffer}
use Rattle.file.specs.declared.registers.File.{File}
use Rattle.file.specs.Answers.{code_of, one_of}
use Rattle.file.specs.Sound.{sound}
use Rattle.trace.specs.Records.{item_count}
use Rattle.text.specs.Text.{numbers_fit}
use Rattle.replaying.specs.Replay.{records_fit, part_answer, timing_most, replay_answer}

pub part-codes : (f : File) (number : ℕ) (part replies lines : List ℕ) → T (one_of (0 ∷ 10 ∷ 11 ∷ 12 ∷ []) (part_answer f number part replies lines))
unfolding part_answer one_of code_of
part-codes f number part replies lines =
    chosen (one_of (0 ∷ 10 ∷ 11 ∷ 12 ∷ [])) (sound f)
    (cond (records_fit (item_count part) 0 (length replies) (length lines)) (cond (numbers_fit number (item_count part)) (Done 0) OutOfRange) ShortBuffer)
    NotSound
    (chosen (one_of (0 ∷ 10 ∷ 11 ∷ 12 ∷ [])) (records_fit (item_count part) 0 (length replies) (length lines))
    (cond (numbers_fit number (item_count part)) (Done 0) OutOfRange) ShortBuffer
    (chosen (one_of (0 ∷ 10 ∷ 11 ∷ 12 ∷ [])) (numbers_fit number (item_count part)) (Done 0) OutOfRange tt tt) tt)
    tt

pub replay-codes : (trace replies lines : List ℕ) → T (one_of (0 ∷ 11 ∷ []) (replay_answer trace replies lines))
unfolding replay_answer one_of code_of
replay-codes trace replies lines =
    chosen (one_of (0 ∷ 11 ∷ [])) (records_fit (item_count trace) timing_most (length replies) (length lines)) (Done 0) ShortBuffer tt tt
