-- For a host in C: what a run, a plan, a restore and a note leave behind a host's references.
-- Assumes nothing.
use Rattle.std.specs.Prelude.{ℕ, ◌≡◌, true, false, cond, ◌&&◌, List, Result, Ok, Err, ⊤, leb, length}
use Rattle.std.specs.Result.{result_unwrap_or}
use Rattle.file.specs.declared.answer.Answer.{Answer}
use Rattle.file.specs.Answers.{code_of, refused}
use Rattle.file.specs.declared.effect.Effect.TheVariants.{Nothing}
use Rattle.file.specs.Effects.{reach_of}
use Rattle.access.specs.declared.record.Record.{Record}
use Rattle.access.specs.Access.{read_reach, answer_with}
use Rattle.trace.specs.Records.{items}
use Rattle.trace.specs.Run.{run, file_after}
use Rattle.touched.specs.Noted.{noted as noted_in}
use Rattle.touched.specs.Things.{nothing}
use Rattle.roads.specs.Refusals.{plan_answer, restore_answer}
use Rattle.plan.specs.Promises.{PlanKept}
use Rattle.plan.specs.ShortAnswers.{code_of as short_code, short_answer}
use Rattle.plan.specs.declared.short_answer.ShortAnswer.{ShortAnswer}
use Rattle.plan.specs.ShortPromises.{ShortKept}
use Rattle.restoring.specs.Promises.{RestoreKept}
use Rattle.short_restoring.specs.Promises.{ShortRestoreKept}
use Rattle.image.specs.Parts.{fits_in, rest_of, held_in, set_bytes, set_in}

-- a call that left all as it was, and counted nothing
pub record Untouched (count : ℕ) (words bytes words' bytes' before after : List ℕ) : Type 0 where
  pub counted : count ≡ 0
  pub registers : words' ≡ words
  pub rest : bytes' ≡ bytes
  pub buffer : after ≡ before

-- bytes that are no file's: 12, and all as it was
pub record Unfit (number count : ℕ) (words bytes words' bytes' before after : List ℕ) : Type 0 where
  pub said : number ≡ 12
  pub kept : Untouched count words bytes words' bytes' before after

-- a run of a trace: 01's run of the file behind the references; a refusal, a code from 2 up, leaves them
pub record RunTold (words bytes trace before : List ℕ) (number count : ℕ) (words' bytes' after : List ℕ) : Type 0 where
  pub unfit : fits_in bytes ≡ false → Unfit number count words bytes words' bytes' before after
  pub said : fits_in bytes ≡ true → number ≡ code_of (run (held_in words bytes) trace before).answer
  pub counted : fits_in bytes ≡ true → count ≡ (run (held_in words bytes) trace before).count
  pub replied : fits_in bytes ≡ true → after ≡ (run (held_in words bytes) trace before).buffer
  pub registers : fits_in bytes ≡ true → words' ≡ cond (leb 2 number) words (run (held_in words bytes) trace before).file.registers
  pub rest : fits_in bytes ≡ true → bytes' ≡ cond (leb 2 number) bytes (rest_of (run (held_in words bytes) trace before).file)

-- a count that is told beside an answer: it counts only where the answer is no refusal
unfoldable pub counted : Answer → ℕ → Result ℕ Answer
counted a count = cond (refused a) (Err a) (Ok count)

unfoldable pub with_count : Result ⊤ ShortAnswer → ℕ → Result ℕ ShortAnswer
with_count (Ok done) count = Ok count
with_count (Err a) count = Err a

-- a plan of the file behind the references
pub record PlanTold (words bytes before : List ℕ) (number count : ℕ) (after : List ℕ) : Type 0 where
  pub unfit : fits_in bytes ≡ false → Unfit number count words bytes words bytes before after
  pub said : fits_in bytes ≡ true → number ≡ code_of (plan_answer (held_in words bytes) (length before))
  pub kept : fits_in bytes ≡ true → PlanKept (held_in words bytes) before after (counted (plan_answer (held_in words bytes) (length before)) count)
  pub none : fits_in bytes ≡ true → leb 2 number ≡ true → count ≡ 0

-- a restore of the first file to the second
pub record RestoreTold (words bytes wanted others before : List ℕ) (number count : ℕ) (words' bytes' after : List ℕ) : Type 0 where
  pub unfit : (fits_in bytes && fits_in others) ≡ false → Unfit number count words bytes words' bytes' before after
  pub said : (fits_in bytes && fits_in others) ≡ true → number ≡ code_of (restore_answer (held_in words bytes) (held_in wanted others) (length before))
  pub kept : (fits_in bytes && fits_in others) ≡ true
      → RestoreKept (held_in words bytes) (held_in wanted others) before after
      (record { count = counted (restore_answer (held_in words bytes) (held_in wanted others) (length before)) count; file = file_after (held_in words bytes) (items count after) })
  pub none : (fits_in bytes && fits_in others) ≡ true → leb 2 number ≡ true → count ≡ 0
  pub registers : (fits_in bytes && fits_in others) ≡ true → words' ≡ cond (leb 2 number) words (file_after (held_in words bytes) (items count after)).registers
  pub rest : (fits_in bytes && fits_in others) ≡ true → bytes' ≡ cond (leb 2 number) bytes (rest_of (file_after (held_in words bytes) (items count after)))

-- a set with what an access may change, noted before it is made
pub record NoteTold (words bytes set : List ℕ) (asked : Record) (number : ℕ) (set' : List ℕ) : Type 0 where
  pub unfit : fits_in bytes ≡ false → (number ≡ 12) × (set' ≡ set)
  pub said : fits_in bytes ≡ true → number ≡ code_of (answer_with (read_reach (held_in words bytes) asked))
  pub noted : fits_in bytes ≡ true → set' ≡ cond (leb 2 number) set (set_bytes (noted_in (result_unwrap_or (read_reach (held_in words bytes) asked) (reach_of Nothing)) (set_in set)))

-- a short plan from the first file to the second, by the set since that one was saved
pub record ShortTold (words bytes saved others set before : List ℕ) (number count : ℕ) (after : List ℕ) : Type 0 where
  pub unfit : (fits_in bytes && fits_in others) ≡ false → Unfit number count words bytes words bytes before after
  pub said : (fits_in bytes && fits_in others) ≡ true → number ≡ short_code (short_answer (held_in words bytes) (held_in saved others) (set_in set) (length before))
  pub kept : (fits_in bytes && fits_in others) ≡ true
      → ShortKept (held_in words bytes) (held_in saved others) (set_in set) before after
      (with_count (short_answer (held_in words bytes) (held_in saved others) (set_in set) (length before)) count)
  pub none : (fits_in bytes && fits_in others) ≡ true → leb 2 number ≡ true → count ≡ 0

-- a restore by it, with the set after it
pub record ShortRestoreTold (words bytes saved others set before : List ℕ) (number count : ℕ) (words' bytes' set' after : List ℕ) : Type 0 where
  pub unfit : (fits_in bytes && fits_in others) ≡ false → Unfit number count words bytes words' bytes' before after × (set' ≡ set)
  pub said : (fits_in bytes && fits_in others) ≡ true → number ≡ short_code (short_answer (held_in words bytes) (held_in saved others) (set_in set) (length before))
  pub kept : (fits_in bytes && fits_in others) ≡ true
      → ShortRestoreKept (held_in words bytes) (held_in saved others) (set_in set) before after
      (record {
        count = with_count (short_answer (held_in words bytes) (held_in saved others) (set_in set) (length before)) count;
        file = file_after (held_in words bytes) (items count after);
        touched = cond (leb 2 number) (set_in set) nothing;
      })
  pub none : (fits_in bytes && fits_in others) ≡ true → leb 2 number ≡ true → count ≡ 0
  pub registers : (fits_in bytes && fits_in others) ≡ true → words' ≡ cond (leb 2 number) words (file_after (held_in words bytes) (items count after)).registers
  pub rest : (fits_in bytes && fits_in others) ≡ true → bytes' ≡ cond (leb 2 number) bytes (rest_of (file_after (held_in words bytes) (items count after)))
  pub noted : (fits_in bytes && fits_in others) ≡ true → set' ≡ cond (leb 2 number) set (set_bytes nothing)
