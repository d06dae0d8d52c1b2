-- However an input is cut into parts, what the job puts out at the end is what is said of the whole input. Assumes nothing.
use Rattle.std.specs.Prelude.{Option, Some, None, Result, Err}
use Prim.Native.Nat.{ℕ, ◌<◌}
use mathlib.Core.Bool.{false}
use mathlib.Core.List.{List, []}
use mathlib.Core.Path.{◌≡◌, refl, sym, ap, ◌∙◌, subst}
use native.Mathlib.Omega.{arith}
use borrow.Author.Tests.{leb-true, leb-false, ne_eqb}
use lib.Dec.{leb}
use lib.ListN.{length, take}
use lib.Seq.{length-take-le, take_all}
use Rattle.bits.proofs.Test.{by-test}
use Rattle.feeding.specs.Feeding.{Additive, WholeInput}
use Rattle.feeding.proofs.AsTheWhole.{input-after}
use Rattle.file.specs.declared.answer.Answer.{Answer}
use Rattle.file.specs.declared.answer.Answer.TheVariants.{NotSound}
use Rattle.file.specs.Answers.{code_of, refused}
use Rattle.text.specs.Fixed.{behind}
use Rattle.timing.specs.Layout.{answer_by}
use Rattle.portable.specs.declared.Timing.{Timing}
use Rattle.portable.specs.Timing.{read_timing, readable, timing_answer, timing_of}
use Rattle.portable_text.specs.Line.{line_of}
use Rattle.portable_text.specs.Numbers.{listed_in}
use Rattle.portable_text.specs.declared.writing.NotWritten.{NotWritten}
use Rattle.portable_text.specs.declared.writing.NotWritten.TheVariants.{NoList}
use Rattle.job_portable.specs.Ended.{LineEnded, NumbersEnded, PortableEnded, numbers_result, numbers_stored, with_answer}
use Rattle.job_portable.specs.Kept.{AnyBytes, PortableJob, begun, held, job_after, nothing_told}
use Rattle.job_portable.proofs.FirstBytes.{after-parts, first-bytes}

pub portable-additive : Additive AnyBytes job_after nothing_told
unfolding behind nothing_told
portable-additive =
    record {
      whole-none = tt;
      whole_parts = λ a b wa wb. tt;
      after_none = λ j. refl;
      told_none = λ j. refl;
      after-parts = λ j a b wa. after-parts j a b;
      told-parts = λ j a b wa. refl;
    }

-- the job keeps the input's first 29 bytes, however it was cut
pub portable-kept : {input text : List ℕ} {job : PortableJob} → WholeInput AnyBytes job_after nothing_told begun input text job → held job ≡ take 29 input
portable-kept {input} fed = ap held (input-after portable-additive fed) ∙ first-bytes input

-- an input of more than 29 bytes is of another length than 28, and so are its first 29
module _ (input : List ℕ) (long : 29 < length input) where
  whole-other : readable input ≡ false
  unfolding readable
  whole-other = ne_eqb (length input) 28 (λ e. omega (arith, long, e))

  first-other : readable (take 29 input) ≡ false
  unfolding readable
  first-other = ne_eqb (length (take 29 input)) 28 (λ e. omega (arith, length-take-le 29 input (omega (arith, long)), e))

  long-read : read_timing (take 29 input) ≡ read_timing input
  unfolding read_timing
  long-read = rw (whole-other, first-other) refl

  long-answer : (t : Timing) → timing_answer (take 29 input) t ≡ NotSound
  unfolding timing_answer answer_by
  long-answer t = rw first-other refl

  whole-answer : (t : Timing) → timing_answer input t ≡ NotSound
  unfolding timing_answer answer_by
  whole-answer t = rw whole-other refl

  long-with : (t : Timing) (out₀ : List ℕ) → with_answer (take 29 input) t out₀ ≡ NotSound
  unfolding with_answer refused code_of
  long-with t out₀ = rw (long-answer t) refl

  whole-with : (t : Timing) (out₀ : List ℕ) → with_answer input t out₀ ≡ NotSound
  unfolding with_answer refused code_of
  whole-with t out₀ = rw (whole-answer t) refl

  long-result : (o : Option Timing) (out₀ : List ℕ) → numbers_result (take 29 input) o out₀ ≡ numbers_result input o out₀
  unfolding numbers_result refused code_of
  long-result None out₀ =
      ap (λ (a : Answer). Err (NoList a)) (long-answer (timing_of []) ∙ sym (whole-answer (timing_of [])))
  long-result (Some t) out₀ = rw (long-with t out₀, whole-with t out₀) refl

  long-stored : (o : Option Timing) (out₀ : List ℕ) → numbers_stored (take 29 input) o out₀ ≡ numbers_stored input o out₀
  unfolding numbers_stored refused code_of
  long-stored None out₀ = refl
  long-stored (Some t) out₀ = rw (long-with t out₀, whole-with t out₀) refl

  long-written : (list out₀ out : List ℕ) (r : Result ℕ NotWritten) → NumbersEnded (take 29 input) list out₀ out r → NumbersEnded input list out₀ out r
  long-written list out₀ out r e =
      record { answered = e.answered ∙ long-result (listed_in list) out₀; stored = e.stored ∙ long-stored (listed_in list) out₀ }

-- so the line of the first 29 bytes is that of the whole
pub first_read : (input : List ℕ) → read_timing (take 29 input) ≡ read_timing input
first_read input =
    by-test (leb (length input) 29) (λ e. ap read_timing (take_all 29 input (leb-true (length input) 29 e)))
    (λ e. long-read input (leb-false (length input) 29 e))

pub first-line : (input : List ℕ) → line_of (take 29 input) ≡ line_of input
unfolding line_of
first-line input = rw (first_read input) refl

first-written : (input list out₀ out : List ℕ) (r : Result ℕ NotWritten) → NumbersEnded (take 29 input) list out₀ out r → NumbersEnded input list out₀ out r
first-written input list out₀ out r e =
    by-test (leb (length input) 29)
    (λ t. subst (λ (s : List ℕ). NumbersEnded s list out₀ out r) (take_all 29 input (leb-true (length input) 29 t)) e)
    (λ t. long-written input (leb-false (length input) 29 t) list out₀ out r e)

-- the theorems of the command: the line is that of the whole input, and a list is written into the whole of it
module _ {input text : List ℕ} {job : PortableJob} (fed : WholeInput AnyBytes job_after nothing_told begun input text job) where
  pub portable-read : (out₀ out : List ℕ) (r : PortableEnded) → LineEnded (held job) out₀ out r → LineEnded input out₀ out r
  portable-read out₀ out r e =
      let first : LineEnded (take 29 input) out₀ out r = subst (λ (s : List ℕ). LineEnded s out₀ out r) (portable-kept fed) e in
      record {
        answered = rw (first-line input, first_read input) at first.answered;
        ended = rw (first-line input) at first.ended;
        stored = rw (first-line input) at first.stored;
      }

  pub portable-written : (list out₀ out : List ℕ) (r : Result ℕ NotWritten) → NumbersEnded (held job) list out₀ out r → NumbersEnded input list out₀ out r
  portable-written list out₀ out r e =
      first-written input list out₀ out r (subst (λ (s : List ℕ). NumbersEnded s list out₀ out r) (portable-kept fed) e)
