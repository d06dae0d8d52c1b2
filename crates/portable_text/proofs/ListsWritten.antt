-- What is written of a list; of what is no list, nothing. Assumes nothing.
use Rattle.std.specs.Prelude.{Option, Some, None, Result, Ok, Err}
use Prim.Native.Nat.{ℕ}
use mathlib.Core.Bool.{Bool, true, false, cond}
use mathlib.Core.List.{List, []}
use mathlib.Core.Path.{◌≡◌, refl, sym, ap, ◌∙◌, subst}
use lib.Dec.{T}
use Rattle.bits.proofs.Test.{by-test, chosen}
use Rattle.file.specs.declared.answer.Answer.{Answer}
use Rattle.file.specs.declared.answer.Answer.TheVariants.{Done, Locked, OutOfRange, NotSound}
use Rattle.file.specs.Answers.{code_of, refused}
use Rattle.bits.specs.Numbers.{all_in_range, in_range, ranges_from}
use Rattle.timing.specs.Layout.{answer_by}
use Rattle.portable.specs.Table.{table}
use Rattle.portable.specs.declared.Timing.{Timing}
use Rattle.portable.specs.Timing.{locked, numbers_of, readable, timing_answer, timing_of, Written}
use Rattle.portable.proofs.HandsBack.{refusal-leaves}
use Rattle.portable_text.specs.declared.writing.NotWritten.{NotWritten}
use Rattle.portable_text.specs.declared.writing.NotWritten.TheVariants.{NoList, Refused}
use Rattle.portable_text.specs.Numbers.{bytes_listed, list_result, listed_in, ListWritten}

-- no numbers are out of range, H total 0 first
none-ranged : all_in_range table (numbers_of (timing_of [])) ≡ false
unfolding all_in_range ranges_from in_range table timing_of
none-ranged = refl

none-refused : (bytes : List ℕ) → T (refused (timing_answer bytes (timing_of [])))
unfolding timing_answer answer_by refused code_of
none-refused bytes =
    chosen refused (readable bytes) _ NotSound
    (chosen refused (locked bytes) Locked _ tt
    (subst (λ (b : Bool). T (refused (cond b (Done 0) OutOfRange))) (sym none-ranged) tt)) tt

module _ (before text : List ℕ) where
  -- what is no list has no numbers, which are refused, so its bytes stay
  pub none_written : (after : List ℕ) (answer : Answer) (t : Timing) → listed_in text ≡ None → t ≡ timing_of [] → Written before t answer after
      → ListWritten before text after (Err (NoList answer))
  unfolding list_result bytes_listed
  none_written after answer t e z w =
      let zeros : answer ≡ timing_answer before (timing_of []) = w.answered ∙ ap (timing_answer before) z in
      record {
        answered = rw e (ap (λ (a : Answer). Err (NoList a)) zeros);
        bytes = rw e (refusal-leaves before after t answer w (subst (λ (a : Answer). T (refused a)) (sym zeros) (none-refused before)));
      }

  module _ (t : Timing) (after : List ℕ) (answer : Answer) (there : listed_in text ≡ Some t) (w : Written before t answer after) where
    pub list_written : refused answer ≡ false → ListWritten before text after (Ok tt)
    unfolding list_result bytes_listed
    list_written e = record { answered = rw (there, ap refused (sym w.answered) ∙ e) refl; bytes = rw there w.bytes }

    pub list_refused : refused answer ≡ true → ListWritten before text after (Err (Refused answer))
    unfolding list_result bytes_listed
    list_refused e =
        record {
          answered = rw (there, ap refused (sym w.answered) ∙ e) (ap (λ (a : Answer). Err (Refused a)) w.answered);
          bytes = rw there w.bytes;
        }

-- the writer answers 0 or refuses
by-tests : (readable locked ranged : Bool) → ((x : ℕ) → cond readable (cond locked Locked (cond ranged (Done 0) OutOfRange)) NotSound ≡ Done x → ⊥)
    → refused (cond readable (cond locked Locked (cond ranged (Done 0) OutOfRange)) NotSound) ≡ true
unfolding refused code_of
by-tests true true ranged n = refl
by-tests true false true n = absurd (n 0 refl)
by-tests true false false n = refl
by-tests false locked ranged n = refl

pub refused-else : (before : List ℕ) (t : Timing) (answer : Answer) → answer ≡ timing_answer before t → ((x : ℕ) → answer ≡ Done x → ⊥) → refused answer ≡ true
unfolding timing_answer answer_by
refused-else before t answer e n =
    ap refused e ∙ by-tests (readable before) (locked before) (all_in_range table (numbers_of t)) (λ x h. n x (e ∙ h))

-- what is no list leaves its bytes as found
none-listed : (before : List ℕ) (o : Option Timing) (a : Answer) → list_result before o ≡ Err (NoList a) → bytes_listed before o ≡ before
unfolding list_result bytes_listed
none-listed before None a e = refl
none-listed before (Some t) a e =
    by-test (refused (timing_answer before t)) (λ h. let never : ◌≡◌ {A = Result (Unit {0}) NotWritten} (Err (Refused (timing_answer before t))) (Err (NoList a)) = rw h at e in absurd (cc))
    (λ h. let never : ◌≡◌ {A = Result (Unit {0}) NotWritten} (Ok tt) (Err (NoList a)) = rw h at e in absurd (cc))

pub unlisted-leaves : (before text after : List ℕ) (r : Result (Unit {0}) NotWritten) (a : Answer) → ListWritten before text after r → r ≡ Err (NoList a) → after ≡ before
unlisted-leaves before text after r a w n = w.bytes ∙ none-listed before (listed_in text) a (sym w.answered ∙ n)
