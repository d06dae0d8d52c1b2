-- For a host in C: 'a refused call writes nothing'. What the contracts of the run, the restores and the note say of a code from 2 up.
-- Assumes nothing.
use Prim.Native.Nat.{ℕ, ◌≤◌}
use mathlib.Core.Path.{◌≡◌, refl, sym, ap, ◌∙◌, subst}
use mathlib.Core.Bool.{Bool, true, cond, ◌&&◌}
use mathlib.Core.List.{List}
use native.Mathlib.Omega.{arith}
use borrow.Author.Tests.{le-leb}
use lib.Dec.{leb}
use lib.ListN.{length}
use Rattle.std.specs.Prelude.{Result, Ok, Err, ⊤}
use Rattle.bits.proofs.Test.{by-test}
use Rattle.file.specs.declared.registers.File.{File}
use Rattle.file.specs.Answers.{code_of, refused}
use Rattle.file.specs.Sound.{sound}
use Rattle.access.specs.declared.record.Record.{Record}
use Rattle.timing.specs.Timing.{timing_of, timing_answer, written_file, write_timing}
use Rattle.trace.specs.Records.{items}
use Rattle.trace.specs.Run.{run, ran, file_after}
use Rattle.plan.specs.declared.short_answer.ShortAnswer.{ShortAnswer}
use Rattle.plan.specs.Promises.{PlanKept}
use Rattle.plan.specs.ShortAnswers.{code_of as short_code}
use Rattle.plan.specs.ShortPromises.{ShortKept}
use Rattle.restoring.specs.Promises.{RestoreKept}
use Rattle.roads.specs.Refusals.{plan_answer, restore_answer}
use Rattle.short_restoring.specs.Promises.{ShortRestoreKept}
use Rattle.touched.specs.declared.set.Touched.{Touched}
use Rattle.image.specs.Parts.{fits_in, held_in}
use Rattle.host.specs.Left.{TimingLeft}
use Rattle.host.specs.Runs.{counted, with_count, Untouched, PlanTold, RunTold, RestoreTold, NoteTold, ShortTold, ShortRestoreTold}

-- what a refusal leaves where a call would write
left_as : {A : Type 0} (number : ℕ) (x y z : A) → 2 ≤ number → z ≡ cond (leb 2 number) x y → z ≡ x
left_as number x y z h e = e ∙ ap (λ (b : Bool). cond b x y) (le-leb 2 number h)

-- a run that refuses counts nothing and leaves the replies
run-refuses : (number : ℕ) (words bytes trace before : List ℕ) → number ≡ code_of (run (held_in words bytes) trace before).answer → 2 ≤ number
    → ((run (held_in words bytes) trace before).count ≡ 0) × ((run (held_in words bytes) trace before).buffer ≡ before)
unfolding run ran code_of
run-refuses number words bytes trace before e h =
    by-test (sound (held_in words bytes)) (λ s. let z : number ≡ 0 = rw s at e in absurd (omega (arith, z, h))) (λ s. (rw s, rw s))

pub run-refused : (words bytes trace before : List ℕ) (number count : ℕ) (words' bytes' after : List ℕ) → RunTold words bytes trace before number count words' bytes' after → 2 ≤ number
    → Untouched count words bytes words' bytes' before after
run-refused words bytes trace before number count words' bytes' after told h =
    by-test (fits_in bytes)
    (λ t. let none = run-refuses number words bytes trace before (told.said t) h in
    record {
      counted = told.counted t ∙ none.0;
      registers = left_as number words _ words' h (told.registers t);
      rest = left_as number bytes _ bytes' h (told.rest t);
      buffer = told.replied t ∙ none.1;
    })
    (λ f. (told.unfit f).kept)

pub plan-refused : (words bytes before : List ℕ) (number count : ℕ) (after : List ℕ) → PlanTold words bytes before number count after → 2 ≤ number
    → Untouched count words bytes words bytes before after
unfolding counted refused
plan-refused words bytes before number count after told h =
    by-test (fits_in bytes)
    (λ t. let r = ap (leb 2) (sym (told.said t)) ∙ le-leb 2 number h in
    record { counted = told.none t (le-leb 2 number h); registers = refl; rest = refl; buffer = (subst (λ (b : Bool). PlanKept (held_in words bytes) before after (cond b (Err (plan_answer (held_in words bytes) (length before))) (Ok count))) r (told.kept t)).told.1 })
    (λ f. (told.unfit f).kept)

pub restore-refused : (words bytes wanted others before : List ℕ) (number count : ℕ) (words' bytes' after : List ℕ)
    → RestoreTold words bytes wanted others before number count words' bytes' after → 2 ≤ number → Untouched count words bytes words' bytes' before after
unfolding counted refused
restore-refused words bytes wanted others before number count words' bytes' after told h =
    by-test (fits_in bytes && fits_in others)
    (λ t. let r = ap (leb 2) (sym (told.said t)) ∙ le-leb 2 number h in
    record {
      counted = told.none t (le-leb 2 number h);
      registers = left_as number words _ words' h (told.registers t);
      rest = left_as number bytes _ bytes' h (told.rest t);
      buffer = (subst (λ (b : Bool). RestoreKept (held_in words bytes) (held_in wanted others) before after
          (record { count = cond b (Err (restore_answer (held_in words bytes) (held_in wanted others) (length before))) (Ok count); file = file_after (held_in words bytes) (items count after) })) r (told.kept t)).told.kept;
    })
    (λ f. (told.unfit f).kept)

pub note-refused : (words bytes set : List ℕ) (asked : Record) (number : ℕ) (set' : List ℕ) → NoteTold words bytes set asked number set' → 2 ≤ number → set' ≡ set
note-refused words bytes set asked number set' told h = by-test (fits_in bytes) (λ t. left_as number set _ set' h (told.noted t)) (λ f. (told.unfit f).1)

-- a short plan that is refused, and a restore by it, leave the buffer
short-kept : {f w : File} {s : Touched} {before after : List ℕ} {number : ℕ} (count : ℕ) (r : Result ⊤ ShortAnswer) → number ≡ short_code r → 2 ≤ number
    → ShortKept f w s before after (with_count r count) → after ≡ before
unfolding short_code with_count
short-kept count (Ok done) n h k = absurd (omega (arith, n, h))
short-kept count (Err a) n h k = k.told

short-restore-kept : {f w g : File} {s t : Touched} {before after : List ℕ} {number : ℕ} (count : ℕ) (r : Result ⊤ ShortAnswer) → number ≡ short_code r → 2 ≤ number
    → ShortRestoreKept f w s before after (record { count = with_count r count; file = g; touched = t }) → after ≡ before
unfolding short_code with_count
short-restore-kept count (Ok done) n h k = absurd (omega (arith, n, h))
short-restore-kept count (Err a) n h k = k.told.kept

pub short-refused : (words bytes saved others set before : List ℕ) (number count : ℕ) (after : List ℕ) → ShortTold words bytes saved others set before number count after
    → 2 ≤ number → Untouched count words bytes words bytes before after
short-refused words bytes saved others set before number count after told h =
    by-test (fits_in bytes && fits_in others)
    (λ t. record { counted = told.none t (le-leb 2 number h); registers = refl; rest = refl; buffer = short-kept count _ (told.said t) h (told.kept t) })
    (λ f. (told.unfit f).kept)

pub short-restore-refused : (words bytes saved others set before : List ℕ) (number count : ℕ) (words' bytes' set' after : List ℕ)
    → ShortRestoreTold words bytes saved others set before number count words' bytes' set' after → 2 ≤ number
    → Untouched count words bytes words' bytes' before after × (set' ≡ set)
short-restore-refused words bytes saved others set before number count words' bytes' set' after told h =
    by-test (fits_in bytes && fits_in others)
    (λ t. (
      record {
        counted = told.none t (le-leb 2 number h);
        registers = left_as number words _ words' h (told.registers t);
        rest = left_as number bytes _ bytes' h (told.rest t);
        buffer = short-restore-kept count _ (told.said t) h (told.kept t);
      },
      left_as number set _ set' h (told.noted t),
    ))
    (λ f. ((told.unfit f).0.kept, (told.unfit f).1))

-- nor does a timing that is refused move a register
pub timing-refused : (numbers words bytes words' : List ℕ) (number : ℕ) → TimingLeft numbers words bytes words' number → 2 ≤ number → words' ≡ words
unfolding write_timing written_file refused held_in
timing-refused numbers words bytes words' number told h =
    by-test (fits_in bytes)
    (λ t. let r : leb 2 (code_of (timing_answer (held_in words bytes) (timing_of numbers))) ≡ true = ap (leb 2) (sym (told.said t)) ∙ le-leb 2 number h in
    ap (λ f. f.registers) (told.left t) ∙ rw r)
    (λ f. (told.unfit f).1)
