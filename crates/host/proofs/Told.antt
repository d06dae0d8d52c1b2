-- From what the library's functions promise of a file to what a host is told of its parts. Assumes nothing.
use Prim.Native.Nat.{ℕ, ◌≤◌, ◌<◌}
use mathlib.Core.Path.{◌≡◌, refl, sym, ap, ◌∙◌, subst}
use mathlib.Core.Bool.{true, false, true≢false, cond, ◌&&◌}
use mathlib.Core.List.{List}
use borrow.Author.Tests.{le-leb, lt-leb}
use lib.Dec.{leb}
use Rattle.std.specs.Prelude.{Result, Ok, Err, ⊤}
use Rattle.file.specs.declared.answer.Answer.{Answer}
use Rattle.file.specs.declared.registers.File.{File}
use Rattle.std.specs.Result.{result_unwrap_or}
use Rattle.file.specs.declared.effect.Reach.{Reach}
use Rattle.file.specs.declared.effect.Effect.TheVariants.{Nothing}
use Rattle.file.specs.Effects.{reach_of}
use Rattle.file.specs.Answers.{code_of, refused}
use Rattle.trace.specs.Records.{items}
use Rattle.trace.specs.Run.{run, file_after}
use Rattle.plan.specs.declared.short_answer.ShortAnswer.{ShortAnswer}
use Rattle.plan.specs.declared.short_answer.ShortAnswer.TheVariants.{ShortBuffer, NotSound, NotBeforeRed, OtherChip, Elsewhere}
use Rattle.plan.specs.Promises.{PlanKept}
use Rattle.plan.specs.ShortAnswers.{number_of, code_of as short_code}
use Rattle.plan.specs.ShortPromises.{ShortKept}
use Rattle.short_restoring.specs.declared.kept.ShortRestored.{ShortRestored}
use Rattle.short_restoring.specs.Promises.{ShortRestoreKept}
use Rattle.touched.specs.declared.set.Touched.{Touched}
use Rattle.restoring.specs.declared.Restored.{Restored}
use Rattle.restoring.specs.Promises.{RestoreKept}
use Rattle.access.specs.declared.record.Record.{Record}
use Rattle.access.specs.Access.{read_reach, answer_with}
use Rattle.touched.specs.Noted.{noted}
use Rattle.touched.specs.Things.{nothing}
use Rattle.image.specs.Parts.{fits_in, rest_of, held_in, set_bytes, set_in}
use Rattle.host.specs.Runs.{counted, with_count, Unfit, PlanTold, RunTold, RestoreTold, NoteTold, ShortTold, ShortRestoreTold}

unfit : (words bytes before : List ℕ) → Unfit 12 0 words bytes words bytes before before
unfit words bytes before = record { said = refl; kept = record { counted = refl; registers = refl; rest = refl; buffer = refl } }

-- what stands where a call wrote: with a refusal what stood there
pub refusing : {A : Type 0} (number : ℕ) (x y : A) → 2 ≤ number → x ≡ cond (leb 2 number) x y
refusing number x y h = rw (le-leb 2 number h)

pub doing : {A : Type 0} (number : ℕ) (x y z : A) → number < 2 → z ≡ y → z ≡ cond (leb 2 number) x y
doing number x y z h e = rw (lt-leb 2 number h) e

pub plan-unfit : (words bytes before : List ℕ) → fits_in bytes ≡ false → PlanTold words bytes before 12 0 before
plan-unfit words bytes before e =
    record { unfit = λ f. unfit words bytes before; said = λ t. absurd (true≢false (sym t ∙ e)); kept = λ t. absurd (true≢false (sym t ∙ e)); none = λ t. absurd (true≢false (sym t ∙ e)) }

module _ (words bytes before after : List ℕ) (w : File) (e : w ≡ held_in words bytes) (fit : fits_in bytes ≡ true) where
  pub plan-done : (count : ℕ) → PlanKept w before after (Ok count) → PlanTold words bytes before 0 count after
  unfolding counted refused code_of
  plan-done count k =
      let kept = subst (λ (x : File). PlanKept x before after (Ok count)) e k in
      record {
        unfit = λ f. absurd (true≢false (sym fit ∙ f));
        said = λ t. ap code_of kept.answered;
        kept = λ t. subst (λ (a : Answer). PlanKept (held_in words bytes) before after (counted a count)) kept.answered kept;
        none = λ t h. absurd (true≢false (sym h));
      }

  pub plan-no : (a : Answer) → PlanKept w before after (Err a) → (number : ℕ) → number ≡ code_of a → PlanTold words bytes before number 0 after
  unfolding counted
  plan-no a k number n =
      let kept = subst (λ (x : File). PlanKept x before after (Err a)) e k in
      record {
        unfit = λ f. absurd (true≢false (sym fit ∙ f));
        said = λ t. n ∙ ap code_of kept.answered;
        kept = λ t. subst (λ (x : Answer). PlanKept (held_in words bytes) before after (counted x 0)) kept.answered (rw kept.told.0 kept);
        none = λ t h. refl;
      }

pub run-unfit : (words bytes trace before : List ℕ) → fits_in bytes ≡ false → RunTold words bytes trace before 12 0 words bytes before
run-unfit words bytes trace before e =
    record {
      unfit = λ f. unfit words bytes before;
      said = λ t. absurd (true≢false (sym t ∙ e));
      counted = λ t. absurd (true≢false (sym t ∙ e));
      replied = λ t. absurd (true≢false (sym t ∙ e));
      registers = λ t. absurd (true≢false (sym t ∙ e));
      rest = λ t. absurd (true≢false (sym t ∙ e));
    }

pub run-told : (words bytes trace before : List ℕ) (w : File) → w ≡ held_in words bytes → fits_in bytes ≡ true → (a : Answer) (f : File) (count : ℕ) (after : List ℕ)
    → a ≡ (run w trace before).answer → f ≡ (run w trace before).file → count ≡ (run w trace before).count → after ≡ (run w trace before).buffer
    → (number : ℕ) → number ≡ code_of a → (words' bytes' : List ℕ) → words' ≡ cond (leb 2 number) words f.registers → bytes' ≡ cond (leb 2 number) bytes (rest_of f)
    → RunTold words bytes trace before number count words' bytes' after
run-told words bytes trace before w e fit a f count after sa sf sc sb number n words' bytes' ws r =
    let file : f ≡ (run (held_in words bytes) trace before).file = sf ∙ ap (λ (x : File). (run x trace before).file) e in
    record {
      unfit = λ x. absurd (true≢false (sym fit ∙ x));
      said = λ t. n ∙ ap code_of sa ∙ ap (λ (x : File). code_of (run x trace before).answer) e;
      counted = λ t. sc ∙ ap (λ (x : File). (run x trace before).count) e;
      replied = λ t. sb ∙ ap (λ (x : File). (run x trace before).buffer) e;
      registers = λ t. ws ∙ ap (λ (x : File). cond (leb 2 number) words x.registers) file;
      rest = λ t. r ∙ ap (λ (x : File). cond (leb 2 number) bytes (rest_of x)) file;
    }

pub restore-unfit : (words bytes wanted others before : List ℕ) → (fits_in bytes && fits_in others) ≡ false → RestoreTold words bytes wanted others before 12 0 words bytes before
restore-unfit words bytes wanted others before e =
    record {
      unfit = λ f. unfit words bytes before;
      said = λ t. absurd (true≢false (sym t ∙ e));
      kept = λ t. absurd (true≢false (sym t ∙ e));
      none = λ t. absurd (true≢false (sym t ∙ e));
      registers = λ t. absurd (true≢false (sym t ∙ e));
      rest = λ t. absurd (true≢false (sym t ∙ e));
    }

module _ (words bytes wanted others before after : List ℕ) (f w : File) (ef : f ≡ held_in words bytes) (ew : w ≡ held_in wanted others)
    (fit : (fits_in bytes && fits_in others) ≡ true) (r : Restored) (k : RestoreKept f w before after r) where
  there : (x : Result ℕ Answer) → r.count ≡ x → RestoreKept (held_in words bytes) (held_in wanted others) before after (record { count = x; file = r.file })
  there x e =
      subst (λ (y : Result ℕ Answer). RestoreKept (held_in words bytes) (held_in wanted others) before after (record { count = y; file = r.file })) e
      (subst (λ (x : File). RestoreKept (held_in words bytes) x before after r) ew (subst (λ (x : File). RestoreKept x w before after r) ef k))

  pub restore-done : (count : ℕ) → r.count ≡ Ok count → (words' bytes' : List ℕ) → words' ≡ r.file.registers → bytes' ≡ rest_of r.file
      → RestoreTold words bytes wanted others before 0 count words' bytes' after
  unfolding counted refused code_of
  restore-done count e words' bytes' a b =
      let kept = there (Ok count) e in
      record {
        unfit = λ x. absurd (true≢false (sym fit ∙ x));
        said = λ t. ap code_of kept.answered;
        kept = λ t. subst (λ (x : Restored). RestoreKept (held_in words bytes) (held_in wanted others) before after x) (λ i. record { count = counted (kept.answered i) count; file = kept.told.ran i }) kept;
        none = λ t h. absurd (true≢false (sym h));
        registers = λ t. a ∙ ap (λ (x : File). x.registers) kept.told.ran;
        rest = λ t. b ∙ ap rest_of kept.told.ran;
      }

  pub restore-no : (a : Answer) → r.count ≡ Err a → (number : ℕ) → number ≡ code_of a → RestoreTold words bytes wanted others before number 0 words bytes after
  unfolding counted refused items file_after
  restore-no a e number n =
      let kept = there (Err a) e in
      let large : leb 2 number ≡ true = ap (leb 2) n ∙ kept.told.refuses in
      let uncounted : ◌≡◌ {A = Result ℕ Answer} (Err a) (counted a 0) = rw kept.told.refuses in
      record {
        unfit = λ x. absurd (true≢false (sym fit ∙ x));
        said = λ t. n ∙ ap code_of kept.answered;
        kept = λ t. subst (λ (x : Restored). RestoreKept (held_in words bytes) (held_in wanted others) before after x)
            (λ i. record { count = (uncounted ∙ ap (λ (x : Answer). counted x 0) kept.answered) i; file = kept.told.back i }) kept;
        none = λ t h. refl;
        registers = λ t. rw large;
        rest = λ t. rw large;
      }

pub note-unfit : (words bytes set : List ℕ) (asked : Record) → fits_in bytes ≡ false → NoteTold words bytes set asked 12 set
note-unfit words bytes set asked e =
    record { unfit = λ f. (refl, refl); said = λ t. absurd (true≢false (sym t ∙ e)); noted = λ t. absurd (true≢false (sym t ∙ e)) }

pub note-told : (words bytes set : List ℕ) (asked : Record) → fits_in bytes ≡ true → (r : Result Reach Answer) → r ≡ read_reach (held_in words bytes) asked → (number : ℕ) → number ≡ code_of (answer_with r)
    → (set' : List ℕ) → set' ≡ cond (leb 2 number) set (set_bytes (noted (result_unwrap_or r (reach_of Nothing)) (set_in set))) → NoteTold words bytes set asked number set'
note-told words bytes set asked fit r e number n set' s =
    record {
      unfit = λ x. absurd (true≢false (sym fit ∙ x));
      said = λ t. n ∙ ap (λ (x : Result Reach Answer). code_of (answer_with x)) e;
      noted = λ t. s ∙ ap (λ (x : Result Reach Answer). cond (leb 2 number) set (set_bytes (noted (result_unwrap_or x (reach_of Nothing)) (set_in set)))) e;
    }

pub short-unfit : (words bytes saved others set before : List ℕ) → (fits_in bytes && fits_in others) ≡ false → ShortTold words bytes saved others set before 12 0 before
short-unfit words bytes saved others set before e =
    record { unfit = λ f. unfit words bytes before; said = λ t. absurd (true≢false (sym t ∙ e)); kept = λ t. absurd (true≢false (sym t ∙ e)); none = λ t. absurd (true≢false (sym t ∙ e)) }

module _ (words bytes saved others set before after : List ℕ) (f w : File) (s : Touched) (ef : f ≡ held_in words bytes) (ew : w ≡ held_in saved others) (es : s ≡ set_in set)
    (fit : (fits_in bytes && fits_in others) ≡ true) where
  from-parts : (r : Result ℕ ShortAnswer) → ShortKept f w s before after r → ShortKept (held_in words bytes) (held_in saved others) (set_in set) before after r
  from-parts r k =
      subst (λ (x : Touched). ShortKept (held_in words bytes) (held_in saved others) x before after r) es
      (subst (λ (x : File). ShortKept (held_in words bytes) x s before after r) ew (subst (λ (x : File). ShortKept x w s before after r) ef k))

  pub short-done : (count : ℕ) → ShortKept f w s before after (Ok count) → ShortTold words bytes saved others set before 0 count after
  unfolding with_count short_code
  short-done count k =
      let kept = from-parts (Ok count) k in
      record {
        unfit = λ x. absurd (true≢false (sym fit ∙ x));
        said = λ t. ap short_code kept.answered;
        kept = λ t. subst (λ (x : Result ⊤ ShortAnswer). ShortKept (held_in words bytes) (held_in saved others) (set_in set) before after (with_count x count)) kept.answered kept;
        none = λ t h. absurd (true≢false (sym h));
      }

  pub short-no : (a : ShortAnswer) → ShortKept f w s before after (Err a) → (number : ℕ) → number ≡ number_of a → ShortTold words bytes saved others set before number 0 after
  unfolding with_count short_code
  short-no a k number n =
      let kept = from-parts (Err a) k in
      record {
        unfit = λ x. absurd (true≢false (sym fit ∙ x));
        said = λ t. n ∙ ap short_code kept.answered;
        kept = λ t. subst (λ (x : Result ⊤ ShortAnswer). ShortKept (held_in words bytes) (held_in saved others) (set_in set) before after (with_count x 0)) kept.answered kept;
        none = λ t h. refl;
      }

pub short-restore-unfit : (words bytes saved others set before : List ℕ) → (fits_in bytes && fits_in others) ≡ false
    → ShortRestoreTold words bytes saved others set before 12 0 words bytes set before
short-restore-unfit words bytes saved others set before e =
    record {
      unfit = λ f. (unfit words bytes before, refl);
      said = λ t. absurd (true≢false (sym t ∙ e));
      kept = λ t. absurd (true≢false (sym t ∙ e));
      none = λ t. absurd (true≢false (sym t ∙ e));
      registers = λ t. absurd (true≢false (sym t ∙ e));
      rest = λ t. absurd (true≢false (sym t ∙ e));
      noted = λ t. absurd (true≢false (sym t ∙ e));
    }

-- every refusal of a short plan is a code from 2 up
large : (a : ShortAnswer) (number : ℕ) → number ≡ number_of a → leb 2 number ≡ true
unfolding number_of
large ShortBuffer number n = rw n
large NotSound number n = rw n
large NotBeforeRed number n = rw n
large OtherChip number n = rw n
large Elsewhere number n = rw n

module _ (words bytes saved others set before after : List ℕ) (f w : File) (s : Touched) (ef : f ≡ held_in words bytes) (ew : w ≡ held_in saved others) (es : s ≡ set_in set)
    (fit : (fits_in bytes && fits_in others) ≡ true) (r : ShortRestored) (k : ShortRestoreKept f w s before after r) where
  shorts : (x : Result ℕ ShortAnswer) → r.count ≡ x
      → ShortRestoreKept (held_in words bytes) (held_in saved others) (set_in set) before after (record { count = x; file = r.file; touched = r.touched })
  shorts x e =
      subst (λ (y : Result ℕ ShortAnswer). ShortRestoreKept (held_in words bytes) (held_in saved others) (set_in set) before after (record { count = y; file = r.file; touched = r.touched })) e
      (subst (λ (x : Touched). ShortRestoreKept (held_in words bytes) (held_in saved others) x before after r) es
      (subst (λ (x : File). ShortRestoreKept (held_in words bytes) x s before after r) ew (subst (λ (x : File). ShortRestoreKept x w s before after r) ef k)))

  pub short-restore-done : (count : ℕ) → r.count ≡ Ok count → (words' bytes' set' : List ℕ) → words' ≡ r.file.registers → bytes' ≡ rest_of r.file → set' ≡ set_bytes r.touched
      → ShortRestoreTold words bytes saved others set before 0 count words' bytes' set' after
  unfolding with_count short_code
  short-restore-done count e words' bytes' set' a b u =
      let kept = shorts (Ok count) e in
      record {
        unfit = λ x. absurd (true≢false (sym fit ∙ x));
        said = λ t. ap short_code kept.answered;
        kept = λ t. subst (λ (x : ShortRestored). ShortRestoreKept (held_in words bytes) (held_in saved others) (set_in set) before after x)
            (λ i. record { count = with_count (kept.answered i) count; file = kept.told.ran i; touched = kept.told.noted i }) kept;
        none = λ t h. absurd (true≢false (sym h));
        registers = λ t. a ∙ ap (λ (x : File). x.registers) kept.told.ran;
        rest = λ t. b ∙ ap rest_of kept.told.ran;
        noted = λ t. u ∙ ap set_bytes kept.told.noted;
      }

  pub short-restore-no : (a : ShortAnswer) → r.count ≡ Err a → (number : ℕ) → number ≡ number_of a
      → ShortRestoreTold words bytes saved others set before number 0 words bytes set after
  unfolding with_count short_code items file_after
  short-restore-no a e number n =
      let kept = shorts (Err a) e in
      let two = large a number n in
      let stays : set_in set ≡ cond (leb 2 number) (set_in set) nothing = rw two in
      record {
        unfit = λ x. absurd (true≢false (sym fit ∙ x));
        said = λ t. n ∙ ap short_code kept.answered;
        kept = λ t. subst (λ (x : ShortRestored). ShortRestoreKept (held_in words bytes) (held_in saved others) (set_in set) before after x)
            (λ i. record { count = with_count (kept.answered i) 0; file = kept.told.back i; touched = (kept.told.noted ∙ stays) i }) kept;
        none = λ t h. refl;
        registers = λ t. rw two;
        rest = λ t. rw two;
        noted = λ t. rw two;
      }
