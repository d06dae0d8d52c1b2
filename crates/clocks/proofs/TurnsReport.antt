-- A turn, and a course of turns: what they handed to be written, and then the summary, is what 02, 12/13 prints of the input that they read.
-- Assumes nothing.
use Rattle.std.specs.Prelude.{Result, Ok}
use Prim.Native.Nat.{ℕ, ◌+◌, ◌*◌, ◌%◌, ◌^◌, ◌≤◌}
use mathlib.Core.Bool.{true, false, true≢false}
use mathlib.Core.List.{List, ◌++◌}
use mathlib.Core.Logic.{◌⊎◌, inl, inr}
use mathlib.Core.Path.{◌≡◌, refl, sym, ap, ◌∙◌}
use native.Mathlib.Nat.{zero-add}
use native.Mathlib.Omega.{arith}
use borrow.Author.Tests.{eqb-false, eqb-true, le-leb}
use lib.Dec.{eqb}
use lib.ListN.{length, take, drop, length-append}
use lib.Seq.{take_at}
use Rattle.io.specs.Counts.{IsPrefixLen}
use Rattle.file.specs.declared.answer.Answer.{Answer}
use Rattle.file.specs.declared.answer.Answer.TheVariants.{Done}
use Rattle.file.specs.Answers.{code_of, refused}
use Rattle.text.specs.declared.placed.Placed.{Placed}
use Rattle.text.specs.Lent.{Lined, behind_by, placed_by}
use Rattle.clock_text.specs.declared.parts.SetsPart.{SetsPart}
use Rattle.clock_text.specs.declared.tally.Tally.{Tally}
use Rattle.clock_text.specs.Parts.{Countable, PartReported, counts_fit, part_answer, part_left, sets_fit, summary_answer, summary_most}
use Rattle.clock_text.specs.Report.{clock_lines, report, summary}
use Rattle.clock_text.specs.Sets.{no_tally, set_clocks, set_count, tallied}
use Rattle.bits.proofs.Test.{by-test}
use Rattle.clock_text.proofs.InParts.{lines-in-parts, sets-in-parts, tally-in-parts}
use Rattle.shell.specs.Parts.{counted}
use Rattle.shell.proofs.Bounds.{counts}
use Rattle.clocks.specs.declared.course.Course.{Course}
use Rattle.clocks.specs.declared.course.Going.{Going}
use Rattle.clocks.specs.declared.course.Going.TheVariants.{More, Ended, Failed}
use Rattle.clocks.specs.declared.course.Turn.{Turn}
use Rattle.clocks.specs.Turns.{Came, Turned, Turns, beginning, course_after, course_of, failed_after, going_behind, has_failed, has_more, sets_of, turn_lines}
use Rattle.clocks.specs.Turns.Turns.{none, then, uncounted, unread, unwritten}
use Rattle.clocks.proofs.Bounds.{part-within}

-- a part that was reported is a turn
module _ (before : Course) (part lines₀ lines : List ℕ) (r : Result SetsPart Answer) (within : length part ≤ 6144) (room : Countable before.tally 2048)
    (wide : 30720 ≤ length lines₀) (parted : PartReported before.tally part lines₀ lines r) where
  few : set_count part ≤ 2048
  few = part-within part within

  answers : part_answer before.tally part lines₀ ≡ Done 0
  unfolding part_answer sets_fit counts_fit
  answers =
      rw (
        le-leb (15 * set_count part + 0) (length lines₀) (omega (arith, few, wide)),
        le-leb (before.tally.rates + set_count part) 18446744073709551615 (omega (arith, few, room.rates)),
        le-leb (before.tally.nones + set_count part) 18446744073709551615 (omega (arith, few, room.nones)),
        le-leb (before.tally.refused + set_count part) 18446744073709551615 (omega (arith, few, room.refused)),
      ) refl

  told : r ≡ Ok (part_left before.tally part)
  unfolding refused code_of
  told = parted.answered ∙ rw answers refl

  -- so it is not refused
  pub part-told : ((p : SetsPart) → r ≡ Ok p → ⊥) → ⊥
  part-told never = never (part_left before.tally part) told

  module _ (p : SetsPart) (so : r ≡ Ok p) where
    parts : p ≡ part_left before.tally part
    parts = let same : ◌≡◌ {A = Result SetsPart Answer} (Ok p) (Ok (part_left before.tally part)) = sym so ∙ told in cc

    ended : p.end ≡ length (clock_lines (set_clocks part))
    unfolding part_left
    ended = ap (λ (x : SetsPart). x.end) parts

    pub turn-done : (going : Going) → going ≡ going_behind (length part)
        → Turned before part lines₀ lines (record { end = p.end; course = record { tally = p.tally; going = going; read = before.read; handed = before.handed } })
    unfolding course_after turn_lines placed_by refused code_of part_left
    turn-done going full =
        record {
          end = ended;
          course = rw (parts, full) refl;
          printed =
              parted.lined
              ∙ rw answers (ap (λ (k : ℕ). clock_lines (set_clocks part) ++ drop k lines₀) (zero-add _ ∙ sym ended));
        }

-- what a turn's buffer holds up to where its lines end is its lines
pub made : {before : Course} {part lines₀ lines : List ℕ} {r : Turn} → Turned before part lines₀ lines r → take r.end lines ≡ turn_lines part
made {before} {part} {lines₀} {lines} {r} t = ap (take r.end) t.printed ∙ take_at (turn_lines part) (drop r.end lines₀) r.end (sym t.end)

-- they are in it
pub lines-within : {before : Course} {part lines₀ lines : List ℕ} {r : Turn} → Turned before part lines₀ lines r → IsPrefixLen r.end lines
lines-within {before} {part} {lines₀} {lines} {r} t =
    counts lines r.end (omega (arith, t.end, ap length t.printed ∙ length-append (turn_lines part) (drop r.end lines₀)))

-- a part behind which there is more to read is a whole buffer, one behind which there isn't is none, and neither has failed
pub behind-more : (size : ℕ) → has_more (going_behind size) ≡ true → size ≡ 6144
unfolding has_more going_behind
behind-more size more = by-test (eqb size 6144) (λ e. eqb-true size 6144 e) (λ e. absurd (true≢false (sym (rw e at more))))

behind-last : (size : ℕ) → has_more (going_behind size) ≡ false → size ≡ 6144 → ⊥
unfolding has_more going_behind
behind-last size last = by-test (eqb size 6144) (λ e. absurd (true≢false (rw e at last))) (λ e. eqb-false size 6144 e)

behind_unfailed : (size : ℕ) → has_failed (going_behind size) ≡ false
unfolding has_failed going_behind
behind_unfailed size = by-test (eqb size 6144) (λ e. rw e refl) (λ e. rw e refl)

-- a course with more to read has not failed
pub more-unfailed : {input text : List ℕ} {r : Course} → Turns input text r → has_more r.going ≡ true → has_failed r.going ≡ false
unfolding beginning course_after failed_after has_more has_failed
more-unfailed none more = refl
more-unfailed (then part read handed turns brought on) more = behind_unfailed (length part)
more-unfailed (unread part read turns brought) more = absurd (true≢false (sym more))
more-unfailed (unwritten part read handed turns brought on) more = absurd (true≢false (sym more))
more-unfailed (uncounted turns goes many) more = absurd (true≢false (sym more))

-- what a course without a failure has come to, by the input that was read
pub record Stands (input text : List ℕ) (r : Course) : Type 0 where
  pub tally : r.tally ≡ tallied no_tally (set_clocks input)
  pub printed : text ≡ clock_lines (set_clocks input)
  pub whole : has_more r.going ≡ true → length input % 6144 ≡ 0
  pub last : has_more r.going ≡ false → r.read.count ≡ length input % 6144

pub turns-stand : {input text : List ℕ} {r : Course} → Turns input text r → has_failed r.going ≡ false → Stands input text r
unfolding beginning course_after failed_after has_more has_failed turn_lines set_clocks clock_lines tallied
turns-stand (unread part read turns brought) e = absurd (true≢false e)
turns-stand (unwritten part read handed turns brought on) e = absurd (true≢false e)
turns-stand (uncounted turns goes many) e = absurd (true≢false e)
turns-stand none e = record { tally = refl; printed = refl; whole = λ _. refl; last = λ e. absurd (true≢false e) }
turns-stand (then {input} {text} {before} part read handed turns brought on) e =
    let held = turns-stand turns (more-unfailed turns brought.goes) in
    let parts : length input % 6144 ≡ 0 = held.whole brought.goes in
    let both = sets-in-parts input part (omega (arith, parts)) in
    record {
      tally =
          ap (λ (t : Tally). tallied t (set_clocks part)) held.tally
          ∙ sym (tally-in-parts no_tally (set_clocks input) (set_clocks part)) ∙ ap (tallied no_tally) (sym both);
      printed =
          ap (λ (l : List ℕ). l ++ clock_lines (set_clocks part)) held.printed
          ∙ sym (lines-in-parts (set_clocks input) (set_clocks part)) ∙ ap clock_lines (sym both);
      whole =
          λ more. let full : length part ≡ 6144 = behind-more (length part) more in
          rw length-append (omega (arith, parts, full));
      last =
          λ more. let short : length part ≡ 6144 → ⊥ = behind-last (length part) more in
          rw length-append (omega (arith, parts, short, brought.within, brought.count));
    }

-- 02, 12/13: 'prints a line for each .., then the counts .., and the largest and smallest rate'
pub turns-report : {input text : List ℕ} {r : Course} → Turns input text r → has_failed r.going ≡ false → text ++ summary r.tally ≡ report input
unfolding report
turns-report turns e =
    let held = turns-stand turns e in
    rw (held.printed, held.tally) refl

counted-on : (before all : ℕ) (xs ys : List ℕ) → before ≡ length xs % 2 ^ 64 → all ≡ counted before (length ys) → all ≡ length (xs ++ ys) % 2 ^ 64
counted-on before all xs ys e counts = rw length-append (omega (arith, e, counts))

-- what a course says was read and handed to be written, in all: as many bytes as its input and its text have
pub turns-counted : {input text : List ℕ} {r : Course} → Turns input text r
    → (r.read.all ≡ length input % 2 ^ 64) × (r.handed.all ≡ length text % 2 ^ 64)
unfolding beginning course_after failed_after
turns-counted none = (refl, refl)
turns-counted (unread {input} part read turns brought) =
    (counted-on _ _ input part (turns-counted turns).0 brought.all, (turns-counted turns).1)
turns-counted (then {input} {text} part read handed turns brought on) =
    (counted-on _ _ input part (turns-counted turns).0 brought.all, counted-on _ _ text (turn_lines part) (turns-counted turns).1 on.all)
turns-counted (unwritten {input} {text} part read handed turns brought on) =
    (counted-on _ _ input part (turns-counted turns).0 brought.all, counted-on _ _ text (turn_lines part) (turns-counted turns).1 on.all)
turns-counted (uncounted turns goes many) = turns-counted turns

-- a course that has failed has a read or a write that failed, or as many sets that 64 bits have no number for a buffer of them more
pub turns-failed : {input text : List ℕ} {r : Course} → Turns input text r → has_failed r.going ≡ true
    → (r.read.failed ≡ true) ⊎ ((r.handed.failed ≡ true) ⊎ (2 ^ 64 ≤ sets_of r.tally + 2048))
unfolding beginning course_after failed_after has_failed
turns-failed none e = absurd (true≢false (sym e))
turns-failed (then part read handed turns brought on) e = absurd (true≢false (sym e ∙ behind_unfailed (length part)))
turns-failed (unread part read turns brought) e = inl brought.so
turns-failed (unwritten part read handed turns brought on) e = inr (inl on.so)
turns-failed (uncounted turns goes many) e = inr (inr many)

-- and where nothing failed, no read and no write did
pub turns-unfailed : {input text : List ℕ} {r : Course} → Turns input text r → has_failed r.going ≡ false → (r.read.failed ≡ false) × (r.handed.failed ≡ false)
unfolding beginning course_after failed_after has_failed
turns-unfailed none e = (refl, refl)
turns-unfailed (then part read handed turns brought on) e = (brought.so, on.so)
turns-unfailed (unread part read turns brought) e = absurd (true≢false e)
turns-unfailed (unwritten part read handed turns brought on) e = absurd (true≢false e)
turns-unfailed (uncounted turns goes many) e = absurd (true≢false e)

-- a course with no more to read that has not failed has ended
has-ended : (going : Going) → has_more going ≡ false → has_failed going ≡ false → going ≡ Ended
unfolding has_more has_failed
has-ended More more failed = absurd (true≢false more)
has-ended Ended more failed = refl
has-ended Failed more failed = absurd (true≢false failed)

-- a course that came to its end without a failure is a function of the input that was read
pub course-of : {r : Course} (c : Came r) → has_failed r.going ≡ false → r ≡ course_of c.input
unfolding course_of
course-of {r} c e =
    let held = turns-stand c.turns e in
    let all = turns-counted c.turns in
    let good = turns-unfailed c.turns e in
    λ i. record {
      tally = held.tally i;
      going = has-ended r.going c.ended e i;
      read = record { count = held.last c.ended i; failed = good.0 i; all = all.0 i };
      handed = record { all = (all.1 ∙ ap (λ (l : List ℕ). length l % 2 ^ 64) held.printed) i; failed = good.1 i };
    }

-- the summary stands in a buffer that is long enough
module _ (t : Tally) (before after : List ℕ) (room : summary_most ≤ length before) (r : Placed)
    (lined : Lined (summary_answer before 0) 0 (summary t) before after r) where
  said : Lined (Done 0) 0 (summary t) before after r
  unfolding summary_answer
  said = rw (le-leb (0 + summary_most) (length before) (omega (arith, room))) at lined

  stop : r.end ≡ length (summary t)
  unfolding behind_by refused code_of
  stop = said.ended ∙ zero-add _

  stored : after ≡ summary t ++ drop r.end before
  unfolding placed_by behind_by refused code_of
  stored = said.bytes ∙ ap (λ (k : ℕ). summary t ++ drop k before) (sym said.ended)

  pub summary-stands : IsPrefixLen r.end after × ((r.end ≡ length (summary t)) × (after ≡ summary t ++ drop r.end before))
  summary-stands = (counts after r.end (omega (arith, stop, ap length stored ∙ length-append (summary t) (drop r.end before))), (stop, stored))
