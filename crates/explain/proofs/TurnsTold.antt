-- A turn, and a course of turns: what they handed to be written, and then the end, is what is told of the trace that they read. Assumes nothing.
use Prim.Native.Nat.{ℕ, ◌+◌, ◌%◌, ◌^◌, ◌≤◌}
use mathlib.Core.Bool.{Bool, true, false, cond, true≢false}
use mathlib.Core.List.{List, [], ◌++◌, append-nil}
use mathlib.Core.Logic.{◌⊎◌, inl, inr}
use mathlib.Core.Path.{◌≡◌, refl, sym, ap, ap₂, ◌∙◌, subst}
use native.Mathlib.Nat.{add-zero, zero-add}
use native.Mathlib.Omega.{arith}
use borrow.Author.Tests.{eqb-true}
use lib.Dec.{eqb}
use lib.ListN.{length, take, drop, length-append}
use Rattle.bits.proofs.Test.{by-test}
use lib.Seq.{take_at}
use Rattle.io.specs.Counts.{IsPrefixLen}
use Rattle.file.specs.declared.chip.Chip.{Chip}
use Rattle.file.specs.declared.registers.File.{File}
use Rattle.file.specs.File.{power_on}
use Rattle.access.specs.declared.record.Item.{Item}
use Rattle.access.specs.Access.{access_item}
use Rattle.trace.specs.Records.{item_count, item_of, items}
use Rattle.replaying.specs.Replay.{after_part}
use Rattle.replaying.proofs.Pieces.{file-parts, parts-count}
use Rattle.shell.specs.Parts.{counted}
use Rattle.summing.specs.Closing.{summary_text}
use Rattle.shell.proofs.Bounds.{counts}
use Rattle.shell.proofs.Turns.{counted-on, none_after}
use Rattle.explain.specs.declared.course.Course.{Course}
use Rattle.explain.specs.declared.course.Going.{Going}
use Rattle.explain.specs.declared.course.Going.TheVariants.{Failed}
use Rattle.shell.specs.declared.telling.Handed.{Handed}
use Rattle.explain.specs.declared.course.Turn.{Turn}
use Rattle.summing.specs.declared.summary.Summary.{Summary}
use Rattle.summing.specs.Summed.{begun, summed}
use Rattle.summing.specs.Told.{closing, part_summed, part_told, record_summed, record_told, trace_told}
use Rattle.explain.specs.Turns.{Closed, Finished, Turned, Turns, beginning, course_after, failed_after, going_behind, has_failed, has_more, turn_lines, whole_text, with_summary}
use Rattle.explain.specs.Turns.Closed.{failed, plain, summed as closed}
use Rattle.explain.specs.Turns.Turns.{none, then, uncounted, unread, unwritten}
use Rattle.explain.proofs.ToldInParts.{no-after, no_item, no-summed, no-told, none-summed, none_told, one-after, one-item, one-summed, one_told, summed-parts, told-parts}

-- ---- a turn

module _ (sums : Bool) (before : Course) (part lines₀ : List ℕ) where
  -- nothing was read
  pub turn-none : length part ≡ 0 → Turned sums before part lines₀ lines₀
      (record { end = 0; course = record { number = before.number; going = going_behind (length part); read = before.read; handed = before.handed; file = before.file; summary = before.summary } })
  unfolding course_after turn_lines
  turn-none h =
      record {
        end = rw (no-told part sums before.number before.file h) refl;
        course = rw (no_item part h, no-after part before.file h, no-summed part sums before.summary before.file h, add-zero) refl;
        printed = rw (no-told part sums before.number before.file h) refl;
      }

  -- a record, or its fragment
  pub turn_one : (length part ≡ 0 → ⊥) → length part ≤ 8 → (item : Item) → item ≡ item_of (take 8 part) → (end : ℕ) (lines : List ℕ)
      → end ≡ length (record_told sums before.number before.file item)
      → lines ≡ record_told sums before.number before.file item ++ drop end lines₀
      → (file : File) → file ≡ (access_item before.file item).file → (s : Summary) → s ≡ record_summed sums before.summary before.file item → (going : Going) → going ≡ going_behind (length part)
      → Turned sums before part lines₀ lines
      (record { end = end; course = record { number = before.number + 1; going = going; read = before.read; handed = before.handed; file = file; summary = s } })
  unfolding course_after turn_lines
  turn_one some few item e end lines ended printed file went s sums-up going full =
      let told : record_told sums before.number before.file item ≡ part_told sums before.number before.file part =
      ap (record_told sums before.number before.file) e ∙ sym (one_told part sums before.number before.file some few) in
      let kept : s ≡ part_summed sums before.summary before.file part =
      sums-up ∙ ap (record_summed sums before.summary before.file) e ∙ sym (one-summed part sums before.summary before.file some few) in
      let gone : file ≡ after_part before.file part =
      went ∙ ap (λ (i : Item). (access_item before.file i).file) e ∙ sym (one-after part before.file some few) in
      record {
        end = ended ∙ ap length told;
        course = rw (one-item part some few, full, gone, kept) refl;
        printed = printed ∙ ap (λ (l : List ℕ). l ++ drop end lines₀) told;
      }

-- what a turn's buffer holds up to where its lines end is its lines
pub made : {sums : Bool} {before : Course} {part lines₀ lines : List ℕ} {r : Turn} → Turned sums before part lines₀ lines r
    → take r.end lines ≡ turn_lines sums before part
made {sums} {before} {part} {lines₀} {lines} {r} t =
    ap (take r.end) t.printed ∙ take_at (turn_lines sums before part) (drop r.end lines₀) r.end (sym t.end)

-- they are in it
pub lines-within : {sums : Bool} {before : Course} {part lines₀ lines : List ℕ} {r : Turn} → Turned sums before part lines₀ lines r → IsPrefixLen r.end lines
lines-within {sums} {before} {part} {lines₀} {lines} {r} t =
    counts lines r.end (omega (arith, t.end, ap length t.printed ∙ length-append (turn_lines sums before part) (drop r.end lines₀)))

-- ---- turns

-- a part behind which there is more to read is a whole record, and none behind it has failed
pub behind-more : (size : ℕ) → has_more (going_behind size) ≡ true → size ≡ 8
unfolding has_more going_behind
behind-more size more = by-test (eqb size 8) (λ e. eqb-true size 8 e) (λ e. absurd (true≢false (sym (rw e at more))))

behind_unfailed : (size : ℕ) → has_failed (going_behind size) ≡ false
unfolding has_failed going_behind
behind_unfailed size = by-test (eqb size 8) (λ e. rw e refl) (λ e. rw e refl)

-- a course with more to read has not failed
pub more-unfailed : {chip : Chip} {sums : Bool} {trace text : List ℕ} {r : Course} → Turns chip sums trace text r → has_more r.going ≡ true → has_failed r.going ≡ false
unfolding beginning course_after failed_after has_more has_failed
more-unfailed none more = refl
more-unfailed (then part read handed turns brought on) more = behind_unfailed (length part)
more-unfailed (unread part read turns brought) more = absurd (true≢false (sym more))
more-unfailed (unwritten part read handed turns brought on) more = absurd (true≢false (sym more))
more-unfailed (uncounted turns goes many) more = absurd (true≢false (sym more))

-- what a course without a failure has come to, by the trace that was read
pub record Stands (chip : Chip) (sums : Bool) (trace text : List ℕ) (r : Course) : Type 0 where
  pub file : r.file ≡ after_part (power_on chip) trace
  pub number : r.number ≡ item_count trace
  pub printed : text ≡ part_told sums 0 (power_on chip) trace
  pub summary : r.summary ≡ part_summed sums (begun (power_on chip)) (power_on chip) trace
  pub whole : has_more r.going ≡ true → length trace % 8 ≡ 0

pub turns-stand : {chip : Chip} {sums : Bool} {trace text : List ℕ} {r : Course} → Turns chip sums trace text r → has_failed r.going ≡ false
    → Stands chip sums trace text r
unfolding beginning course_after failed_after has_more has_failed turn_lines item_count
turns-stand (unread part read turns brought) e = absurd (true≢false e)
turns-stand (unwritten part read handed turns brought on) e = absurd (true≢false e)
turns-stand (uncounted turns goes many) e = absurd (true≢false e)
turns-stand {chip} {sums} none e =
    record {
      file = none_after (power_on chip);
      number = refl;
      printed = sym (none_told sums 0 (power_on chip));
      summary = sym (none-summed sums (begun (power_on chip)) (power_on chip));
      whole = λ _. refl;
    }
turns-stand {chip} {sums} (then {trace} {text} {before} part read handed turns brought on) e =
    let held = turns-stand turns (more-unfailed turns brought.goes) in
    let whole : length trace % 8 ≡ 0 = held.whole brought.goes in
    record {
      file = ap (λ (f : File). after_part f part) held.file ∙ sym (file-parts trace part whole (power_on chip));
      number = ap (λ (k : ℕ). k + item_count part) held.number ∙ sym (parts-count trace part whole);
      printed =
          ap₂ (λ (a b : List ℕ). a ++ b) held.printed
          (ap₂ (λ (k : ℕ) (f : File). part_told sums k f part) (held.number ∙ sym (zero-add _)) held.file)
          ∙ sym (told-parts sums 0 (power_on chip) trace part whole);
      summary =
          ap₂ (λ (s : Summary) (f : File). part_summed sums s f part) held.summary held.file
          ∙ sym (summed-parts sums (begun (power_on chip)) (power_on chip) trace part whole);
      whole =
          λ more. let full : length part ≡ 8 = behind-more (length part) more in
          rw length-append (omega (arith, whole, full));
    }

-- what a course says was read and handed to be written, in all: as many bytes as its trace and its text have
pub turns-counted : {chip : Chip} {sums : Bool} {trace text : List ℕ} {r : Course} → Turns chip sums trace text r
    → (r.read.all ≡ length trace % 2 ^ 64) × (r.handed.all ≡ length text % 2 ^ 64)
unfolding beginning course_after failed_after has_more has_failed
turns-counted none = (refl, refl)
turns-counted (unread {trace} part read turns brought) =
    (counted-on _ _ trace part (turns-counted turns).0 brought.all, (turns-counted turns).1)
turns-counted {chip} {sums} (then {trace} {text} {before} part read handed turns brought on) = (
  counted-on _ _ trace part (turns-counted turns).0 brought.all,
  counted-on _ _ text (turn_lines sums before part) (turns-counted turns).1 on.all,
)
turns-counted {chip} {sums} (unwritten {trace} {text} {before} part read handed turns brought on) = (
  counted-on _ _ trace part (turns-counted turns).0 brought.all,
  counted-on _ _ text (turn_lines sums before part) (turns-counted turns).1 on.all,
)
turns-counted (uncounted turns goes many) = turns-counted turns

-- a course that has failed has a read or a write that failed, or 64 bits have no number for a record more
pub turns-failed : {chip : Chip} {sums : Bool} {trace text : List ℕ} {r : Course} → Turns chip sums trace text r → has_failed r.going ≡ true
    → (r.read.failed ≡ true) ⊎ ((r.handed.failed ≡ true) ⊎ (2 ^ 64 ≤ r.number + 1))
unfolding beginning course_after failed_after has_more has_failed
turns-failed none e = absurd (true≢false (sym e))
turns-failed (then part read handed turns brought on) e = absurd (true≢false (sym e ∙ behind_unfailed (length part)))
turns-failed (unread part read turns brought) e = inl brought.so
turns-failed (unwritten part read handed turns brought on) e = inr (inl on.so)
turns-failed (uncounted turns goes many) e = inr (inr many)

-- and where nothing failed, no read and no write did
pub turns-unfailed : {chip : Chip} {sums : Bool} {trace text : List ℕ} {r : Course} → Turns chip sums trace text r → has_failed r.going ≡ false
    → (r.read.failed ≡ false) × (r.handed.failed ≡ false)
unfolding beginning course_after failed_after has_more has_failed
turns-unfailed none e = (refl, refl)
turns-unfailed (then part read handed turns brought on) e = (brought.so, on.so)
turns-unfailed (unread part read turns brought) e = absurd (true≢false e)
turns-unfailed (unwritten part read handed turns brought on) e = absurd (true≢false e)
turns-unfailed (uncounted turns goes many) e = absurd (true≢false e)

-- ---- the end

closed-unfailed : {sums : Bool} {before r : Course} → Closed sums before r → has_failed r.going ≡ false → has_failed before.going ≡ false
closed-unfailed (failed so) e = e
closed-unfailed (plain so not) e = so
closed-unfailed (closed handed so goes all) e = so

-- a course with its summary handed on, and how it goes on then
unfoldable with_going : Going → Handed → Course → Course
with_going going handed c = record { number = c.number; going = going; read = c.read; handed = handed; file = c.file; summary = c.summary }

-- the summary was written, or wasn't
module _ {sums : Bool} {before : Course} (handed : Handed) (so : has_failed before.going ≡ false) (goes : sums ≡ true)
    (all : handed.all ≡ counted before.handed.all (length (summary_text before.summary))) where
  there : Closed sums before (with_summary handed before)
  there = closed handed so goes all

  going-on : (b : Bool) → handed.failed ≡ b → Closed sums before (with_going (cond b Failed before.going) handed before)
  unfolding with_going
  going-on b e = subst (λ (t : Bool). Closed sums before (with_going (cond t Failed before.going) handed before)) e there

  pub closed-written : handed.failed ≡ false → Closed sums before
      (record { number = before.number; going = before.going; read = before.read; handed = handed; file = before.file; summary = before.summary })
  unfolding with_going
  closed-written e = going-on false e

  pub closed-unwritten : handed.failed ≡ true → (r : Course)
      → r ≡ failed_after (record { number = before.number; going = before.going; read = before.read; handed = handed; file = before.file; summary = before.summary })
      → Closed sums before r
  unfolding failed_after with_going
  closed-unwritten e r same = rw same (going-on true e)

-- where nothing is summed, nothing stands at the end
closing-of : (sums : Bool) (chip : Chip) (trace : List ℕ) → closing sums (part_summed sums (begun (power_on chip)) (power_on chip) trace)
    ≡ closing sums (summed (power_on chip) (items (item_count trace) trace))
unfolding closing part_summed summed
closing-of true chip trace = refl
closing-of false chip trace = refl

-- 'for each record': what the program handed to be written is what is told of the trace that it read, from the chip's power-on
pub finished-told : {chip : Chip} {sums : Bool} {r : Course} (e : Finished chip sums r) → has_failed r.going ≡ false → whole_text e ≡ trace_told sums chip e.came.trace
unfolding whole_text trace_told
finished-told {chip} {sums} e so =
    let none = closed-unfailed e.closed so in
    let held = turns-stand e.came.turns none in
    rw (none, held.printed, held.summary, closing-of sums chip e.came.trace) refl

-- as many bytes were handed on as it has
pub finished-counted : {chip : Chip} {sums : Bool} {r : Course} (e : Finished chip sums r) → r.handed.all ≡ length (whole_text e) % 2 ^ 64
unfolding whole_text closing
finished-counted e = counted-by e.closed e.came.text (turns-counted e.came.turns).1
  where
    counted-by : {sums : Bool} {before r : Course} → Closed sums before r → (text : List ℕ) → before.handed.all ≡ length text % 2 ^ 64
        → r.handed.all ≡ length (text ++ cond (has_failed before.going) [] (closing sums before.summary)) % 2 ^ 64
    counted-by (failed so) text e = rw (so, append-nil) e
    counted-by (plain so not) text e = rw (so, not, append-nil) e
    counted-by (closed handed so goes all) text e = rw (so, goes) (counted-on _ _ text _ e all)

-- it has failed only if a read or a write has, or 64 bits have no number for a record more
pub finished-failed : {chip : Chip} {sums : Bool} {r : Course} → Finished chip sums r → has_failed r.going ≡ true
    → (r.read.failed ≡ true) ⊎ ((r.handed.failed ≡ true) ⊎ (2 ^ 64 ≤ r.number + 1))
finished-failed e so = failed-by e.closed (turns-failed e.came.turns) so
  where
    summed-failed : (handed : Handed) (going : Going) → has_failed going ≡ false → has_failed (cond handed.failed Failed going) ≡ true → handed.failed ≡ true
    summed-failed handed going so e = by-test handed.failed (λ t. t) (λ t. absurd (true≢false (sym (rw t at e) ∙ so)))

    Why : Course → Type 0
    Why r = (r.read.failed ≡ true) ⊎ ((r.handed.failed ≡ true) ⊎ (2 ^ 64 ≤ r.number + 1))

    failed-by : {sums : Bool} {before r : Course} → Closed sums before r → (has_failed before.going ≡ true → Why before) → has_failed r.going ≡ true → Why r
    failed-by (failed so) why e = why e
    failed-by (plain so not) why e = why e
    failed-by (closed handed so goes all) why e = inr (inl (summed-failed handed _ so e))
