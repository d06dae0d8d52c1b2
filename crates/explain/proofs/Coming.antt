-- A course on its way, turn by turn, and how it ends. Assumes nothing.
use Prim.Native.Nat.{ℕ, ◌+◌, ◌-◌, ◌≤◌, ◌<◌}
use mathlib.Core.Bool.{Bool, true, false, cond}
use mathlib.Core.List.{List, [], ◌++◌}
use mathlib.Core.Path.{◌≡◌, refl, sym, ap, ap₂, ◌∙◌, subst}
use native.Mathlib.Omega.{arith}
use lib.ListN.{length, take}
use Rattle.bits.proofs.Test.{by-test}
use Rattle.file.specs.declared.chip.Chip.{Chip}
use Rattle.file.specs.File.{power_on}
use Rattle.file.specs.State.{initial}
use Rattle.trace.specs.Records.{item_count}
use Rattle.shell.specs.Parts.{counted}
use Rattle.shell.specs.declared.reading.Filled.{Filled}
use Rattle.shell.specs.declared.telling.Handed.{Handed}
use Rattle.explain.specs.declared.course.Course.{Course}
use Rattle.explain.specs.declared.course.Turn.{Turn}
use Rattle.explain.specs.Turns.{Brought, Came, HandedOn, Turned, Turns, beginning, course_after, failed_after, has_more, over_after, turn_lines, with_read}
use Rattle.explain.specs.Turns.Turns.{none, then, uncounted, unread, unwritten}
use Rattle.explain.proofs.TurnsTold.{behind-more, made}

-- a course with so many turns left: each turn that leaves more to read took a record
pub record Coming (chip : Chip) (sums : Bool) (turns : ℕ) (r : Course) : Type 0 where
  pub trace : List ℕ
  pub text : List ℕ
  pub led : Turns chip sums trace text r
  pub low : r.number + turns ≤ 18446744073709551615
  pub left : has_more r.going ≡ true → r.number + turns ≡ 18446744073709551615

pub coming-none : (chip : Chip) (sums : Bool) (r : Course) → r ≡ beginning chip → Coming r.file.state.chip sums 18446744073709551615 r
unfolding beginning power_on initial has_more
coming-none chip sums r e = rw e (record { trace = []; text = []; led = none; low = omega arith; left = λ _. refl })

-- a part that was asked for, and what the test of its failure said
pub brought : {failed test : Bool} {before : Course} {part : List ℕ} {read : Filled} → has_more before.going ≡ true → read.count ≡ length part
    → (read.count ≤ 8) × (read.all ≡ counted before.read.all read.count) → test ≡ read.failed → test ≡ failed
    → Brought failed before part read
brought {before = before} goes count so tested test =
    record {
      goes = goes;
      count = count;
      within = omega (arith, count, so.0);
      all = so.1 ∙ ap (counted before.read.all) count;
      so = sym tested ∙ test;
    }

-- the course with what was handed to be written
abbrev with_handed : Handed → Course → Course
with_handed handed c =
    record { number = c.number; going = c.going; read = c.read; handed = handed; file = c.file; summary = c.summary }

-- a turn that was taken: its part was read, and its lines were handed on
module _ {chip : Chip} {sums : Bool} {turns : ℕ} {before : Course} (read : Filled) (part lines₀ lines : List ℕ) (r : Turn) (handed : Handed)
    (come : Coming chip sums turns before) (turned : Turned sums (with_read read before) part lines₀ lines r) (brought : Brought false before part read)
    (all : handed.all ≡ counted r.course.handed.all (length (take r.end lines))) where
  after : with_handed handed r.course ≡ course_after sums read handed before part
  unfolding course_after
  after = ap (with_handed handed) turned.course

  on : (failed : Bool) → handed.failed ≡ failed → HandedOn failed sums before part handed
  unfolding course_after turn_lines
  on failed so =
      record {
        all = all ∙ ap₂ (λ (k : ℕ) (l : List ℕ). counted k (length l)) (ap (λ (c : Course). c.handed.all) turned.course) (made turned);
        so = so;
      }

  number : r.course.number ≡ before.number + item_count part
  unfolding course_after
  number = ap (λ (c : Course). c.number) turned.course

  pub coming-on : handed.failed ≡ false → 0 < turns → Coming chip sums (turns - 1) (with_handed handed r.course)
  unfolding course_after item_count
  coming-on written some =
      record {
        trace = come.trace ++ part;
        text = come.text ++ turn_lines sums before part;
        led = rw after (then part read handed come.led brought (on false written));
        low = omega (arith, come.low, number, brought.within, some);
        left =
            λ more. let full : length part ≡ 8 = behind-more (length part) (sym (ap (λ (c : Course). has_more c.going) after) ∙ more) in
            omega (arith, come.left brought.goes, number, full, some);
      }

  -- its lines were not written
  pub came-unwritten : handed.failed ≡ true → (c : Course) → c ≡ failed_after (with_handed handed r.course) → Came chip sums c
  unfolding failed_after course_after has_more
  came-unwritten unwrote c e =
      record {
        trace = come.trace ++ part;
        text = come.text ++ turn_lines sums before part;
        turns = rw (e ∙ ap failed_after after) (unwritten part read handed come.led brought (on true unwrote));
        ended = rw e refl;
      }

-- a read that failed
pub came-unread : {chip : Chip} {sums : Bool} {turns : ℕ} {before : Course} (part : List ℕ) (read : Filled) (r : Course) → Coming chip sums turns before
    → Brought true before part read → r ≡ failed_after (with_read read before) → Came chip sums r
unfolding failed_after has_more
came-unread part read r come brought e =
    record { trace = come.trace ++ part; text = come.text; turns = rw e (unread part read come.led brought); ended = rw e refl }

-- nothing more to read
pub came-stopped : {chip : Chip} {sums : Bool} {turns : ℕ} {r : Course} → Coming chip sums turns r → has_more r.going ≡ false → Came chip sums r
came-stopped come e = record { trace = come.trace; text = come.text; turns = come.led; ended = e }

-- no turn is left
pub came-last : {chip : Chip} {sums : Bool} {r : Course} → Coming chip sums 0 r → (c : Course) → c ≡ over_after r → Came chip sums c
unfolding over_after failed_after has_more
came-last {chip} {sums} {r} come c so =
    by-test (has_more r.going)
    (λ e. subst (Came chip sums) (sym (so ∙ ap (λ (b : Bool). cond b (failed_after r) r) e))
    (record { trace = come.trace; text = come.text; turns = uncounted come.led e (omega (arith, come.left e)); ended = refl }))
    (λ e. subst (Came chip sums) (sym (so ∙ ap (λ (b : Bool). cond b (failed_after r) r) e)) (came-stopped come e))
