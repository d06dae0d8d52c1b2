-- A course on its way, turn by turn, and how it ends. Assumes nothing.
use Prim.Native.Nat.{ℕ, ◌+◌, ◌-◌, ◌*◌, ◌≤◌, ◌<◌}
use mathlib.Core.Bool.{Bool, true, false, cond}
use mathlib.Core.List.{List, [], ◌++◌}
use mathlib.Core.Path.{◌≡◌, refl, sym, ap, ap₂, ◌∙◌, subst}
use native.Mathlib.Omega.{arith}
use lib.ListN.{length, take}
use Rattle.bits.proofs.Test.{by-test}
use Rattle.clock_text.specs.Parts.{Countable}
use Rattle.clock_text.specs.Sets.{no_tally, set_clocks, set_count}
use Rattle.clock_text.proofs.BestOfAll.{counts_all}
use Rattle.shell.specs.Parts.{counted}
use Rattle.shell.specs.declared.reading.Filled.{Filled}
use Rattle.shell.specs.declared.telling.Handed.{Handed}
use Rattle.clocks.specs.declared.course.Course.{Course}
use Rattle.clocks.specs.declared.course.Turn.{Turn}
use Rattle.clocks.specs.Turns.{Brought, Came, HandedOn, Turned, Turns, beginning, course_after, failed_after, has_more, over_after, sets_of, turn_lines, with_read}
use Rattle.clocks.specs.Turns.Turns.{none, then, uncounted, unread, unwritten}
use Rattle.clocks.proofs.Bounds.{part-full, part-within, sets-counted}
use Rattle.clocks.proofs.TurnsReport.{behind-more, made}

-- a course with so many turns left: each turn that leaves more to read took 2,048 sets
pub record Coming (turns : ℕ) (r : Course) : Type 0 where
  pub input : List ℕ
  pub text : List ℕ
  pub led : Turns input text r
  pub low : sets_of r.tally + 2048 * turns ≤ 18446744073709549568
  pub left : has_more r.going ≡ true → sets_of r.tally + 2048 * turns ≡ 18446744073709549568

pub coming-none : (r : Course) → r ≡ beginning → Coming 9007199254740991 r
unfolding beginning no_tally has_more
coming-none r e = rw e (record { input = []; text = []; led = none; low = omega arith; left = λ _. refl })

-- a turn more has numbers
pub coming-countable : {turns : ℕ} {r : Course} → Coming turns r → 0 < turns → Countable r.tally 2048
coming-countable come some =
    record { rates = omega (arith, come.low, some); nones = omega (arith, come.low, some); refused = omega (arith, come.low, some) }

-- a part that was asked for, and what the test of its failure said
pub brought : {failed test : Bool} {before : Course} {part : List ℕ} {read : Filled} → has_more before.going ≡ true → read.count ≡ length part
    → (read.count ≤ 6144) × (read.all ≡ counted before.read.all read.count) → test ≡ read.failed → test ≡ failed
    → Brought failed before part read
brought {before = before} goes count so tested test =
    record {
      goes = goes;
      count = count;
      within = omega (arith, count, so.0);
      all = so.1 ∙ ap (counted before.read.all) count;
      so = sym tested ∙ test;
    }

-- the course with what was handed to be written
abbrev with_handed : Handed → Course → Course
with_handed handed c = record { tally = c.tally; going = c.going; read = c.read; handed = handed }

-- a turn that was taken: its part was read, and its lines were handed on
module _ {turns : ℕ} {before : Course} (read : Filled) (part lines₀ lines : List ℕ) (r : Turn) (handed : Handed) (come : Coming turns before)
    (turned : Turned (with_read read before) part lines₀ lines r) (brought : Brought false before part read)
    (all : handed.all ≡ counted r.course.handed.all (length (take r.end lines))) where
  after : with_handed handed r.course ≡ course_after read handed before part
  unfolding course_after
  after = ap (with_handed handed) turned.course

  on : (failed : Bool) → handed.failed ≡ failed → HandedOn failed before part handed
  unfolding course_after
  on failed so =
      record {
        all = all ∙ ap₂ (λ (k : ℕ) (l : List ℕ). counted k (length l)) (ap (λ (c : Course). c.handed.all) turned.course) (made turned);
        so = so;
      }

  sum : sets_of r.course.tally ≡ sets_of before.tally + set_count part
  unfolding course_after
  sum =
      ap (λ (c : Course). sets_of c.tally) turned.course ∙ counts_all before.tally (set_clocks part)
      ∙ ap (λ (n : ℕ). sets_of before.tally + n) (sets-counted part)

  pub coming-on : handed.failed ≡ false → 0 < turns → Coming (turns - 1) (with_handed handed r.course)
  unfolding course_after
  coming-on written some =
      record {
        input = come.input ++ part;
        text = come.text ++ turn_lines part;
        led = rw after (then part read handed come.led brought (on false written));
        low = omega (arith, come.low, sum, part-within part brought.within, some);
        left =
            λ more. let full : length part ≡ 6144 = behind-more (length part) (sym (ap (λ (c : Course). has_more c.going) after) ∙ more) in
            omega (arith, come.left brought.goes, sum, part-full part full, some);
      }

  -- its lines were not written
  pub came-unwritten : handed.failed ≡ true → (c : Course) → c ≡ failed_after (with_handed handed r.course) → Came c
  unfolding failed_after course_after has_more
  came-unwritten unwrote c e =
      record {
        input = come.input ++ part;
        text = come.text ++ turn_lines part;
        turns = rw (e ∙ ap failed_after after) (unwritten part read handed come.led brought (on true unwrote));
        ended = rw e refl;
      }

-- a read that failed
pub came-unread : {turns : ℕ} {before : Course} (part : List ℕ) (read : Filled) (r : Course) → Coming turns before → Brought true before part read
    → r ≡ failed_after (with_read read before) → Came r
unfolding failed_after has_more
came-unread part read r come brought e =
    record { input = come.input ++ part; text = come.text; turns = rw e (unread part read come.led brought); ended = rw e refl }

-- nothing more to read
pub came-stopped : {turns : ℕ} {r : Course} → Coming turns r → has_more r.going ≡ false → (c : Course) → c ≡ over_after r → Came c
unfolding over_after
came-stopped {r = r} come e c so =
    subst Came (sym (so ∙ ap (λ (b : Bool). cond b (failed_after r) r) e)) (record { input = come.input; text = come.text; turns = come.led; ended = e })

-- no turn is left
pub came-last : {r : Course} → Coming 0 r → (c : Course) → c ≡ over_after r → Came c
unfolding over_after failed_after has_more
came-last {r} come c so =
    by-test (has_more r.going)
    (λ e. subst Came (sym (so ∙ ap (λ (b : Bool). cond b (failed_after r) r) e))
    (record { input = come.input; text = come.text; turns = uncounted come.led e (omega (arith, come.left e)); ended = refl }))
    (λ e. came-stopped come e c so)
