-- What a short plan promises, from what the code did. Assumes nothing.
use Prim.Native.Nat.{ℕ, ◌+◌, ◌*◌, ◌/◌, ◌≤◌, ◌<◌}
use mathlib.Core.Path.{◌≡◌, refl, sym, ap, ap₂, ◌∙◌}
use mathlib.Core.Bool.{true, true≢false}
use mathlib.Core.List.{List, ◌++◌}
use native.Mathlib.Omega.{arith}
use borrow.Author.Tests.{eqb-true, le-leb, lt-leb}
use lib.Dec.{eqb}
use lib.ListN.{length, drop, length-append}
use lib.Seq.{sets-eq}
use Rattle.std.specs.Prelude.{Result, Ok, Err, ⊤, is_ok}
use Rattle.bits.proofs.Test.{by-test, passes}
use Rattle.file.specs.declared.registers.File.{File}
use Rattle.file.specs.Chips.{same_chip}
use Rattle.file.specs.Sound.{sound}
use Rattle.access.specs.declared.record.Record.{Record}
use Rattle.roads.specs.Roads.{register_roads, index_roads, closing_roads}
use Rattle.roads.specs.RoadRecords.{selecting, along}
use Rattle.roads.specs.Plan.{opening, marking, indices, closing}
use Rattle.roads.specs.Restores.{trace_of, IsFile}
use Rattle.roads.proofs.PlanCount.{plan-room}
use Rattle.touched.specs.declared.set.Touched.{Touched}
use Rattle.touched.specs.Things.{IsSet}
use Rattle.touched.specs.Outside.{agrees_outside}
use Rattle.short_roads.specs.ShortPlan.{short_colours, named_roads, stage_records, short_records}
use Rattle.short_roads.proofs.ShortCount.{short-no-longer}
use Rattle.short_roads.proofs.ShortServes.{short-plan-serves}
use Rattle.plan.specs.declared.short_answer.ShortAnswer.{ShortAnswer}
use Rattle.plan.specs.declared.short_answer.ShortAnswer.TheVariants.{ShortBuffer}
use Rattle.plan.specs.Appended.{Appended}
use Rattle.plan.specs.Promises.{PlanKept}
use Rattle.plan.specs.ShortAnswers.{without_room, with_room, short_answer}
use Rattle.plan.specs.ShortPromises.{ShortKept}
use Rattle.plan.proofs.Appending.{trace-count}

-- ---- what no refusal tells

pub record Planable (f w : File) (s : Touched) : Type 0 where
  pub current : sound f ≡ true
  pub saved : sound w ≡ true
  pub chips : same_chip f.state.chip w.state.chip ≡ true
  pub red : w.state.pointer.next ≡ 0
  pub agrees : agrees_outside s f w ≡ true

-- a step on the way to no refusal: the next test was asked, and passed
pub planable : (f w : File) (s : Touched) → without_room f w s ≡ Ok tt → Planable f w s
unfolding without_room
planable f w s h =
    by-test (sound f)
    (λ a. by-test (sound w)
    (λ b. by-test (same_chip f.state.chip w.state.chip)
    (λ c. by-test (eqb w.state.pointer.next 0)
    (λ d. by-test (agrees_outside s f w)
    (λ e. record { current = a; saved = b; chips = c; red = eqb-true w.state.pointer.next 0 d; agrees = e })
    (λ e. absurd (no-refusal (sym (rw (a, b, c, d, e) at h)))))
    (λ d. absurd (no-refusal (sym (rw (a, b, c, d) at h)))))
    (λ c. absurd (no-refusal (sym (rw (a, b, c) at h)))))
    (λ b. absurd (no-refusal (sym (rw (a, b) at h)))))
    (λ a. absurd (no-refusal (sym (rw a at h))))
  where
    no-refusal : {a : ShortAnswer} → ◌≡◌ {A = Result ⊤ ShortAnswer} (Ok tt) (Err a) → ⊥
    no-refusal e = true≢false (ap is_ok e)

-- ---- the promise

module _ (f w : File) (s : Touched) (before : List ℕ) where
  pub short-unplanned : (a : ShortAnswer) → without_room f w s ≡ Err a → ShortKept f w s before before (Err a)
  unfolding short_answer with_room
  short-unplanned a e = record { answered = sym (rw e); told = refl }

  pub short-small : without_room f w s ≡ Ok tt → length before < 8192 → ShortKept f w s before before (Err ShortBuffer)
  unfolding short_answer with_room
  short-small e l = record { answered = sym (rw (e, lt-leb 8192 (length before) l)); told = refl }

  pub short-made : IsFile w → IsSet s → without_room f w s ≡ Ok tt → 8192 ≤ length before → {after : List ℕ} {end : ℕ}
      → Appended before 0 (short_records w s) after end → ShortKept f w s before after (Ok (end / 8))
  unfolding short_answer with_room
  short-made wf is e l {after} {end} wrote =
      let can = planable f w s e in
      record {
        answered = sym (rw (e, le-leb 8192 (length before) l));
        told = record {
          records = short_records w s;
          alone = refl;
          plans = short-plan-serves w s wf is (passes (sound w) can.saved) can.red;
          counted = counted;
          filled = filled;
        };
      }
    where
      counted : end / 8 ≡ length (short_records w s)
      counted = omega (arith, wrote.place)

      size : 0 + length (trace_of (short_records w s)) ≡ 8 * (end / 8)
      size = omega (arith, trace-count (short_records w s), counted)

      filled : after ≡ trace_of (short_records w s) ++ drop (8 * (end / 8)) before
      filled =
          wrote.bytes
          ∙ sets-eq (trace_of (short_records w s)) before 0 (omega (arith, trace-count (short_records w s), short-no-longer w s, plan-room w wf))
          ∙ ap (λ (n : ℕ). trace_of (short_records w s) ++ drop n before) size

-- the stages one behind the other
pub stage-parts : (w : File) (s : Touched)
    → length (stage_records w s)
    ≡ 6 + length (short_colours s w.palette w.bank) + length (marking w.state.marks) + length (along w.registers (named_roads s.registers register_roads)) + 5 + 5
unfolding stage_records opening indices closing closing_roads along selecting index_roads
stage-parts w s = simp length-append

-- two short plans of one saved file and set from two current files, into the same buffer, have the same records and leave the same bytes: they 'go by saved
-- file and set alone'
pub shorts-alike : (f g w : File) (s : Touched) (before after other : List ℕ) (p q : ℕ) → ShortKept f w s before after (Ok p) → ShortKept g w s before other (Ok q)
    → (p ≡ q) × (after ≡ other)
shorts-alike f g w s before after other p q k l =
    let one = k.told in
    let two = l.told in
    let same = one.alone ∙ sym two.alone in
    let counts = one.counted ∙ ap length same ∙ sym two.counted in
    (counts, one.filled ∙ ap₂ (λ (rs : List Record) (n : ℕ). trace_of rs ++ drop (8 * n) before) same counts ∙ sym two.filled)

-- 'it is never longer than the full one', of what the two functions hand back
pub short-within-plan : (f w : File) (s : Touched) (before after others left : List ℕ) (p q : ℕ) → PlanKept w before after (Ok p)
    → ShortKept f w s others left (Ok q) → q ≤ p
short-within-plan f w s before after others left p q full short =
    omega (arith, short.told.counted, short.told.plans.no_longer, full.told.counted)
