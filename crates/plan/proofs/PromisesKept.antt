-- What a plan promises, from what the code did, and what its run comes to. Assumes nothing.
use Prim.Native.Nat.{ℕ, ◌+◌, ◌*◌, ◌/◌, ◌≤◌, ◌<◌}
use mathlib.Core.Path.{◌≡◌, refl, sym, ap, ap₂, ◌∙◌, subst}
use mathlib.Core.Bool.{true, false}
use mathlib.Core.List.{List, [], ◌++◌, map, append-nil}
use native.Mathlib.Omega.{arith}
use borrow.Author.Tests.{eq-eqb, ne_eqb, le-leb, lt-leb}
use lib.ListN.{get_or, length, take, drop, length-append, length-map}
use lib.Seq.{sets-eq, take_at}
use Rattle.std.specs.Prelude.{Result, Ok, Err}
use Rattle.bits.proofs.Test.{passes}
use Rattle.file.specs.declared.answer.Answer.{Answer}
use Rattle.file.specs.declared.answer.Answer.TheVariants.{Done, ShortBuffer, NotSound, NotBeforeRed}
use Rattle.file.specs.declared.registers.File.{File}
use Rattle.file.specs.Answers.{code_of, refused}
use Rattle.file.specs.File.{Same}
use Rattle.file.specs.Sound.{sound}
use Rattle.access.specs.declared.record.Item.TheVariants.{Whole}
use Rattle.trace.specs.Records.{item_count, items}
use Rattle.trace.specs.Run.{file_after, run_count, ran, run}
use Rattle.plan.specs.Appended.{Appended}
use Rattle.roads.specs.Plan.{plan_records}
use Rattle.plan.specs.Promises.{PlanKept}
use Rattle.roads.specs.Refusals.{answer_of, plan_answer}
use Rattle.roads.specs.Restores.{trace_of, IsFile, Restores, PlanWritten}
use Rattle.plan.proofs.Appending.{trace-count}
use Rattle.roads.proofs.PlanCount.{plan-room}
use Rattle.roads.proofs.AcceptedFits.{trace-items}
use Rattle.roads.proofs.RepliesAccepted.{codes-zero}
use Rattle.roads.proofs.PlanServes.{plan-serves, written-items, planned-runs, planned-line}

-- ---- a plan

module _ (w : File) (before : List ℕ) where
  pub plan-unsound : sound w ≡ false → PlanKept w before before (Err NotSound)
  unfolding plan_answer refused code_of
  plan-unsound s = record { answered = rw s; told = (refl, refl) }

  pub plan-not-red : sound w ≡ true → (w.state.pointer.next ≡ 0 → ⊥) → PlanKept w before before (Err NotBeforeRed)
  unfolding plan_answer refused code_of
  plan-not-red s n = record { answered = rw (s, ne_eqb w.state.pointer.next 0 n); told = (refl, refl) }

  pub plan-short : sound w ≡ true → w.state.pointer.next ≡ 0 → length before < 8192 → PlanKept w before before (Err ShortBuffer)
  unfolding plan_answer refused code_of
  plan-short s e l = record { answered = rw (s, eq-eqb w.state.pointer.next 0 e, lt-leb 8192 (length before) l); told = (refl, refl) }

  pub plan-made : IsFile w → sound w ≡ true → w.state.pointer.next ≡ 0 → 8192 ≤ length before → {after : List ℕ} {end : ℕ}
      → Appended before 0 (plan_records w) after end → PlanKept w before after (Ok (end / 8))
  unfolding plan_answer
  plan-made wf s e l {after} {end} wrote =
      record {
        answered = rw (s, eq-eqb w.state.pointer.next 0 e, le-leb 8192 (length before) l);
        told = record {
          written = record { records = plan_records w; plans = plan-serves w wf (passes (sound w) s) e; counted = counted; filled = filled };
          counted = counted;
        };
      }
    where
      counted : end / 8 ≡ length (plan_records w)
      counted = omega (arith, wrote.place)

      size : 0 + length (trace_of (plan_records w)) ≡ 8 * (end / 8)
      size = omega (arith, trace-count (plan_records w), counted)

      filled : after ≡ trace_of (plan_records w) ++ drop (8 * (end / 8)) before
      filled =
          wrote.bytes
          ∙ sets-eq (trace_of (plan_records w)) before 0 (omega (arith, trace-count (plan_records w), plan-room w wf))
          ∙ ap (λ (n : ℕ). trace_of (plan_records w) ++ drop n before) size

-- ---- a plan that is run

module _ {w : File} {before after : List ℕ} {count : ℕ} (p : PlanWritten w before after count) where
  -- its records stand whole in the buffer
  pub written-room : 8 * count ≤ length after
  written-room =
      omega (
        arith,
        ap length p.filled ∙ length-append (trace_of p.records) (drop (8 * count) before),
        trace-count p.records,
        p.counted,
      )

  pub written-few : count ≤ 1024
  written-few = omega (arith, p.counted, p.plans.room)

  -- nothing else stands before their end
  alone : take (8 * count) after ≡ trace_of p.records
  alone =
      ap (take (8 * count)) p.filled
      ∙ take_at (trace_of p.records) (drop (8 * count) before) (8 * count) (omega (arith, trace-count p.records, p.counted))

  items-alone : items count (take (8 * count) after) ≡ map Whole p.records
  items-alone =
      ap₂ items p.counted (alone ∙ sym (append-nil (trace_of p.records))) ∙ trace-items p.records []

  -- a run over them answers each, where there are places enough
  all_read : (places : List ℕ) → 8 * count ≤ length places → run_count (take (8 * count) after) places ≡ count
  unfolding run_count item_count
  all_read places h = omega (arith, h, ap length alone, trace-count p.records, p.counted)

  module _ (f : File) (ff : IsFile f) (s : sound f ≡ true) (chips : f.state.chip ≡ w.state.chip) (places : List ℕ) (h : 8 * count ≤ length places) where
    runs : Restores f p.records w
    runs = p.plans.restores f ff (passes (sound f) s) chips

    run_is : run f (take (8 * count) after) places ≡ ran count f (take (8 * count) after) places
    unfolding run
    run_is = rw (s, all_read places h)

    -- its answer and its count
    pub run-answers : (run f (take (8 * count) after) places).answer ≡ Done 0
    unfolding ran
    run-answers = rw run_is

    pub run-counts : (run f (take (8 * count) after) places).count ≡ count
    unfolding ran
    run-counts = rw run_is

    -- the file that it ends in is that after the buffer's records
    pub run-file : (run f (take (8 * count) after) places).file ≡ file_after f (items count after)
    unfolding ran
    run-file = rw run_is (ap (file_after f) (items-alone ∙ sym (written-items w before after count p)))

    -- the wanted one, with the start's line
    pub run_ends : Same (run f (take (8 * count) after) places).file w
    run_ends = subst (λ (g : File). Same g w) (sym run-file) (planned-runs w before after count p f ff (passes (sound f) s) chips).1

    pub run-line : (run f (take (8 * count) after) places).file.state.line ≡ f.state.line
    run-line = ap (λ (g : File). g.state.line) run-file ∙ planned-line w before after count p f

    -- and every reply has code 0
    pub run-codes : (k : ℕ) → k < count → get_or (run f (take (8 * count) after) places).buffer (8 * k) 0 ≡ 0
    unfolding ran
    run-codes k small =
        rw (run_is, items-alone)
        (codes-zero (map Whole p.records) f (drop (8 * count) places) runs.all_done k
        (omega (arith, length-map p.records Whole, p.counted)))

-- ---- what the promise settles

-- two plans of one file and buffer answer the same; their bytes may differ, since several plans serve
pub plans-alike : (w : File) (before after other : List ℕ) (p q : Result ℕ Answer) → PlanKept w before after p → PlanKept w before other q
    → answer_of p ≡ answer_of q
plans-alike w before after other p q s t = s.answered ∙ sym t.answered
