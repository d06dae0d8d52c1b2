-- A short plan that stands in a buffer, run from the current file: it ends in the saved one, with the current file's line. Assumes nothing.
use Prim.Native.Nat.{ℕ, ◌*◌, ◌≤◌, ◌<◌}
use mathlib.Core.Path.{◌≡◌, sym, ap, ap₂, ◌∙◌, subst}
use mathlib.Core.Bool.{true}
use mathlib.Core.List.{List, [], map, append-nil}
use native.Mathlib.Omega.{arith}
use lib.ListN.{get_or, length, take, drop, length-append, length-map}
use lib.Seq.{take_at}
use Rattle.file.specs.declared.answer.Answer.TheVariants.{Done}
use Rattle.file.specs.declared.registers.File.{File}
use Rattle.file.specs.File.{Same}
use Rattle.file.specs.Sound.{sound}
use Rattle.access.specs.declared.record.Item.{Item}
use Rattle.access.specs.declared.record.Item.TheVariants.{Whole}
use Rattle.trace.specs.Records.{item_count, items}
use Rattle.trace.specs.Run.{file_after, run_count, ran, run}
use Rattle.roads.specs.Restores.{trace_of, Restores, IsFile}
use Rattle.roads.proofs.PlanCount.{plan-room}
use Rattle.roads.proofs.AcceptedFits.{trace-items}
use Rattle.roads.proofs.KindsOfRecords.{line_stays}
use Rattle.roads.proofs.RepliesAccepted.{codes-zero}
use Rattle.touched.specs.declared.set.Touched.{Touched}
use Rattle.short_roads.specs.Serves.{ShortWritten}
use Rattle.plan.proofs.Appending.{trace-count}

module _ {w : File} {s : Touched} {before after : List ℕ} {count : ℕ} (p : ShortWritten w s before after count) where
  -- its records stand whole in the buffer
  pub short-room : 8 * count ≤ length after
  short-room =
      omega (
        arith,
        ap length p.filled ∙ length-append (trace_of p.records) (drop (8 * count) before),
        trace-count p.records,
        p.counted,
      )

  pub short-few : IsFile w → count ≤ 1024
  short-few wf = omega (arith, p.counted, p.plans.no_longer, plan-room w wf)

  -- they are read as such, whatever stands behind them
  short-items : items count after ≡ map Whole p.records
  short-items = ap₂ items p.counted p.filled ∙ trace-items p.records (drop (8 * count) before)

  -- nothing else stands before their end
  alone : take (8 * count) after ≡ trace_of p.records
  alone =
      ap (take (8 * count)) p.filled
      ∙ take_at (trace_of p.records) (drop (8 * count) before) (8 * count) (omega (arith, trace-count p.records, p.counted))

  items-alone : items count (take (8 * count) after) ≡ map Whole p.records
  items-alone = ap₂ items p.counted (alone ∙ sym (append-nil (trace_of p.records))) ∙ trace-items p.records []

  -- a run over them answers each, where there are places enough
  all_read : (places : List ℕ) → 8 * count ≤ length places → run_count (take (8 * count) after) places ≡ count
  unfolding run_count item_count
  all_read places h = omega (arith, h, ap length alone, trace-count p.records, p.counted)

  module _ (f : File) where
    -- the saved file, with the current file's line
    pub short-ends : Restores f p.records w → Same (file_after f (items count after)) w
    short-ends runs = subst (λ (is : List Item). Same (file_after f is) w) (sym short-items) runs.ends

    pub short-line : (file_after f (items count after)).state.line ≡ f.state.line
    short-line = ap (λ (is : List Item). (file_after f is).state.line) short-items ∙ line_stays p.records f p.plans.ordinary

    module _ (t : sound f ≡ true) (places : List ℕ) (h : 8 * count ≤ length places) where
      run_is : run f (take (8 * count) after) places ≡ ran count f (take (8 * count) after) places
      unfolding run
      run_is = rw (t, all_read places h)

      -- its answer and its count
      pub short-run-answers : (run f (take (8 * count) after) places).answer ≡ Done 0
      unfolding ran
      short-run-answers = rw run_is

      pub short-run-counts : (run f (take (8 * count) after) places).count ≡ count
      unfolding ran
      short-run-counts = rw run_is

      -- the file that it ends in is that after the buffer's records
      pub short-run-file : (run f (take (8 * count) after) places).file ≡ file_after f (items count after)
      unfolding ran
      short-run-file = rw run_is (ap (file_after f) (items-alone ∙ sym short-items))

      -- and every reply has code 0
      pub short-run-codes : Restores f p.records w → (k : ℕ) → k < count → get_or (run f (take (8 * count) after) places).buffer (8 * k) 0 ≡ 0
      unfolding ran
      short-run-codes runs k small =
          rw (run_is, items-alone)
          (codes-zero (map Whole p.records) f (drop (8 * count) places) runs.all_done k
          (omega (arith, length-map p.records Whole, p.counted)))
