-- 01's column of ranges, of a file: what is read lies there, and a timing is accepted where its numbers do.
-- Assumes nothing.
use Prim.Native.Nat.{ℕ}
use mathlib.Core.Path.{◌≡◌, sym, subst}
use mathlib.Core.Bool.{Bool, false}
use mathlib.Core.List.{List}
use mathlib.Core.Logic.{◌↔◌}
use lib.Dec.{T}
use Rattle.bits.specs.Numbers.{all_in_range}
use Rattle.file.specs.declared.answer.Answer.TheVariants.{Done}
use Rattle.file.specs.declared.chip.Chip.TheVariants.{Gd5462}
use Rattle.file.specs.declared.registers.File.{File}
use Rattle.file.specs.File.{crtc_locked}
use Rattle.file.specs.Sound.{sound}
use Rattle.timing.specs.declared.Timing.{Timing}
use Rattle.timing.specs.Layout.{layout, answer_by}
use Rattle.timing.specs.Ranges.{all_lie_in, ranges}
use Rattle.timing.specs.Table.{table, wide}
use Rattle.timing.specs.Timing.{numbers_of, timing_in, timing_answer}
use Rattle.timing.proofs.Computed.{layout-lawful}
use Rattle.timing.proofs.Layouts.{in-column, read-in-column, accepted-in-column}
use Rattle.timing.proofs.Writer.{numbers-kept}

-- both chips share the ranges: the fifteen numbers are in range exactly where each lies in 01's range
pub in-ranges : (w : Bool) (numbers : List ℕ) → all_in_range (table w) numbers ≡ all_lie_in (ranges w) numbers
in-ranges w numbers = in-column (layout Gd5462 w) (layout-lawful Gd5462 w) numbers

-- what is read lies there
pub read-in-ranges : (f : File) → T (all_lie_in (ranges (wide f)) (numbers_of (timing_in f)))
unfolding timing_in
read-in-ranges f =
    subst (λ (ns : List ℕ). T (all_lie_in (ranges (wide f)) ns)) (sym (numbers-kept (wide f) f.registers))
    (read-in-column (layout f.state.chip (wide f)) (layout-lawful f.state.chip (wide f)) f.registers)

-- and in a sound and unlocked file a timing is accepted exactly where its numbers do
pub accepted-in-ranges : (f : File) (t : Timing) → T (sound f) → crtc_locked f ≡ false
    → (timing_answer f t ≡ Done 0) ↔ T (all_lie_in (ranges (wide f)) (numbers_of t))
unfolding timing_answer answer_by
accepted-in-ranges f t s u = accepted-in-column (layout f.state.chip (wide f)) (layout-lawful f.state.chip (wide f)) (sound f) (crtc_locked f) (numbers_of t) s u
