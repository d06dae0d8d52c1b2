-- Demand 2's timing sentence of the portable sibling, by its own table (02, 13/13): each theorem is a law of layouts at Table 9-1.
-- Assumes nothing.
use Prim.Native.Nat.{ℕ, ◌<◌}
use mathlib.Core.Path.{◌≡◌, refl, sym, ap, ◌∙◌, subst}
use mathlib.Core.Bool.{true, false}
use mathlib.Core.List.{List}
use mathlib.Core.Logic.{◌↔◌}
use borrow.Author.Tests.{eq-eqb}
use lib.Dec.{T, eqb, eqb→eq, lit<}
use lib.ListN.{get_or, length}
use Rattle.bits.specs.Numbers.{read_from, read_numbers}
use Rattle.bits.specs.Every.{every_below}
use Rattle.bits.specs.Pieces.{piece_reach}
use Rattle.bits.specs.Reach.{pieces_reach, pieces_of, table_reach}
use Rattle.bits.specs.Store.{bit}
use Rattle.bits.proofs.Test.{below, is_true, passes}
use Rattle.file.specs.declared.answer.Answer.TheVariants.{Done}
use Rattle.timing.specs.Layout.{answer_by, registers_after}
use Rattle.timing.specs.Ranges.{all_lie_in}
use Rattle.timing.proofs.Layouts.{accepted-by, accepted-in-column, count_kept, others-kept, read-accepted-by, read-in-column, reads-back-by, writes-back-by}
use Rattle.portable.specs.declared.Timing.{Timing}
use Rattle.portable.specs.Promises.{Passes, SameOutsideTable, reaches}
use Rattle.portable.specs.Table.{table, ranges, stored, layout}
use Rattle.portable.specs.Timing.{timing_of, numbers_of, readable, locked, read_timing, timing_answer, bytes_after, Written}
use Rattle.portable.proofs.Computed.{layout-lawful}

-- accepted if and only if there are 28 bytes, they are unlocked, and every number lies in its range
pub accepted : (bytes : List ℕ) (t : Timing) → (timing_answer bytes t ≡ Done 0) ↔ Passes bytes t
unfolding timing_answer readable
accepted bytes t = (
  λ e. let a = (accepted-by layout (readable bytes) (locked bytes) (numbers_of t)).0 e in
      record {
        counted = eqb→eq (length bytes) 28 a.is-readable;
        unlocked = a.unlocked;
        ranged = (accepted-in-column layout layout-lawful (readable bytes) (locked bytes) (numbers_of t) a.is-readable a.unlocked).0 e;
      },
  λ p. (accepted-in-column layout layout-lawful (readable bytes) (locked bytes) (numbers_of t) (counts p) p.unlocked).1 p.ranged,
)
  where
    counts : Passes bytes t → T (readable bytes)
    counts p = passes (readable bytes) (eq-eqb (length bytes) 28 p.counted)

-- 28 bytes stay 28
readable-kept : (bytes : List ℕ) (t : Timing) → readable (bytes_after bytes t) ≡ readable bytes
unfolding readable bytes_after
readable-kept bytes t = ap (λ (n : ℕ). eqb n 28) (count_kept layout (timing_answer bytes t) (numbers_of t) bytes)

-- an accepted timing reads back the same fourteen numbers
pub reads-back : (bytes : List ℕ) (t : Timing) → timing_answer bytes t ≡ Done 0
    → read_timing (bytes_after bytes t) ≡ record { answer = Done 0; timing = t }
unfolding read_timing timing_of timing_answer bytes_after stored
reads-back bytes t a =
    rw (readable-kept bytes t ∙ is_true (readable bytes) ((accepted-by layout (readable bytes) (locked bytes) (numbers_of t)).0 a).is-readable)
    (ap (λ (ns : List ℕ). record { answer = Done 0; timing = timing_of ns })
    (reads-back-by layout layout-lawful (readable bytes) (locked bytes) (numbers_of t) bytes ((accepted bytes t).0 a).counted a))

-- a timing keeps the numbers that were read
pub numbers-kept : (bytes : List ℕ) → numbers_of (timing_of (read_numbers table bytes)) ≡ read_numbers table bytes
unfolding timing_of read_numbers read_from table
numbers-kept bytes = refl

module _ (bytes : List ℕ) (counted : length bytes ≡ 28) where
  is-readable : readable bytes ≡ true
  unfolding readable
  is-readable = eq-eqb (length bytes) 28 counted

  numbers-read : numbers_of (read_timing bytes).timing ≡ read_numbers table bytes
  unfolding read_timing
  numbers-read = rw is-readable (numbers-kept bytes)

  -- what is read lies in the fourteen ranges
  pub read-in-ranges : T (all_lie_in ranges (numbers_of (read_timing bytes).timing))
  read-in-ranges =
      subst (λ (ns : List ℕ). T (all_lie_in ranges ns)) (sym numbers-read) (read-in-column layout layout-lawful bytes)

  -- writing back what was read from unlocked bytes is accepted and changes nothing
  pub writes-back : locked bytes ≡ false → Written bytes (read_timing bytes).timing (Done 0) bytes
  unfolding timing_answer bytes_after
  writes-back u =
      record {
        answered =
            sym
            (ap (answer_by layout (readable bytes) (locked bytes)) numbers-read
            ∙ read-accepted-by layout layout-lawful (readable bytes) (locked bytes) bytes (passes (readable bytes) is-readable) u);
        bytes =
            sym
            (ap (λ (ns : List ℕ). registers_after layout (timing_answer bytes (read_timing bytes).timing) ns bytes) numbers-read
            ∙ writes-back-by layout (timing_answer bytes (read_timing bytes).timing) bytes);
      }

-- the bits of each byte that Table 9-1 names
reach-computed : T (every_below (λ (k : ℕ). eqb (table_reach table k) (get_or reaches k 0)) 28)
unfolding every_below table_reach pieces_of pieces_reach piece_reach table reaches
reach-computed = tt

pub reach-listed : (k : ℕ) → k < 28 → table_reach table k ≡ get_or reaches k 0
reach-listed k h =
    eqb→eq (table_reach table k) (get_or reaches k 0)
    (below (λ (n : ℕ). eqb (table_reach table n) (get_or reaches n 0)) 28 reach-computed k h)

-- no other bit moves, whatever the writer answers
pub same-outside : (bytes : List ℕ) (t : Timing) → SameOutsideTable bytes (bytes_after bytes t)
unfolding bytes_after
same-outside bytes t =
    record {
      count = count_kept layout (timing_answer bytes t) (numbers_of t) bytes;
      bits =
          λ k i h e. others-kept layout (timing_answer bytes t) (numbers_of t) bytes k i (ap (bit i) (reach-listed k h) ∙ e);
    }

-- so the lock stays as it is
pub lock-kept : (bytes : List ℕ) (t : Timing) → locked (bytes_after bytes t) ≡ locked bytes
unfolding locked reaches bit
lock-kept bytes t = ap (λ (x : ℕ). eqb x 1) ((same-outside bytes t).bits 0x11 7 (lit< tt) refl)
