-- A number of more than 16 bits is out of range as 65535 is: the code's timing is written as the line's is. Assumes nothing.
use Prim.Native.Nat.{ℕ, zero, suc, ◌+◌, ◌/◌, ◌^◌, ◌≤◌, ◌<◌, min}
use mathlib.Core.Bool.{Bool, false}
use mathlib.Core.List.{List, [], ◌∷◌, map}
use mathlib.Core.Path.{◌≡◌, refl, sym, ap, ◌∙◌}
use native.Mathlib.Omega.{arith}
use lib.Dec.{T, leb, leb→le, lit<}
use lib.ListN.{length, get_or}
use Rattle.bits.proofs.Test.{by-test, left, right, passes}
use Rattle.bits.specs.Numbers.{all_in_range}
use Rattle.file.specs.File.{crtc_locked}
use Rattle.file.specs.Sound.{sound}
use Rattle.file.specs.declared.registers.File.{File}
use Rattle.timing.proofs.Cases.{write-unsound, write-locked, write-outside}
use Rattle.timing.proofs.Ranges.{in-ranges}
use Rattle.timing.specs.Ranges.{Range, ◌to◌, end_of_bits, lies_in, lie_from, all_lie_in, ranges}
use Rattle.timing.specs.Table.{table, wide}
use Rattle.timing.specs.Timing.{timing_of, numbers_of, write_timing}
use Rattle.timing.specs.declared.Timing.{Timing}
use Rattle.mode_file.specs.Said.{in_clocks, fifteen, timing_said, clamped_said}

-- a number of those that lie in their ranges lies in its own; an end's start is the one before it
pub lies_at : (last : ℕ) (rs : List Range) (ns : List ℕ) (k : ℕ) → k < length rs → T (lie_from last rs ns)
    → T (lies_in (get_or rs k (0 to 0)) (get_or (last ∷ ns) k 0) (get_or ns k 0))
unfolding lie_from
lies_at last [] [] k h t = absurd (omega (arith, h))
lies_at last [] (n ∷ ns) k h t = absurd t
lies_at last (r ∷ rs) [] k h t = absurd t
lies_at last (r ∷ rs) (n ∷ ns) zero h t = left (lies_in r last n) (lie_from n rs ns) t
lies_at last (r ∷ rs) (n ∷ ns) (suc k) h t = lies_at n rs ns k (omega arith) (right (lies_in r last n) (lie_from n rs ns) t)

-- the eight numbers that a mode says are small where the fifteen lie in their ranges
pub record Small (n : List ℕ) : Type 0 where
  pub total : get_or n 3 0 ≤ 65534
  pub display : get_or n 0 0 ≤ 65534
  pub sync : get_or n 1 0 ≤ 65534
  pub sync-end : get_or n 2 0 ≤ 65534
  pub lines-total : get_or n 7 0 ≤ 65534
  pub lines : get_or n 4 0 ≤ 65534
  pub lines-sync : get_or n 5 0 ≤ 65534
  pub lines-sync-end : get_or n 6 0 ≤ 65534

pub to-most : (a b s n : ℕ) → T (lies_in (a to b) s n) → n ≤ b
unfolding lies_in
to-most a b s n t = leb→le n b (right (leb a n) (leb n b) t)

pub end-most : (k s n : ℕ) → T (lies_in (end_of_bits k) s n) → n ≤ s + 2 ^ k
unfolding lies_in
end-most k s n t = leb→le n (s + 2 ^ k) (right (leb (s + 1) n) (leb n (s + 2 ^ k)) t)

-- a row of the column of ranges, by its place
module _ (w : Bool) (n : List ℕ) (t : T (all_lie_in (ranges w) (fifteen n))) where
  at : (k : ℕ) → k < 15 → T (lies_in (get_or (ranges w) k (0 to 0)) (get_or (0 ∷ fifteen n) k 0) (get_or (fifteen n) k 0))
  unfolding all_lie_in ranges
  at k h = lies_at 0 (ranges w) (fifteen n) k h t

  pub small : Small n
  unfolding ranges fifteen
  small =
      let sync-start : get_or n 1 0 ≤ 511 = to-most 0 511 _ (get_or n 1 0) (at 4 (lit< tt)) in
      let v-sync-start : get_or n 5 0 ≤ 2047 = to-most 0 2047 _ (get_or n 5 0) (at 10 (lit< tt)) in
      record {
        total = omega (arith, to-most 5 516 _ (get_or n 3 0) (at 0 (lit< tt)));
        display = omega (arith, to-most 1 512 _ (get_or n 0 0) (at 1 (lit< tt)));
        sync = omega arith;
        sync-end = omega (arith, end-most 5 (get_or n 1 0) (get_or n 2 0) (at 5 (lit< tt)));
        lines-total = omega (arith, to-most 2 2049 _ (get_or n 7 0) (at 6 (lit< tt)));
        lines = omega (arith, to-most 1 2048 _ (get_or n 4 0) (at 7 (lit< tt)));
        lines-sync = omega arith;
        lines-sync-end = omega (arith, end-most 4 (get_or n 5 0) (get_or n 6 0) (at 11 (lit< tt)));
      }

abbrev clamp : ℕ → ℕ
clamp n = min n 65535

clamp-small : (a : ℕ) → a ≤ 65534 → clamp a ≡ a
clamp-small a h = omega arith

small-clamped : (a : ℕ) → clamp a ≤ 65534 → a ≤ 65534
small-clamped a h = omega arith

-- small numbers are not clamped
module _ (numbers : List ℕ) where
  not-clamped : Small (in_clocks numbers) → fifteen (map clamp (in_clocks numbers)) ≡ fifteen (in_clocks numbers)
  unfolding in_clocks fifteen
  not-clamped s =
      rw (
        clamp-small (get_or numbers 3 0 / 8) s.total,
        clamp-small (get_or numbers 0 0 / 8) s.display,
        clamp-small (get_or numbers 1 0 / 8) s.sync,
        clamp-small (get_or numbers 2 0 / 8) s.sync-end,
        clamp-small (get_or numbers 7 0) s.lines-total,
        clamp-small (get_or numbers 4 0) s.lines,
        clamp-small (get_or numbers 5 0) s.lines-sync,
        clamp-small (get_or numbers 6 0) s.lines-sync-end,
      )

  -- nor are those that are small when they are clamped
  were-small : Small (map clamp (in_clocks numbers)) → Small (in_clocks numbers)
  unfolding in_clocks
  were-small s =
      record {
        total = small-clamped (get_or numbers 3 0 / 8) s.total;
        display = small-clamped (get_or numbers 0 0 / 8) s.display;
        sync = small-clamped (get_or numbers 1 0 / 8) s.sync;
        sync-end = small-clamped (get_or numbers 2 0 / 8) s.sync-end;
        lines-total = small-clamped (get_or numbers 7 0) s.lines-total;
        lines = small-clamped (get_or numbers 4 0) s.lines;
        lines-sync = small-clamped (get_or numbers 5 0) s.lines-sync;
        lines-sync-end = small-clamped (get_or numbers 6 0) s.lines-sync-end;
      }

  same-timing : Small (in_clocks numbers) → clamped_said numbers ≡ timing_said numbers
  unfolding clamped_said timing_said
  same-timing s = ap timing_of (not-clamped s)

-- a timing keeps its fifteen numbers
pub said-numbers : (n : List ℕ) → numbers_of (timing_of (fifteen n)) ≡ fifteen n
unfolding numbers_of timing_of fifteen
said-numbers n = refl

-- a timing out of range is answered so, whatever it is
outside : (f : File) (t u : Timing) → all_in_range (table (wide f)) (numbers_of t) ≡ false → all_in_range (table (wide f)) (numbers_of u) ≡ false
    → write_timing f t ≡ write_timing f u
outside f t u a b =
    by-test (sound f)
    (λ s. by-test (crtc_locked f)
    (λ l. sym (write-locked f t s l) ∙ write-locked f u s l)
    (λ l. sym (write-outside f t (wide f) (numbers_of t) s l refl refl a) ∙ write-outside f u (wide f) (numbers_of u) s l refl refl b))
    (λ s. sym (write-unsound f t s) ∙ write-unsound f u s)

-- so the code's timing is written as the line's is
pub write-clamped : (f : File) (numbers : List ℕ) → write_timing f (clamped_said numbers) ≡ write_timing f (timing_said numbers)
unfolding clamped_said timing_said
write-clamped f numbers =
    by-test (all_in_range (table (wide f)) (fifteen (in_clocks numbers)))
    (λ e. ap (write_timing f) (same-timing numbers (small (wide f) (in_clocks numbers) (passes _ (sym (in-ranges (wide f) (fifteen (in_clocks numbers))) ∙ e)))))
    (λ e. by-test (all_in_range (table (wide f)) (fifteen (map clamp (in_clocks numbers))))
    (λ d. ap (write_timing f) (same-timing numbers (were-small numbers (small (wide f) (map clamp (in_clocks numbers)) (passes _ (sym (in-ranges (wide f) (fifteen (map clamp (in_clocks numbers)))) ∙ d))))))
    (λ d. outside f (timing_of (fifteen (map clamp (in_clocks numbers)))) (timing_of (fifteen (in_clocks numbers)))
    (ap (all_in_range (table (wide f))) (said-numbers (map clamp (in_clocks numbers))) ∙ d)
    (ap (all_in_range (table (wide f))) (said-numbers (in_clocks numbers)) ∙ e)))

-- the code's timing, from its eight numbers
pub said-clamped : (numbers : List ℕ) (hd ht vd vt hs he vs ve : ℕ) → hd ≡ min (get_or numbers 0 0 / 8) 65535 → ht ≡ min (get_or numbers 3 0 / 8) 65535
    → vd ≡ min (get_or numbers 4 0) 65535 → vt ≡ min (get_or numbers 7 0) 65535 → hs ≡ min (get_or numbers 1 0 / 8) 65535
    → he ≡ min (get_or numbers 2 0 / 8) 65535 → vs ≡ min (get_or numbers 5 0) 65535 → ve ≡ min (get_or numbers 6 0) 65535
    → timing_of (ht ∷ hd ∷ hd ∷ ht ∷ hs ∷ he ∷ vt ∷ vd ∷ vd ∷ vt ∷ vs ∷ ve ∷ 1023 ∷ hd ∷ 0 ∷ []) ≡ clamped_said numbers
unfolding clamped_said fifteen in_clocks
said-clamped numbers hd ht vd vt hs he vs ve a b c d e f g h = rw (a, b, c, d, e, f, g, h)
