-- The timing line of a file has at most 172 bytes: the word, and fifteen numbers of ten digits, each behind a space. Assumes nothing.
use Prim.Native.Nat.{ℕ, ◌*◌, ◌^◌, ◌≤◌, ◌<◌}
use mathlib.Core.Bool.{Bool, true, false, ◌&&◌}
use mathlib.Core.List.{List, [], ◌∷◌, map}
use mathlib.Core.Path.{◌≡◌, refl}
use native.Mathlib.Omega.{arith}
use lib.Dec.{T, ltb, ltb→lt}
use lib.ListN.{length, get_or, length-append}
use Rattle.bits.specs.Numbers.{read_from, read_numbers}
use Rattle.bits.proofs.Bounded.{read_below}
use Rattle.bits.proofs.Test.{left, right}
use Rattle.file.specs.declared.registers.File.{File}
use Rattle.file.specs.Readers.{ascii}
use Rattle.timing.specs.Table.{table, wide}
use Rattle.timing.specs.Timing.{numbers_of, timing_in, timing_of}
use Rattle.timing.proofs.Computed.{table-bounded}
use Rattle.replaying.specs.Replay.{timing_most}
use Rattle.text.specs.Text.{decimal_places, spaced, timing_line}
use Rattle.text.proofs.Places.{most-places}
use Rattle.text.proofs.Spaced.{numbers-length, plain-length}

-- the table's numbers have at most ten digits
table-long : (w : Bool) → length (table w) ≡ 15
unfolding table
table-long true = refl
table-long false = refl

few-digits : (w : Bool) (registers : List ℕ) (k : ℕ) → k < 15 → decimal_places (get_or (read_numbers (table w) registers) k 0) (get_or (read_numbers (table w) registers) k 0) ≤ 10
unfolding read_numbers
few-digits w registers k h =
    let low : get_or (read_from 0 (table w) registers) k 0 < 2 ^ 31 = read_below (2 ^ 31) 0 (table w) registers (table-bounded w) k (omega (arith, table-long w)) in
    most-places 9 (get_or (read_from 0 (table w) registers) k 0) (get_or (read_from 0 (table w) registers) k 0) (omega (arith, low))

unfoldable below : List ℕ → Bool
below [] = true
below (k ∷ ks) = ltb k 15 && below ks

-- so many of them, each behind a space
spaced-short : (ns : List ℕ) → ((k : ℕ) → k < 15 → decimal_places (get_or ns k 0) (get_or ns k 0) ≤ 10)
    → (ks : List ℕ) → T (below ks) → length (spaced [] (map (λ (k : ℕ). get_or ns k 0) ks)) ≤ 11 * length ks
unfolding spaced below
spaced-short ns few [] t = omega arith
spaced-short ns few (k ∷ ks) t =
    let rest = spaced-short ns few ks (right (ltb k 15) (below ks) t) in
    let one = few k (ltb→lt k 15 (left (ltb k 15) (below ks) t)) in
    rw length-append (omega (arith, rest, one, plain-length false (get_or ns k 0) refl))

module _ (f : File) where
  pub line-short : length (timing_line (timing_in f)) ≤ timing_most
  unfolding timing_line timing_in numbers_of timing_of timing_most below ascii
  line-short =
      let few = spaced-short (read_numbers (table (wide f)) f.registers) (few-digits (wide f) f.registers)
      (0 ∷ 1 ∷ 2 ∷ 3 ∷ 4 ∷ 5 ∷ 6 ∷ 7 ∷ 8 ∷ 9 ∷ 10 ∷ 11 ∷ 12 ∷ 13 ∷ 14 ∷ []) tt in
      rw numbers-length (omega (arith, few))
