-- Numbers in decimal, each behind a space: one after the other. Assumes nothing.
use Prim.Native.Nat.{ℕ, ◌+◌, ◌≤◌, ◌<◌}
use mathlib.Core.Bool.{Bool, true, false}
use mathlib.Core.Path.{◌≡◌, sym, ap, ◌∙◌}
use mathlib.Core.List.{List, [], ◌++◌}
use native.Mathlib.Nat.{add-zero}
use native.Mathlib.Numerals.{add-one}
use native.Mathlib.Omega.{arith}
use lib.ListN.{length, drop, get_or, length-append, drop_of_length-le}
use lib.Seq.{drop-cons, drop-drop, get_or-drop}
use Rattle.text.specs.Text.{decimal, decimal_places, newline, numbers_line, signed, space, spaced}
use Rattle.text.proofs.Spelled.{digits-length}

-- a number behind a space, with a minus and without
pub minus-length : (minus : Bool) (n : ℕ) → minus ≡ true → length (space ++ signed minus n) ≡ 2 + decimal_places n n
unfolding space signed decimal
minus-length minus n e = rw e (omega (arith, digits-length (decimal_places n n) n))

pub plain-length : (minus : Bool) (n : ℕ) → minus ≡ false → length (space ++ signed minus n) ≡ 1 + decimal_places n n
unfolding space signed decimal
plain-length minus n e = rw e (omega (arith, digits-length (decimal_places n n) n))

module _ (minus : List Bool) (numbers : List ℕ) (i : ℕ) (h : i < length numbers) where
  -- the next number, and the rest
  pub next-spaced : (space ++ signed (get_or minus i false) (get_or numbers i 0)) ++ spaced (drop (i + 1) minus) (drop (i + 1) numbers)
      ≡ spaced (drop i minus) (drop i numbers)
  unfolding spaced
  next-spaced = rw (drop-cons numbers i 0 h, get_or-drop, add-zero, drop-drop, add-one)

  pub next-length : length (space ++ signed (get_or minus i false) (get_or numbers i 0)) + length (spaced (drop (i + 1) minus) (drop (i + 1) numbers))
      ≡ length (spaced (drop i minus) (drop i numbers))
  next-length =
      sym (length-append (space ++ signed (get_or minus i false) (get_or numbers i 0)) (spaced (drop (i + 1) minus) (drop (i + 1) numbers)))
      ∙ ap length next-spaced

-- behind the last number there is none
pub none_left : (minus : List Bool) (numbers : List ℕ) (i : ℕ) → length numbers ≤ i → spaced minus (drop i numbers) ≡ []
unfolding spaced
none_left minus numbers i h = rw (drop_of_length-le numbers h)

pub numbers-length : (word : List ℕ) (minus : List Bool) (numbers : List ℕ)
    → length (numbers_line word minus numbers) ≡ length word + 1 + length (spaced minus numbers)
unfolding numbers_line newline
numbers-length word minus numbers = simp length-append (omega arith)
