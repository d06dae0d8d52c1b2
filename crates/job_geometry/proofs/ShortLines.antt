-- A line of numbers of 32 bits is short: ten digits for each, a space before it, and a minus at most where there is a mark for one. Assumes nothing.
use Rattle.std.specs.Int.{from_bool}
use Rattle.job_geometry.specs.GeometryText.{as_number}
use Prim.Native.Nat.{ℕ, ◌+◌, ◌*◌, ◌≤◌, ◌<◌}
use mathlib.Core.Bool.{Bool, true, false}
use mathlib.Core.List.{List, [], ◌∷◌}
use mathlib.Core.Path.{◌≡◌, refl}
use native.Mathlib.Omega.{arith}
use lib.ListN.{length, length-append}
use Rattle.file.specs.Readers.{ascii}
use Rattle.text.specs.Text.{capture_line, cursor_line, decimal_places, numbers_line, spaced, window_2_line}
use Rattle.text.proofs.Places.{most-places}
use Rattle.text.proofs.Spaced.{minus-length, numbers-length, plain-length}

-- a mark as the library makes a number of it
pub as-one : (mark : Bool) → from_bool mark ≡ as_number mark
unfolding as_number
as-one true = refl
as-one false = refl

-- numbers of 32 bits
pub data Small : List ℕ → Type 0 where
  none : Small []
  also : {n : ℕ} {ns : List ℕ} → n < 4294967296 → Small ns → Small (n ∷ ns)

few-digits : (n : ℕ) → n < 4294967296 → decimal_places n n ≤ 10
few-digits n h = most-places 9 n n (omega (arith, h))

spaced-short : (minus : List Bool) (ns : List ℕ) → Small ns → length (spaced minus ns) ≤ 11 * length ns + length minus
unfolding spaced
spaced-short minus [] none = omega arith
spaced-short [] (n ∷ ns) (also low small) =
    rw length-append (omega (arith, plain-length false n refl, few-digits n low, spaced-short [] ns small))
spaced-short (true ∷ minus) (n ∷ ns) (also low small) =
    rw length-append (omega (arith, minus-length true n refl, few-digits n low, spaced-short minus ns small))
spaced-short (false ∷ minus) (n ∷ ns) (also low small) =
    rw length-append (omega (arith, plain-length false n refl, few-digits n low, spaced-short minus ns small))

line-short : (word : List ℕ) (minus : List Bool) (ns : List ℕ) → Small ns
    → length (numbers_line word minus ns) ≤ length word + 1 + (11 * length ns + length minus)
line-short word minus ns small = rw numbers-length (omega (arith, spaced-short minus ns small))

-- the three lines, each by how many numbers it has
pub cursor-short : (left top : Bool) (ns : List ℕ) → length ns ≡ 6 → Small ns → length (cursor_line left top ns) ≤ 76
unfolding cursor_line ascii
cursor-short left top ns six small = omega (arith, six, line-short (ascii "cursor") (false ∷ left ∷ top ∷ []) ns small)

pub window-short : (ns : List ℕ) → length ns ≡ 10 → Small ns → length (window_2_line ns) ≤ 118
unfolding window_2_line ascii
window-short ns ten small = omega (arith, ten, line-short (ascii "window2") [] ns small)

pub capture-short : (ns : List ℕ) → length ns ≡ 4 → Small ns → length (capture_line ns) ≤ 52
unfolding capture_line ascii
capture-short ns four small = omega (arith, four, line-short (ascii "capture") [] ns small)
