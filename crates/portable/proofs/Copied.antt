-- A list copied into another of the same length, element by element: with the rest stored, it is whole. Assumes nothing.
use Prim.Native.Nat.{ℕ, ◌+◌, ◌≤◌, ◌<◌}
use mathlib.Core.Path.{◌≡◌, ap, ◌∙◌}
use mathlib.Core.List.{List, ◌++◌, append-nil}
use native.Mathlib.Numerals.{add-one}
use native.Mathlib.Omega.{arith}
use lib.ListN.{get_or, set, length, drop, drop_of_length-le, length-set}
use lib.Seq.{sets, sets-eq, drop-cons}

-- so far: what is left of the one, stored into the other, makes them equal
abbrev pub Copying : List ℕ → List ℕ → ℕ → Type 0
Copying from into i = (sets into i (drop i from) ≡ from) × (i ≤ length from) × (length into ≡ length from)

pub copying-first : (from into : List ℕ) → length into ≡ length from → Copying from into 0
copying-first from into e = (
  sets-eq from into 0 (omega arith)
      ∙ ap (λ (rest : List ℕ). from ++ rest) (drop_of_length-le into {i = 0 + length from} (omega arith))
      ∙ append-nil from,
  omega arith,
  e,
)

pub copying-next : (from into : List ℕ) (i : ℕ) → Copying from into i → i < length from → Copying from (set into i (get_or from i 0)) (i + 1)
copying-next from into i c h = (rw add-one (rw (drop-cons from i 0 h) at c.0), omega arith, simp length-set c.2)

pub copying-last : (from into : List ℕ) (i : ℕ) → Copying from into i → length from ≤ i → into ≡ from
copying-last from into i c h = rw (drop_of_length-le from {i = i} h) at c.0
