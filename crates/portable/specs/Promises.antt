-- 02, 13/13: what the theorems on the reader and the writer speak of: the tests that an accepted timing passes, the bits of each byte that the numbers have.
-- Assumes nothing.
use Rattle.std.specs.Prelude.{ℕ, ◌<◌, ◌≡◌, false, List, [], ◌∷◌, T, get_or, length}
use Rattle.bits.specs.Store.{bit}
use Rattle.timing.specs.Ranges.{all_lie_in}
use Rattle.portable.specs.declared.Timing.{Timing}
use Rattle.portable.specs.Table.{ranges}
use Rattle.portable.specs.Timing.{numbers_of, locked}

-- the three tests that an accepted timing passes
pub record Passes (bytes : List ℕ) (t : Timing) : Type 0 where
  pub counted : length bytes ≡ 28
  pub unlocked : locked bytes ≡ false
  pub ranged : T (all_lie_in ranges (numbers_of t))

-- the bits that Table 9-1 names, byte by byte; screen start's CRC, CRD, CR1B[0], CR1B[3:2] aren't among them
unfoldable pub reaches : List ℕ
reaches =
    0xFF ∷ 0xFF ∷ 0xFF ∷ 0x1F ∷ 0xFF ∷ 0x9F ∷ 0xFF ∷ 0xFF  -- CR0 to CR7
    ∷ 0x00 ∷ 0x60 ∷ 0x00 ∷ 0x00 ∷ 0x00 ∷ 0x00 ∷ 0x00 ∷ 0x00  -- CR8 to CRF
    ∷ 0xFF ∷ 0x0F ∷ 0xFF ∷ 0xFF ∷ 0x00 ∷ 0xFF ∷ 0xFF ∷ 0x00  -- CR10 to CR17
    ∷ 0xFF ∷ 0x00 ∷ 0xF0 ∷ 0x10 ∷ []  -- CR18 to CR1B

-- as many bytes, and no bit differs that Table 9-1 does not name
pub record SameOutsideTable (before after : List ℕ) : Type 0 where
  pub count : length after ≡ length before
  pub bits : (k i : ℕ) → k < 28 → bit i (get_or reaches k 0) ≡ 0 → bit i (get_or after k 0) ≡ bit i (get_or before k 0)
