-- What the theorems on the timing writer speak of: the tests that an accepted timing passes, the bits that no number has, and what stays.
-- Assumes nothing.
use Rattle.std.specs.Prelude.{ℕ, ◌≡◌, Bool, true, false, ◌&&◌, List, [], ◌∷◌, T, eqb}
use Rattle.std.specs.Int.Bits.{bit_and}
use Rattle.bits.specs.Numbers.{Number, all_in_range}
use Rattle.bits.specs.Reach.{table_reach}
use Rattle.bits.specs.Store.{bit}
use Rattle.file.specs.declared.registers.File.{File}
use Rattle.file.specs.File.{register, crtc_locked}
use Rattle.file.specs.Names.{CR3, CR5, CR9, CR11, CR1A, CR1B}
use Rattle.file.specs.Sound.{sound}
use Rattle.timing.specs.declared.Timing.{Timing}
use Rattle.timing.specs.Table.{table, wide}
use Rattle.timing.specs.Timing.{numbers_of}

-- the three tests that an accepted timing passes
pub record Passes (f : File) (t : Timing) : Type 0 where
  pub is-sound : T (sound f)
  pub unlocked : crtc_locked f ≡ false
  pub ranged : T (all_in_range (table (wide f)) (numbers_of t))

-- bits of the table's registers that belong to no number
pub record Free : Type 0 where
  pub register : ℕ
  pub bits : ℕ

unfoldable pub free : List Free
free =
    record { register = CR1A; bits = 0x0F }
    ∷ record { register = CR1B; bits = 0xE2 }
    ∷ record { register = CR3; bits = 0xE0 }
    ∷ record { register = CR5; bits = 0x60 }
    ∷ record { register = CR9; bits = 0x9F }
    ∷ record { register = CR11; bits = 0xF0 }
    ∷ []

unfoldable pub no_bits : Free
no_bits = record { register = 0; bits = 0 }

-- no number of a table has one of these bits
unfoldable pub unused : List Number → List Free → Bool
unused table [] = true
unused table (x ∷ xs) = eqb (bit_and x.bits (table_reach table x.register)) 0 && unused table xs

-- no bit of any register outside the table's pieces differs, nor the palette, the bank or the state
pub record SameOutsideTable (before after : File) : Type 0 where
  pub registers : (r i : ℕ) → bit i (table_reach (table (wide before)) r) ≡ 0 → bit i (register after r) ≡ bit i (register before r)
  pub palette : after.palette ≡ before.palette
  pub bank : after.bank ≡ before.bank
  pub state : after.state ≡ before.state
