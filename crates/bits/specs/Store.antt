-- The bits of a number, and the one rule by which a register is stored.
-- Assumes nothing.
use Rattle.std.specs.Prelude.{ℕ, ◌+◌, ◌-◌, ◌/◌, ◌%◌, ◌^◌, Bool, ◌==◌, bit_and, bit_xor}

-- bits high to low of a number, as 01 writes CR1A[5:4]
unfoldable pub bits : ℕ → ℕ → ℕ → ℕ
bits high low n = n / 2 ^ low % 2 ^ (high + 1 - low)

-- one bit of a number, as 01 writes CR11[7]
unfoldable pub bit : ℕ → ℕ → ℕ
bit place n = n / 2 ^ place % 2

-- 01, 'Places' and 'Stored bits': the old bits outside the reach, the value's inside it. Inside, a bit changes where the two differ.
-- No other definition applies a mask.
unfoldable pub store : ℕ → ℕ → ℕ → ℕ
store reach old value = bit_xor old (bit_and (bit_xor old value) reach)

-- 01, 'A file is sound if no bit outside the table is set': stored over 0, the value loses nothing
unfoldable pub within : ℕ → ℕ → Bool
within stored value = store stored 0 value == value
