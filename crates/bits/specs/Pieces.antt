-- 01, 'Timing': a number whose bits lie in pieces of several registers, high bits first. The registers are any list of numbers.
-- Assumes nothing.
use Rattle.std.specs.Prelude.{ℕ, ◌+◌, ◌-◌, ◌*◌, ◌/◌, ◌%◌, ◌^◌, List, [], ◌∷◌, slice_index, slice_set}
use Rattle.bits.specs.Store.{store}

-- so many bits of a register, from a lowest one on
pub record Piece : Type 0 where
  pub register : ℕ
  pub low : ℕ
  pub width : ℕ

-- register[high:low], as 01 writes a piece
abbrev pub piece : ℕ → ℕ → ℕ → Piece
piece register high low = record { register = register; low = low; width = high + 1 - low }

-- how many bits a number of these pieces has
unfoldable pub width : List Piece → ℕ
width [] = 0
width (p ∷ ps) = p.width + width ps

-- what a piece holds
unfoldable pub held : List ℕ → Piece → ℕ
held registers p = slice_index registers p.register / 2 ^ p.low % 2 ^ p.width

-- the number that the pieces hold
unfoldable pub gather : List ℕ → List Piece → ℕ
gather registers [] = 0
gather registers (p ∷ ps) = held registers p * 2 ^ width ps + gather registers ps

-- the bits of its register that a piece may change
unfoldable pub piece_reach : Piece → ℕ
piece_reach p = (2 ^ p.width - 1) * 2 ^ p.low

-- a piece set to the low bits of a number, by the store rule
unfoldable pub put : Piece → ℕ → List ℕ → List ℕ
put p n registers = slice_set registers p.register (store (piece_reach p) (slice_index registers p.register) (n % 2 ^ p.width * 2 ^ p.low))

-- the pieces set to a number
unfoldable pub scatter : List Piece → ℕ → List ℕ → List ℕ
scatter [] n registers = registers
scatter (p ∷ ps) n registers = scatter ps n (put p (n / 2 ^ width ps) registers)
