-- Every register stores a bit on either chip. Assumes nothing.
use Prim.Native.Nat.{ℕ, ◌<◌}
use mathlib.Core.Bool.{Bool, not}
use lib.Dec.{T, eqb}
use Rattle.bits.proofs.Test.{every_below, below}
use Rattle.file.specs.declared.chip.Chip.{Chip}
use Rattle.file.specs.declared.chip.Chip.TheVariants.{Gd5462, Gd5464}
use Rattle.file.specs.Registers.{register_count, stored_bits}

unfoldable pub stores : Chip → ℕ → Bool
stores chip n = not (eqb (stored_bits chip n) 0)

both-store : T (every_below (stores Gd5462) register_count) × T (every_below (stores Gd5464) register_count)
unfolding every_below stores stored_bits
both-store = (tt, tt)

pub all-store : (chip : Chip) (n : ℕ) → n < register_count → T (not (eqb (stored_bits chip n) 0))
unfolding stores
all-store Gd5462 n h = below (stores Gd5462) register_count both-store.0 n h
all-store Gd5464 n h = below (stores Gd5464) register_count both-store.1 n h
