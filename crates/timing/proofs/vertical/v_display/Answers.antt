-- `v_display` meets its contract: its pieces, added up. Assumes nothing.
use Prim.Native.Nat.{ℕ}
use mathlib.Core.Path.{ap}
use native.Mathlib.Omega.{arith}
use Rattle.bits.specs.Numbers.{read_numbers, read_from, meant}
use Rattle.bits.specs.Pieces.{width, held, gather}
use Rattle.file.specs.File.{seen}
use Rattle.timing.specs.Table.{table}
use Rattle.timing.specs.Timing.{timing_in, timing_of}
use Rattle.timing.proofs.vertical.v_display.Goals as goal

pub returns : goal.returns
unfolding timing_in timing_of read_numbers read_from table meant gather held seen width
returns c = ap (λ (n : ℕ). record { 0 = n }) (omega (arith, c.eleven.ensures))
