-- The vertical numbers that a line is held to: what bounds them, and the end of vertical sync by its start. Assumes nothing.
use Prim.Native.Nat.{◌%◌, ◌<◌, ◌≤◌}
use mathlib.Core.Path.{◌≡◌, ap}
use native.Mathlib.Omega.{arith}
use Rattle.bits.specs.Numbers.{read_numbers, read_from, meant, end_after}
use Rattle.bits.specs.Pieces.{width, held, gather}
use Rattle.file.specs.declared.registers.File.{File}
use Rattle.file.specs.File.{register}
use Rattle.file.specs.Names.{CR11}
use Rattle.timing.specs.Table.{table}
use Rattle.timing.specs.Timing.{timing_in, timing_of}

module _ (f : File) where
  -- 01, 'value+2: 2..2049'
  pub total-least : 2 ≤ (timing_in f).v_total.0
  unfolding timing_in timing_of read_numbers read_from table meant gather held width
  total-least = omega arith

  pub total-most : (timing_in f).v_total.0 ≤ 2049
  unfolding timing_in timing_of read_numbers read_from table meant gather held width
  total-most = omega arith

  -- '0..2047'
  pub sync-start-below : (timing_in f).v_sync_start.0 < 2048
  unfolding timing_in timing_of read_numbers read_from table meant gather held width
  sync-start-below = omega arith

  -- '4 bits', CR11[3:0]
  pub sync-end-by : (timing_in f).v_sync_end.0 ≡ end_after (timing_in f).v_sync_start.0 4 (register f CR11 % 16)
  unfolding timing_in timing_of read_numbers read_from table meant gather held width register
  sync-end-by = ap (end_after (timing_in f).v_sync_start.0 4) (omega arith)
