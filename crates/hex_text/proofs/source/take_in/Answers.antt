-- `take_in` meets its contract, by what the input is. Assumes nothing.
use mathlib.Core.Path.{refl}
use native.Mathlib.Omega.{arith}
use Rattle.hex_text.specs.Promises.{fitting}
use Rattle.hex_text.proofs.Kept.{bytes-taken, text-taken}
use Rattle.hex_text.proofs.source.take_in.Goals as goal

pub overflow_add-result : goal.overflow_add-result
unfolding fitting
overflow_add-result c = omega (arith, c.copy_fitting-count.ensures.taken)

pub returns-in-Bytes : goal.returns-in-Bytes
returns-in-Bytes c = rw c.in-Bytes.is (bytes-taken _ _ _ _ _ _ c.copy_fitting-count.ensures refl)

pub returns-in-Text : goal.returns-in-Text
returns-in-Text c = rw c.in-Text.is (text-taken _ _ _ _ c.in-Text.text _ c.read_text-read.ensures)
