-- `put` meets its contract. Assumes nothing.
use mathlib.Core.Path.{refl}
use native.Mathlib.Omega.{arith}
use Rattle.hex_text.specs.Machine.{bytes_of}
use Rattle.hex_text.proofs.reading.put.Goals as goal

pub returns-in-None : goal.returns-in-None
unfolding bytes_of
returns-in-None c = rw c.in-None.is (record { stored = refl; ended = omega arith })

pub returns-in-Some : goal.returns-in-Some
unfolding bytes_of
returns-in-Some c = rw c.in-Some.is (record { stored = refl; ended = refl })
