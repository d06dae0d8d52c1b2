-- `painted_place` meets its contract. Assumes nothing.
use native.Mathlib.Omega.{arith}
use Rattle.host.proofs.serving.painted_place.Goals as goal

pub returns-then-bank : goal.returns-then-bank
returns-then-bank c = (rw c.if-bank.true c.bank_place.ensures.0, c.bank_place.ensures.1)

pub returns : goal.returns
returns c = (rw c.if-bank.false c.palette_place.ensures.0, omega (arith, c.palette_place.ensures.1))
