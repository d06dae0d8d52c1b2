-- `paint` meets its contract. Assumes nothing.
use Prim.Native.Nat.{suc, ◌+◌}
use mathlib.Core.Path.{◌≡◌}
use native.Mathlib.Omega.{arith}
use lib.ListN.{length-set}
use Rattle.image.specs.Bytes.{colour_bytes}
use Rattle.host.proofs.serving.paint.Goals as goal

pub bounds-rest-at-2 : goal.bounds-rest-at-2
bounds-rest-at-2 c = simp length-set (omega (arith, c.requires))

pub bounds-rest-at-3 : goal.bounds-rest-at-3
bounds-rest-at-3 c = simp length-set (omega (arith, c.requires))

pub returns : goal.returns
unfolding colour_bytes
returns c =
    let at = c.args.at in
    let one : at + 1 ≡ suc at = omega arith in
    let two : at + 2 ≡ suc (suc at) = omega arith in
    rw (one, two)
