use Prim.Native.Nat.{suc, ◌+◌, ◌-◌}
use mathlib.Core.Path.{◌≡◌, refl, ap, ◌∙◌}
use native.Mathlib.Omega.{arith}
use borrow.Author.Tests.{lt-ltb, le-ltb}
use lib.ListN.{replicate}
use Rattle.text.specs.Fixed.{behind}
use Rattle.explaining.specs.Lines.{Line}
use Rattle.explaining.proofs.line.column.Goals as goal

pub returns-then-end-to : goal.returns-then-end-to
unfolding behind
returns-then-end-to c = rw (le-ltb _ _ (rw c.len-end.ensures at c.if-end-to.true)) c.with_byte.ensures

pub spaces-init : goal.spaces-init
spaces-init c = refl

pub spaces-preserved : goal.spaces-preserved
unfolding behind
spaces-preserved c =
    let here = c.spaces in
    let to = c.args.to in
    let left : to - here.counter ≡ suc (to - (here.counter + 1)) = omega arith in
    ap (λ (l : Line). behind l (replicate (to - (here.counter + 1)) 0x20)) c.with_byte-after.ensures ∙ rw left at here.invariant

pub returns : goal.returns
unfolding behind
returns c =
    let here = c.spaces in
    let to = c.args.to in
    let none : to - here.counter ≡ 0 = omega arith in
    rw (lt-ltb _ _ (rw c.len-end.ensures at c.if-end-to.false)) (rw c.len-end.ensures at (rw none at here.invariant))
