-- `line::numbers_fit` meets its contract. Assumes nothing.
use Prim.Native.Nat.{◌+◌, ◌-◌}
use native.Mathlib.Omega.{arith}
use borrow.Author.Tests.{le-leb}
use Rattle.text.specs.Text.{numbers_fit}
use Rattle.text.proofs.Tests.{same_test}
use Rattle.text.proofs.line.numbers_fit.Goals as goal

pub returns-then-count-eq0 : goal.returns-then-count-eq0
unfolding numbers_fit
returns-then-count-eq0 c =
    let args = c.args in
    rw (le-leb (args.number + args.count) 18446744073709551616 (omega arith))

pub returns : goal.returns
unfolding numbers_fit
returns c =
    let args = c.args in
    same_test (args.count - 1) (18446744073709551615 - args.number) (args.number + args.count) 18446744073709551616 (λ h. omega arith) (λ h. omega arith)
