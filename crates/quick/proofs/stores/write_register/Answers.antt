-- `write_register` meets its contract. Assumes nothing.
use native.Mathlib.Omega.{arith}
use Rattle.quick.proofs.RegistersStored.{stored-coded}
use Rattle.quick.proofs.stores.write_register.Goals as goal

pub returns-then-number-le-CR7 : goal.returns-then-number-le-CR7
returns-then-number-le-CR7 c =
    let number = c.args.number in
    let low = c.if-number-ge-CR0.true in
    (c.write_lockable.ensures, stored-coded _ _ number _ _ _ c.write_lockable.ensures (λ n. absurd (let never : ⊥ = omega (arith, n, low) in never)) (λ n. absurd (let never : ⊥ = omega (arith, n, low) in never)) _)

pub returns-then-number-ge-CR0 : goal.returns-then-number-ge-CR0
returns-then-number-ge-CR0 c = (c.write_free.ensures.0, c.write_free.ensures.1 _)
