-- `modes::number::kilohertz` meets its contract. Assumes nothing.
use mathlib.Core.Path.{sym, ap, ◌∙◌}
use native.Mathlib.Omega.{arith}
use Prim.Native.Nat.{ℕ, ◌*◌}
use mathlib.Core.Bool.{Bool, ◌&&◌}
use mathlib.Core.List.{[]}
use mathlib.Core.Logic.{⊎_elim}
use mathlib.Core.Path.{◌≡◌}
use borrow.Author.Tests.{le-ltb}
use lib.Dec.{ltb}
use lib.ListN.{drop}
use Rattle.bits.proofs.Test.{and-false}
use Rattle.modes.specs.Scan.{read_numbers, shift}
use Rattle.modes.proofs.StagesRead.{decimals-bad, decimals-done, khz-below}
use Rattle.modes.proofs.number.kilohertz.Goals as goal

pub returns-then-read-ge3 : goal.returns-then-read-ge3
returns-then-read-ge3 c =
    let n = c.decimals-read.result in
    λ name. decimals-bad c.args.line.now c.args.at name c.args.whole n c.decimals-read.ensures.value
    (⊎_elim (λ e. ap (λ (b : Bool). b && ltb 0 n.value) (le-ltb n.left 3 e)) (λ e. ap (λ (v : ℕ). ltb n.left 3 && ltb 0 v) e.1 ∙ and-false (ltb n.left 3)) c.then-read-ge3.either)

pub overflow_mul-result : goal.overflow_mul-result
overflow_mul-result c =
    let n = c.decimals-read.result in
    record { fits = rw c.pow.ensures (omega (arith, khz-below n.value n.left c.if-read-ge3.false c.decimals-read.ensures.left_bound.1)) }

pub returns : goal.returns
returns c =
    let n = c.decimals-read.result in
    record {
      within = c.decimals-read.ensures.end_in_bounds;
      same =
          λ name. decimals-done c.args.line.now c.args.at name c.args.whole n c.decimals-read.ensures.value c.if-read-ge3.false
          (let z : n.value ≡ 0 → ⊥ = c.if-read-eq0.false in omega (arith, z))
          ∙ ap (λ (t : ℕ). shift n.end (read_numbers 8 name (n.value * t) [] (drop n.end c.args.line.now))) (sym c.pow.ensures);
    }
