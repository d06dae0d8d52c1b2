-- `modes::number::decimals` meets its contract. Assumes nothing.
use mathlib.Core.Path.{ap, ◌∙◌}
use native.Mathlib.Omega.{arith}
use Prim.Native.Nat.{ℕ, ◌+◌, ◌-◌, ◌*◌}
use mathlib.Core.Bool.{not, ◌&&◌}
use lib.Dec.{eqb, ltb}
use Rattle.modes.specs.Form.{digit}
use Rattle.modes.specs.Scan.{decimal_runner}
use Rattle.modes.proofs.Loops.{byte-is, byte-within, byte-beyond, tested, untested, spelling, decimals-next, decimals-stop}
use Rattle.modes.proofs.number.decimals.Goals as goal

pub loop-byte-init : goal.loop-byte-init
loop-byte-init c = (spelling decimal_runner c.args.line.now c.args.at 3 c.args.whole 1000 c.requires.at_in_bounds c.requires.whole_bound, omega arith)

pub loop-byte-preserved : goal.loop-byte-preserved
loop-byte-preserved c =
    let here = c.loop-byte in
    let line = c.args.line.now in
    let byte = byte-is line c.args.at here.byte-index here.end here.invariant.1 in (
      decimals-next c.args.line.now c.args.at 3 c.args.whole 1000 here.end here.left here.value here.invariant.0
          (tested (λ (b : ℕ). (digit b && ltb 0 here.left) && not (eqb here.left 1 && eqb (10 * here.value + (b - 0x30)) 0)) line here.end _ _ (byte-within line c.args.at here.byte-index here.end here.invariant.1 c.loop-byte-test.true) byte c.takes_decimal.ensures ∙ c.if-not-takes_decimal.false)
          c.with_digit-value.result
          (c.with_digit-value.ensures ∙ ap (λ (b : ℕ). 10 * here.value + (b - 0x30)) byte),
      omega (arith, here.invariant.1),
    )

pub returns-after-loop-byte-clause-value : goal.returns-after-loop-byte-clause-value
returns-after-loop-byte-clause-value c =
    let here = c.loop-byte in
    decimals-stop c.args.line.now c.args.at 3 c.args.whole 1000 here.end here.left here.value here.invariant.0
    (untested (λ (b : ℕ). (digit b && ltb 0 here.left) && not (eqb here.left 1 && eqb (10 * here.value + (b - 0x30)) 0)) c.args.line.now here.end (byte-beyond c.args.line.now c.args.at here.byte-index here.end here.invariant.1 c.loop-byte-test.false))

pub returns-then-not-takes_decimal-clause-value : goal.returns-then-not-takes_decimal-clause-value
returns-then-not-takes_decimal-clause-value c =
    let here = c.loop-byte in
    let line = c.args.line.now in
    decimals-stop c.args.line.now c.args.at 3 c.args.whole 1000 here.end here.left here.value here.invariant.0
    (tested (λ (b : ℕ). (digit b && ltb 0 here.left) && not (eqb here.left 1 && eqb (10 * here.value + (b - 0x30)) 0)) line here.end _ _ (byte-within line c.args.at here.byte-index here.end here.invariant.1 c.loop-byte-test.true)
    (byte-is line c.args.at here.byte-index here.end here.invariant.1) c.takes_decimal.ensures ∙ c.if-not-takes_decimal.true)
