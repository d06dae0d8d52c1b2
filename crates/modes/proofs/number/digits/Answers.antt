-- `modes::number::digits` meets its contract. Assumes nothing.
use mathlib.Core.Path.{ap, ◌∙◌}
use native.Mathlib.Omega.{arith}
use Prim.Native.Nat.{ℕ, ◌+◌, ◌-◌, ◌*◌}
use mathlib.Core.Bool.{◌&&◌}
use native.Mathlib.Nat.{lt_of_lt_of_le, pow-le-pow_right}
use lib.Dec.{ltb}
use Rattle.modes.specs.Form.{digit}
use Rattle.modes.specs.Scan.{digit_runner}
use Rattle.modes.proofs.Loops.{byte-is, byte-within, byte-beyond, tested, untested, spelling, digits-next, digits-stop, bound-most}
use Rattle.modes.proofs.number.digits.Goals as goal

pub loop-byte-init : goal.loop-byte-init
loop-byte-init c = (spelling digit_runner c.args.line.now c.args.at c.args.most 0 1 c.requires.at_in_bounds (omega arith), omega arith)

pub with_digit-value-requires : goal.with_digit-value-requires
with_digit-value-requires c =
    let here = c.loop-byte in
    bound-most here.value (c.args.most - here.left) (omega (arith, here.invariant.0.below)) (omega (arith, c.requires.most_bound))

pub loop-byte-preserved : goal.loop-byte-preserved
loop-byte-preserved c =
    let here = c.loop-byte in
    let line = c.args.line.now in
    let byte = byte-is line c.args.at here.byte-index here.end here.invariant.1 in (
      digits-next c.args.line.now c.args.at c.args.most 0 1 here.end here.left here.value (omega arith) here.invariant.0
          (tested (λ (b : ℕ). digit b && ltb 0 here.left) line here.end _ _ (byte-within line c.args.at here.byte-index here.end here.invariant.1 c.loop-byte-test.true) byte c.takes_digit.ensures ∙ c.if-not-takes_digit.false)
          c.with_digit-value.result c.left_behind-left.result
          (c.with_digit-value.ensures ∙ ap (λ (b : ℕ). 10 * here.value + (b - 0x30)) byte) c.left_behind-left.ensures,
      omega (arith, here.invariant.1),
    )

pub returns-after-loop-byte-clause-value : goal.returns-after-loop-byte-clause-value
returns-after-loop-byte-clause-value c =
    let here = c.loop-byte in
    digits-stop c.args.line.now c.args.at c.args.most 0 1 here.end here.left here.value here.invariant.0
    (untested (λ (b : ℕ). digit b && ltb 0 here.left) c.args.line.now here.end (byte-beyond c.args.line.now c.args.at here.byte-index here.end here.invariant.1 c.loop-byte-test.false))

pub returns-after-loop-byte-clause-value_bound : goal.returns-after-loop-byte-clause-value_bound
returns-after-loop-byte-clause-value_bound c =
    let here = c.loop-byte in
    lt_of_lt_of_le here.invariant.0.below (omega (arith, pow-le-pow_right {n = 10} (omega arith) {i = c.args.most - here.left} {j = c.args.most} (omega arith)))

pub returns-then-not-takes_digit-clause-value : goal.returns-then-not-takes_digit-clause-value
returns-then-not-takes_digit-clause-value c =
    let here = c.loop-byte in
    let line = c.args.line.now in
    digits-stop c.args.line.now c.args.at c.args.most 0 1 here.end here.left here.value here.invariant.0
    (tested (λ (b : ℕ). digit b && ltb 0 here.left) line here.end _ _ (byte-within line c.args.at here.byte-index here.end here.invariant.1 c.loop-byte-test.true)
    (byte-is line c.args.at here.byte-index here.end here.invariant.1) c.takes_digit.ensures ∙ c.if-not-takes_digit.true)

pub returns-then-not-takes_digit-clause-value_bound : goal.returns-then-not-takes_digit-clause-value_bound
returns-then-not-takes_digit-clause-value_bound c =
    let here = c.loop-byte in
    lt_of_lt_of_le here.invariant.0.below (omega (arith, pow-le-pow_right {n = 10} (omega arith) {i = c.args.most - here.left} {j = c.args.most} (omega arith)))
