use Prim.Native.Nat.{suc, ◌+◌, ◌-◌, ◌%◌}
use mathlib.Core.Path.{◌≡◌, refl, ap, ◌∙◌}
use native.Mathlib.Nat.{sub-zero}
use native.Mathlib.Omega.{arith}
use Rattle.text.specs.Fixed.{behind, byte_behind}
use Rattle.text.specs.Text.{capital}
use Rattle.explaining.specs.Lines.{Line, hex_of}
use Rattle.explaining.proofs.line.hex.Goals as goal

pub loop-i-init : goal.loop-i-init
loop-i-init c = rw sub-zero refl

pub loop-i-preserved : goal.loop-i-preserved
unfolding behind hex_of
loop-i-preserved c =
    let here = c.loop-i in
    let digits = c.args.digits in
    let n = c.args.n in
    let left : digits - here.i ≡ suc (digits - (here.i + 1)) = omega arith in
    let place : digits - 1 - here.i ≡ digits - (here.i + 1) = omega arith in
    let one = rw place at c.digit.ensures.0 in
    let last : c.digit.result % 16 ≡ c.digit.result = omega (arith, c.digit.ensures.1) in
    ap (λ (l : Line). behind l (hex_of (digits - (here.i + 1)) n)) (c.with_byte-after.ensures ∙ ap (byte_behind here.after) (c.capital.ensures ∙ ap capital (last ∙ one)))
    ∙ rw left at here.invariant

pub returns : goal.returns
unfolding behind hex_of
returns c =
    let none : c.args.digits - c.loop-i.i ≡ 0 = omega arith in
    rw none at c.loop-i.invariant
