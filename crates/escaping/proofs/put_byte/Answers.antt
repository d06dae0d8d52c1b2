-- `put_byte` meets its contract. Assumes nothing.
use mathlib.Core.Bool.{true, false}
use mathlib.Core.Path.{◌≡◌, sym, ◌∙◌}
use native.Mathlib.Omega.{arith}
use Rattle.escaping.specs.Escaped.{escaped_byte, is_plain}
use Rattle.escaping.proofs.Sizes.{plain_size, escape-size}
use Rattle.escaping.proofs.put_byte.Goals as goal

pub returns-then-is_plain : goal.returns-then-is_plain
unfolding escaped_byte
returns-then-is_plain c =
    let plain : is_plain c.args.b ≡ true = sym c.is_plain.ensures ∙ c.if-is_plain.true in
    rw plain (c.put.ensures.stored (omega (arith, plain_size c.args.b plain)))

pub put_escape-requires : goal.put_escape-requires
put_escape-requires c =
    omega (arith, escape-size c.args.b (sym c.is_plain.ensures ∙ c.if-is_plain.false))

pub returns : goal.returns
unfolding escaped_byte
returns c =
    let other : is_plain c.args.b ≡ false = sym c.is_plain.ensures ∙ c.if-is_plain.false in
    rw other c.put_escape.ensures
