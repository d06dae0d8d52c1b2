use Prim.Native.Nat.{◌+◌}
use mathlib.Core.Path.{refl, ap, ◌∙◌}
use native.Mathlib.Omega.{arith}
use lib.ListN.{length, drop}
use lib.Seq.{sets}
use Rattle.text.proofs.Stores.{rest-stored}
use Rattle.escaping.specs.Escaped.{escaped_text}
use Rattle.escaping.proofs.Sizes.{next-escaped, next-size, none_left}
use Rattle.escaping.proofs.put_text.Goals as goal

pub loop-b-init : goal.loop-b-init
loop-b-init c = (refl, refl, omega arith, refl)

pub put_byte-at-requires : goal.put_byte-at-requires
put_byte-at-requires c =
    let args = c.args in
    omega (arith, next-size args.bytes.now c.loop-b.b-index (omega arith))

pub loop-b-preserved : goal.loop-b-preserved
loop-b-preserved c =
    let bytes = c.args.bytes.now in
    let put = c.put_byte-at.ensures in
    let next = next-size bytes c.loop-b.b-index (omega arith) in (
      rest-stored (escaped_text (drop (c.loop-b.b-index + 1) bytes)) put
          ∙ ap (sets c.loop-b.buffer c.loop-b.at) (next-escaped bytes c.loop-b.b-index (omega arith))
          ∙ c.loop-b.invariant.0,
      omega (arith, put.place),
      omega arith,
      omega arith,
    )

pub shape_of-buffer : goal.shape_of-buffer
shape_of-buffer c = c.loop-b.invariant.3

pub returns : goal.returns
returns c =
    let none = none_left c.args.bytes.now c.loop-b.b-index (omega arith) in
    record { bytes = rw none at c.loop-b.invariant.0; place = omega (arith, ap length none) }
