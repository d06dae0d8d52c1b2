use Prim.Native.Nat.{ℕ, ◌+◌}
use mathlib.Core.Bool.{Bool}
use mathlib.Core.List.{◌++◌}
use mathlib.Core.Path.{refl, ap, ap₂, ◌∙◌}
use native.Mathlib.Omega.{arith}
use lib.ListN.{length, drop}
use lib.Seq.{sets}
use Rattle.text.specs.Text.{signed, space, spaced}
use Rattle.text.proofs.Spaced.{next-length, next-spaced, none_left}
use Rattle.text.proofs.Stores.{rest-stored}
use Rattle.text.proofs.numbers.spell_each.Goals as goal

pub loop-i-init : goal.loop-i-init
loop-i-init c = (refl, refl, omega arith, refl)

pub spell_behind-at-requires : goal.spell_behind-at-requires
spell_behind-at-requires c =
    let args = c.args in
    let next = next-length args.minus.now args.numbers.now c.loop-i.i (omega arith) in
    let same = ap₂ (λ (m : Bool) (n : ℕ). length (space ++ signed m n)) c.mark.ensures c.from.ensures in
    omega arith

pub loop-i-preserved : goal.loop-i-preserved
loop-i-preserved c =
    let args = c.args in
    let here = c.loop-i in
    let spelled = rw (c.mark.ensures, c.from.ensures) at c.spell_behind-at.ensures in
    let next = next-length args.minus.now args.numbers.now here.i (omega arith) in (
      rest-stored (spaced (drop (here.i + 1) args.minus.now) (drop (here.i + 1) args.numbers.now)) spelled
          ∙ ap (sets here.buffer here.at) (next-spaced args.minus.now args.numbers.now here.i (omega arith))
          ∙ here.invariant.0,
      omega (arith, spelled.place),
      omega arith,
      omega arith,
    )

pub shape_of-buffer : goal.shape_of-buffer
shape_of-buffer c = c.loop-i.invariant.3

pub returns : goal.returns
returns c =
    let args = c.args in
    let here = c.loop-i in
    let none = none_left (drop here.i args.minus.now) args.numbers.now here.i (omega arith) in
    record { bytes = rw none at here.invariant.0; place = omega (arith, ap length none) }
