use Prim.Native.Nat.{ℕ, ◌+◌}
use mathlib.Core.Bool.{true, ◌&&◌}
use mathlib.Core.List.{List}
use mathlib.Core.Path.{refl, ap, ◌∙◌}
use native.Mathlib.Omega.{arith}
use lib.Dec.{eqb}
use lib.ListN.{length, get_or, take, drop}
use lib.Seq.{sets}
use Rattle.text.proofs.Stores.{rest-stored}
use Rattle.refusals.specs.Said.{codes_text}
use Rattle.refusals.proofs.Telling.{from-two, next-code, next-code-length, no-code-left}
use Rattle.refusals.proofs.put.put_codes.Goals as goal

pub loop-i-init : goal.loop-i-init
loop-i-init c =
    let all = from-two c.args.counts.now c.told-counts in (
      ap (λ (told : List ℕ). sets c.args.buffer.now c.args.at (codes_text true 2 told)) all,
      ap (λ (told : List ℕ). c.args.at + length (codes_text true 2 told)) all,
      refl,
    )

pub put_code-at-requires : goal.put_code-at-requires
put_code-at-requires c =
    let here = c.loop-i in
    let next = next-code-length here.first (take 21 (drop 2 c.args.counts.now)) here.i c.loop-i-test.true in
    omega (arith, next)

pub loop-i-preserved : goal.loop-i-preserved
loop-i-preserved c =
    let here = c.loop-i in
    let told = take 21 (drop 2 c.args.counts.now) in
    let wrote = c.put_code-at.ensures in
    let next = next-code here.first told here.i c.loop-i-test.true in
    let size = next-code-length here.first told here.i c.loop-i-test.true in (
      rest-stored (codes_text (here.first && eqb (get_or told here.i 0) 0) (here.i + 1 + 2) (drop (here.i + 1) told)) wrote
          ∙ ap (sets here.buffer here.at) next
          ∙ here.invariant.0,
      omega (arith, wrote.place, size, here.invariant.1),
      omega arith,
    )

pub returns : goal.returns
returns c =
    let here = c.loop-i in
    let told = take 21 (drop 2 c.args.counts.now) in
    let none = no-code-left here.first told (here.i + 2) here.i (omega arith) in
    record { bytes = rw none at here.invariant.0; place = omega (arith, ap length none, here.invariant.1) }
