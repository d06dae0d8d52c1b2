use Prim.Native.Nat.{ℕ}
use mathlib.Core.Bool.{Bool}
use mathlib.Core.List.{◌++◌}
use mathlib.Core.Path.{ap, ap₂}
use native.Mathlib.Omega.{arith}
use borrow.Author.Tests.{le-leb, lt-leb}
use lib.ListN.{length, drop}
use Rattle.text.specs.Text.{signed, space, spaced}
use Rattle.text.proofs.Spaced.{next-length, none_left}
use Rattle.text.proofs.numbers.spaced_fit.Goals as goal

pub loop-i-init : goal.loop-i-init
loop-i-init c = omega arith

pub returns-then-left-size : goal.returns-then-left-size
returns-then-left-size c =
    let args = c.args in
    let here = c.loop-i in
    let next = next-length args.minus.now args.numbers.now here.i (omega arith) in
    let size = c.behind_size-size.ensures in
    let same = ap₂ (λ (m : Bool) (n : ℕ). length (space ++ signed m n)) c.mark.ensures c.from.ensures in
    rw (lt-leb (length (spaced args.minus.now args.numbers.now)) args.room (omega arith))

pub loop-i-preserved : goal.loop-i-preserved
loop-i-preserved c =
    let args = c.args in
    let here = c.loop-i in
    let next = next-length args.minus.now args.numbers.now here.i (omega arith) in
    let size = c.behind_size-size.ensures in
    let same = ap₂ (λ (m : Bool) (n : ℕ). length (space ++ signed m n)) c.mark.ensures c.from.ensures in
    omega arith

pub returns : goal.returns
returns c =
    let args = c.args in
    let here = c.loop-i in
    let none = none_left (drop here.i args.minus.now) args.numbers.now here.i (omega arith) in
    rw (le-leb (length (spaced args.minus.now args.numbers.now)) args.room (omega (arith, ap length none)))
