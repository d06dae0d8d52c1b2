use mathlib.Core.Path.{ap}
use native.Mathlib.Omega.{arith}
use borrow.Author.Tests.{le-leb, lt-leb}
use lib.ListN.{length}
use Rattle.escaping.specs.Escaped.{escaped_text}
use Rattle.escaping.proofs.Sizes.{next-size, none_left}
use Rattle.escaping.proofs.text_fits.Goals as goal

pub loop-b-init : goal.loop-b-init
loop-b-init c = omega arith

pub returns-then-left-size : goal.returns-then-left-size
returns-then-left-size c =
    let here = c.loop-b in
    let args = c.args in
    let next = next-size args.bytes.now here.b-index (omega arith) in
    let size = c.byte_size-size.ensures in
    rw (lt-leb (length (escaped_text args.bytes.now)) args.room (omega arith))

pub loop-b-preserved : goal.loop-b-preserved
loop-b-preserved c =
    let here = c.loop-b in
    let args = c.args in
    let next = next-size args.bytes.now here.b-index (omega arith) in
    let size = c.byte_size-size.ensures in
    omega arith

pub returns : goal.returns
returns c =
    let here = c.loop-b in
    let args = c.args in
    let none = none_left args.bytes.now here.b-index (omega arith) in
    rw (le-leb (length (escaped_text args.bytes.now)) args.room (omega (arith, ap length none)))
