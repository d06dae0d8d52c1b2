use Prim.Native.Nat.{◌+◌, ◌*◌}
use mathlib.Core.Path.{refl, sym, ◌∙◌}
use native.Mathlib.Omega.{arith}
use borrow.Author.Tests.{leb-false, leb-true}
use lib.ListN.{length}
use Rattle.explaining.specs.Lines.{line_room}
use Rattle.explaining.proofs.PutLines.{lining-all, lining-next, lining-none}
use Rattle.explaining.proofs.explain.put_lines.Goals as goal

pub returns-then-not-lines_fit : goal.returns-then-not-lines_fit
returns-then-not-lines_fit g c =
    let args = c.args in
    let none = leb-false (args.at + line_room * args.count) (length args.buffer.now) (sym c.lines_fit.ensures ∙ c.if-not-lines_fit.true) in
    record { wrote = λ h. absurd (omega (arith, h, none)); upper_bound = omega arith; unstored = λ h. (refl, refl) }

pub loop-k-init : goal.loop-k-init
loop-k-init g c = (omega arith, omega arith, λ of told. lining-none _ _ _ _)

pub put_line-at-requires : goal.put_line-at-requires
put_line-at-requires g c =
    let args = c.args in
    let here = c.loop-k in
    let fit = leb-true (args.at + line_room * args.count) (length args.buffer.now) (sym c.lines_fit.ensures ∙ c.if-not-lines_fit.false) in
    omega (arith, fit, here.invariant.0, here.invariant.1, c.loop-k-test.true)

pub loop-k-preserved : goal.loop-k-preserved
loop-k-preserved g c =
    let here = c.loop-k in
    let put = c.put_line-at.ensures in
    let turn = c.loop-k-test.true in (
      omega (arith, here.invariant.0, put.upper_bound),
      omega arith,
      λ of told. lining-next of c.args.count _ c.args.at here.buffer here.at here.k (here.invariant.2 of told) turn c.line.result (told here.k c.line.result turn c.line.ensures) _ _ put.wrote put.upper_bound,
    )

pub returns : goal.returns
returns g c =
    let args = c.args in
    let here = c.loop-k in
    let fit = leb-true (args.at + line_room * args.count) (length args.buffer.now) (sym c.lines_fit.ensures ∙ c.if-not-lines_fit.false) in record {
      wrote = λ h of told. lining-all of c.args.count _ c.args.at here.buffer here.at here.k (here.invariant.2 of told) (omega arith);
      upper_bound = omega (arith, here.invariant.0);
      unstored = λ h. absurd (omega (arith, h, fit));
    }
