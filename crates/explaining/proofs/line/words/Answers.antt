use Prim.Native.Nat.{◌+◌}
use mathlib.Core.Path.{refl, sym, ap, ◌∙◌}
use native.Mathlib.Omega.{arith}
use lib.ListN.{drop}
use Rattle.text.specs.Fixed.{behind}
use Rattle.explaining.specs.Lines.{Line, up_to_dot}
use Rattle.explaining.proofs.Behind.{at-dot, no-dot, no_words}
use Rattle.explaining.proofs.line.words.Goals as goal

pub loop-b-init : goal.loop-b-init
loop-b-init c = refl

pub returns-then-b-eq46 : goal.returns-then-b-eq46
returns-then-b-eq46 c =
    let here = c.loop-b in
    sym (at-dot here.after c.args.bytes here.b-index (omega arith) c.if-b-eq46.true) ∙ here.invariant

pub loop-b-preserved : goal.loop-b-preserved
loop-b-preserved c =
    let here = c.loop-b in
    let text = c.args.bytes in
    ap (λ (l : Line). behind l (up_to_dot (drop (here.b-index + 1) text))) c.with_byte-after.ensures
    ∙ no-dot here.after text here.b-index (omega arith) c.if-b-eq46.false
    ∙ here.invariant

pub returns : goal.returns
returns c = sym (no_words c.loop-b.after c.args.bytes c.loop-b.b-index (omega arith)) ∙ c.loop-b.invariant
