use Prim.Native.Nat.{◌+◌}
use mathlib.Core.Path.{refl, sym, ap, ◌∙◌}
use native.Mathlib.Omega.{arith}
use lib.ListN.{drop}
use Rattle.text.specs.declared.fixed.Line.{Line}
use Rattle.text.specs.Fixed.{behind}
use Rattle.text.proofs.Behind.{next-byte, no_byte}
use Rattle.text.proofs.fixed.Line.with_text.Goals as goal

pub loop-b-init : goal.loop-b-init
loop-b-init g c = refl

pub loop-b-preserved : goal.loop-b-preserved
loop-b-preserved g c =
    let here = c.loop-b in
    let text = c.args.text.now in
    ap (λ (l : Line g.row.N). behind l (drop (here.b-index + 1) text)) c.with_byte-after.ensures
    ∙ next-byte here.after text here.b-index (omega arith)
    ∙ here.invariant

pub returns : goal.returns
returns g c = sym (no_byte c.loop-b.after c.args.text.now c.loop-b.b-index (omega arith)) ∙ c.loop-b.invariant
