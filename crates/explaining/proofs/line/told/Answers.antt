use Prim.Native.Nat.{◌+◌}
use mathlib.Core.Path.{refl, sym, ap, ◌∙◌}
use native.Mathlib.Omega.{arith}
use lib.ListN.{drop}
use Rattle.text.specs.Fixed.{behind}
use Rattle.explaining.specs.Lines.{Line, tokens_text}
use Rattle.explaining.proofs.Behind.{next-token, no-token}
use Rattle.explaining.proofs.line.told.Goals as goal

pub loop-spoken-init : goal.loop-spoken-init
loop-spoken-init c = refl

pub loop-spoken-preserved : goal.loop-spoken-preserved
loop-spoken-preserved c =
    let here = c.loop-spoken in
    let tokens = c.args.tokens in
    ap (λ (l : Line). behind l (tokens_text (drop (here.spoken-index + 1) tokens))) c.token-after.ensures
    ∙ next-token here.after tokens here.spoken-index _ (omega arith)
    ∙ here.invariant

pub returns : goal.returns
returns c = sym (no-token c.loop-spoken.after c.args.tokens c.loop-spoken.spoken-index (omega arith)) ∙ c.loop-spoken.invariant
