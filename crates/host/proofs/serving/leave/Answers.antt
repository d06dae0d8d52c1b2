-- `leave` meets its contract. Assumes nothing.
use Prim.Native.Nat.{ℕ}
use mathlib.Core.Path.{ap, ◌∙◌}
use mathlib.Core.List.{List, [], ◌∷◌}
use borrow.Author.Tests.{not-true, not-false}
use lib.Seq.{sets}
use Rattle.image.specs.Bytes.{colour_bytes}
use Rattle.image.specs.Parts.{state_bytes}
use Rattle.host.specs.Left.{rest_left}
use Rattle.host.proofs.serving.leave.Goals as goal

pub returns-then-not-served : goal.returns-then-not-served
unfolding rest_left
returns-then-not-served c = rw (not-true c.args.served.paints c.if-not-served.true) c.put_state.ensures

pub returns : goal.returns
unfolding rest_left
returns c =
    let s = c.args.served in
    rw (not-false s.paints c.if-not-served.false)
    (c.put_state-2.ensures
    ∙ ap (λ (l : List ℕ). sets l 0 (state_bytes s.state))
    (c.paint.ensures ∙ ap (λ (k : ℕ). sets c.args.rest.now k (colour_bytes (s.colour ∷ []))) c.painted_place-at.ensures.0))
