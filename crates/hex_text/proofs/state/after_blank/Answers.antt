-- `after_blank` meets its contract. Assumes nothing.
use Prim.Native.Nat.{ℕ}
use mathlib.Core.Path.{sym, ap, ◌∙◌}
use Rattle.hex_text.specs.Machine.{standing, stepped_by}
use Rattle.hex_text.specs.declared.state.Stand.TheVariants.{Digit}
use Rattle.hex_text.proofs.Standing.{digit-some, digit-none}
use Rattle.hex_text.proofs.state.after_blank.Goals as goal

pub returns-in-Some : goal.returns-in-Some
unfolding stepped_by
returns-in-Some c =
    let d = digit-some c.args.byte c.in-Some.value (sym c.digit.ensures ∙ c.in-Some.is) in
    c.standing_at.ensures ∙ ap (λ (v : ℕ). standing c.args.before (Digit v)) d.value ∙ sym (rw d.there)

pub returns-in-None : goal.returns-in-None
unfolding stepped_by
returns-in-None c = c.separated.ensures ∙ sym (rw (digit-none c.args.byte (sym c.digit.ensures ∙ c.in-None.is)))
