-- `sedgecoil_reach_parts` meets its contract. Assumes nothing.
use mathlib.Core.Path.{sym, ap, ap₂, ◌∙◌}
use native.Mathlib.Omega.{arith}
use Rattle.std.specs.Prelude.{Result}
use Rattle.std.specs.Result.{result_unwrap_or}
use Rattle.file.specs.declared.answer.Answer.{Answer}
use Rattle.file.specs.declared.effect.Effect.TheVariants.{Nothing}
use Rattle.file.specs.declared.effect.Reach.{Reach}
use Rattle.file.specs.Answers.{code_of}
use Rattle.file.specs.Effects.{reach_of}
use Rattle.access.specs.Access.{read_reach, answer_with}
use Rattle.access.proofs.HandsBack.{reach-unsound}
use Rattle.host.specs.Lists.{reach_numbers, reach_told}
use Rattle.host.proofs.Shown.{shown-unfit, shown-refused, shown-done}
use Rattle.host.proofs.sedgecoil_reach_parts.Goals as goal

pub returns-then-not-fits : goal.returns-then-not-fits
unfolding reach_told code_of
returns-then-not-fits c = rw c.code.ensures (shown-unfit _ _ _ _ (sym c.fits.ensures ∙ c.if-not-fits.true))

pub returns-in-Err : goal.returns-in-Err
unfolding reach_told answer_with code_of
returns-in-Err c =
    let told = sym (c.reach.ensures ∙ ap₂ read_reach c.held.ensures c.record_in.ensures) ∙ c.in-Err.is in
    let number = c.code-in-Err.ensures in
    let twelve = number ∙ ap code_of (reach-unsound _ _ _ told) in
    shown-refused _ _ _ _ (sym c.fits.ensures ∙ c.if-not-fits.false) _
    (number ∙ sym (ap (λ (x : Result Reach Answer). code_of (answer_with x)) told)) (omega (arith, twelve))

pub returns-in-Ok : goal.returns-in-Ok
unfolding reach_told answer_with code_of
returns-in-Ok c =
    let told = sym (c.reach.ensures ∙ ap₂ read_reach c.held.ensures c.record_in.ensures) ∙ c.in-Ok.is in
    shown-done _ _ _ _ (sym c.fits.ensures ∙ c.if-not-fits.false) 0
    (sym (ap (λ (x : Result Reach Answer). code_of (answer_with x)) told)) (omega arith) _
    (c.reach_numbers.ensures ∙ sym (ap (λ (x : Result Reach Answer). reach_numbers (result_unwrap_or x (reach_of Nothing))) told))
