-- `apply` meets its contract. Assumes nothing.
use mathlib.Core.Path.{sym, ap, ap₂, ◌∙◌}
use Rattle.file.specs.declared.effect.Effect.{Effect}
use Rattle.file.specs.Effects.{apply}
use Rattle.file.specs.File.{with_state}
use Rattle.file.proofs.effect.Effect.apply.Goals as goal

pub returns-in-Nothing : goal.returns-in-Nothing
unfolding apply
returns-in-Nothing c = sym (ap (λ (e : Effect). apply e c.args.file) c.in-Nothing.is)

pub returns-in-Store : goal.returns-in-Store
unfolding apply
returns-in-Store c = c.stated.ensures ∙ ap₂ with_state c.flipped.ensures c.stored.ensures ∙ sym (ap (λ (e : Effect). apply e c.args.file) c.in-Store.is)

pub returns-in-Toggle : goal.returns-in-Toggle
unfolding apply
returns-in-Toggle c = c.stated-in-Toggle.ensures ∙ ap (λ s. with_state s c.args.file) c.toggling.ensures ∙ sym (ap (λ (e : Effect). apply e c.args.file) c.in-Toggle.is)

pub returns-in-Move : goal.returns-in-Move
unfolding apply
returns-in-Move c = c.stated-in-Move.ensures ∙ ap (λ s. with_state s c.args.file) c.pointing.ensures ∙ sym (ap (λ (e : Effect). apply e c.args.file) c.in-Move.is)

pub returns-in-Step : goal.returns-in-Step
unfolding apply
returns-in-Step c = c.stated-in-Step.ensures ∙ ap (λ s. with_state s c.args.file) c.stepping.ensures ∙ sym (ap (λ (e : Effect). apply e c.args.file) c.in-Step.is)

pub returns-in-Paint : goal.returns-in-Paint
unfolding apply
returns-in-Paint c = c.stated-in-Paint.ensures ∙ ap₂ with_state c.stepping-in-Paint.ensures c.painted.ensures ∙ sym (ap (λ (e : Effect). apply e c.args.file) c.in-Paint.is)

pub returns-in-Pass : goal.returns-in-Pass
unfolding apply
returns-in-Pass c = c.stated-in-Pass.ensures ∙ ap (λ s. with_state s c.args.file) c.passing.ensures ∙ sym (ap (λ (e : Effect). apply e c.args.file) c.in-Pass.is)
