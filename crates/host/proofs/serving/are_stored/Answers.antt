use Rattle.std.proofs.Common.{◌≡◌, ◌&&◌, refl, sym, ap, ◌∙◌, rules, arith}
use mathlib.Core.Bool.{Bool}
use mathlib.Core.Logic.{inl, inr}
use lib.Dec.{eqb}
use Rattle.bits.proofs.Test.{and-true}
use Rattle.file.proofs.Names.{stored-counted}
use Rattle.file.proofs.Soundness.{stray-more, stray-over}
use Rattle.host.proofs.serving.are_stored.Goals as goal

pub loop-stored-init : goal.loop-stored-init
loop-stored-init c =
    let a : c.into_iter-stored-iterator.result.a.rest.now ≡ c.stored-table.result = search rules in
    let b : c.into_iter-stored-iterator.result.b.rest.now ≡ c.args.registers.now = search rules in
    rw (a, b, c.stored-table.ensures) (refl, omega (arith, stored-counted c.args.chip, c.told-registers))

pub loop-stored-preserved : goal.loop-stored-preserved
loop-stored-preserved c =
    let h = c.in-Some.ensures.steps in (
      stray-more c.in-Some.stored.now c.in-Some.value.now c.loop-stored.stray c.stray-stray.result _ _ c.stray-stray.ensures
          ∙ rw (h.0, h.1) at c.loop-stored.invariant.0,
      omega (arith, rw (h.0, h.1) at c.loop-stored.invariant.1),
    )

pub returns : goal.returns
returns c =
    let over = stray-over _ _ c.loop-stored.invariant.1 (elim c.in-None.ensures.steps [ inl t ↦ inl t.1.0 | inr t ↦ inr t.1.0 ]) in
    sym (sym c.loop-stored.invariant.0 ∙ ap (λ (b : Bool). eqb c.loop-stored.stray 0 && b) over ∙ and-true (eqb c.loop-stored.stray 0))
