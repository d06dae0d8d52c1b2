use Rattle.std.proofs.Common.{◌≡◌, ◌&&◌, length, refl, sym, ap, ◌∙◌, rules, arith}
use mathlib.Core.Bool.{Bool}
use mathlib.Core.Logic.{inl, inr}
use borrow.Author.Tests.{eq-eqb, ne_eqb}
use lib.Dec.{eqb}
use Rattle.bits.proofs.Test.{and-true}
use Rattle.file.specs.File.{seen}
use Rattle.file.specs.Registers.{register_count, stored_table}
use Rattle.file.specs.Sound.{sound, all_within}
use Rattle.file.proofs.Names.{stored-counted}
use Rattle.file.proofs.Soundness.{stray-more, stray-over}
use Rattle.file.proofs.sound.are_sound.Goals as goal
use Rattle.file.proofs.sound.are_sound.Goals.{In-None}

pub loop-stored-init : goal.loop-stored-init
loop-stored-init c =
    let a : c.into_iter-stored-iterator.result.a.rest.now ≡ c.stored-table.result = search rules in
    let b : c.into_iter-stored-iterator.result.b.rest.now ≡ c.args.registers = search rules in
    let registers : length c.args.registers ≡ register_count = search rules in
    rw (a, b, c.stored-table.ensures) (refl, omega (arith, stored-counted c.args.state.chip, registers))

pub loop-stored-preserved : goal.loop-stored-preserved
loop-stored-preserved c =
    let h = c.in-Some.ensures.steps in (
      stray-more c.in-Some.stored.now c.in-Some.value.now c.loop-stored.stray c.stray-stray.result _ _ c.stray-stray.ensures
          ∙ rw (h.0, h.1) at c.loop-stored.invariant.0,
      omega (arith, rw (h.0, h.1) at c.loop-stored.invariant.1),
    )

-- behind the loop the stray bits alone decide
told : (c : In-None) → all_within (stored_table c.args.state.chip) c.args.registers ≡ eqb c.loop-stored.stray 0
told c =
    let over = stray-over _ _ c.loop-stored.invariant.1 (elim c.in-None.ensures.steps [ inl t ↦ inl t.1.0 | inr t ↦ inr t.1.0 ]) in
    sym c.loop-stored.invariant.0 ∙ ap (λ (b : Bool). eqb c.loop-stored.stray 0 && b) over ∙ and-true (eqb c.loop-stored.stray 0)

pub returns-then-stray-eq0 : goal.returns-then-stray-eq0
unfolding sound seen
returns-then-stray-eq0 c = rw (told c.before.before, eq-eqb c.loop-stored.stray 0 c.if-stray-eq0.true) c.state_sound.ensures

pub returns-else-stray-eq0 : goal.returns-else-stray-eq0
unfolding sound seen
returns-else-stray-eq0 c = rw (told c.before, ne_eqb c.loop-stored.stray 0 c.if-stray-eq0.false)
