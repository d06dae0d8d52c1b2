use mathlib.Core.Path.{◌≡◌, refl, ◌∙◌}
use native.Mathlib.Omega.{arith}
use lib.ListN.{length-set}
use Rattle.text.proofs.Spelled.{digits-length, spell_one, spell-pair}
use Rattle.text.proofs.number.spell.Goals as goal

pub overflow_add-end : goal.overflow_add-end
overflow_add-end c = omega arith

pub loop-i-init : goal.loop-i-init
loop-i-init c = (refl, omega arith, refl)

pub overflow_cast-buffer : goal.overflow_cast-buffer
overflow_cast-buffer c = omega arith

pub overflow_add-buffer : goal.overflow_add-buffer
overflow_add-buffer c = omega arith

pub overflow_sub-buffer : goal.overflow_sub-buffer
overflow_sub-buffer c = omega arith

pub overflow_add-buffer-in-loop-i : goal.overflow_add-buffer-in-loop-i
overflow_add-buffer-in-loop-i c = omega arith

pub bounds-buffer-at : goal.bounds-buffer-at
bounds-buffer-at c = omega arith

pub overflow_cast-buffer-in-loop-i : goal.overflow_cast-buffer-in-loop-i
overflow_cast-buffer-in-loop-i c = omega arith

pub overflow_add-buffer-in-loop-i-2 : goal.overflow_add-buffer-in-loop-i-2
overflow_add-buffer-in-loop-i-2 c = omega arith

pub overflow_sub-buffer-in-loop-i : goal.overflow_sub-buffer-in-loop-i
overflow_sub-buffer-in-loop-i c = omega arith

pub overflow_add-buffer-in-loop-i-3 : goal.overflow_add-buffer-in-loop-i-3
overflow_add-buffer-in-loop-i-3 c = omega arith

pub bounds-buffer-at-in-loop-i : goal.bounds-buffer-at-in-loop-i
bounds-buffer-at-in-loop-i c = simp length-set (omega arith)

pub overflow_sub-i : goal.overflow_sub-i
overflow_sub-i c = omega arith

pub loop-i-smaller : goal.loop-i-smaller
loop-i-smaller c = omega arith

pub loop-i-preserved : goal.loop-i-preserved
loop-i-preserved c =
    let at = c.args.at in
    let here = c.loop-i in (
      spell-pair here.buffer at here.i here.rest (omega arith) ∙ here.invariant.0,
      omega arith,
      simp length-set here.invariant.2,
    )

pub overflow_cast-buffer-then-i-gt0 : goal.overflow_cast-buffer-then-i-gt0
overflow_cast-buffer-then-i-gt0 c = omega arith

pub overflow_add-buffer-then-i-gt0 : goal.overflow_add-buffer-then-i-gt0
overflow_add-buffer-then-i-gt0 c = omega arith

pub bounds-buffer-at-then-i-gt0 : goal.bounds-buffer-at-then-i-gt0
bounds-buffer-at-then-i-gt0 c = omega arith

pub shape_of-buffer-then-i-gt0 : goal.shape_of-buffer-then-i-gt0
shape_of-buffer-then-i-gt0 c = simp length-set c.loop-i.invariant.2

pub returns-then-i-gt0 : goal.returns-then-i-gt0
returns-then-i-gt0 c =
    let here = c.loop-i in
    let one : here.i ≡ 1 = omega arith in
    record { bytes = spell_one here.buffer c.args.at here.rest ∙ rw one at here.invariant.0; place = rw digits-length }

pub shape_of-buffer-else-i-gt0 : goal.shape_of-buffer-else-i-gt0
shape_of-buffer-else-i-gt0 c = c.loop-i.invariant.2

pub returns-else-i-gt0 : goal.returns-else-i-gt0
returns-else-i-gt0 c =
    let here = c.loop-i in
    let none : here.i ≡ 0 = omega arith in
    record { bytes = rw none at here.invariant.0; place = rw digits-length }
