-- `put_marks` meets its contract. Assumes nothing.
use Prim.Native.Nat.{ℕ}
use mathlib.Core.Path.{◌≡◌}
use mathlib.Core.Bool.{cond}
use mathlib.Core.List.{[], ◌∷◌}
use Rattle.file.specs.Palette.{marked_read, marked_colour}
use Rattle.file.proofs.Colours.{blue-left}
use Rattle.roads.specs.Plan.{mmio_read, pixel_step, marking}
use Rattle.plan.proofs.Appending.{append-then, append-none}
use Rattle.plan.proofs.stages.put_marks.Goals as goal

-- the records by the colour
at-red : (m : ℕ) → marked_colour m ≡ 0 → marking m ≡ pixel_step (marked_read m) ∷ []
unfolding marking
at-red m e = rw e

at-green : (m : ℕ) → marked_colour m ≡ 1 → marking m ≡ pixel_step (marked_read m) ∷ pixel_step (marked_read m) ∷ []
unfolding marking
at-green m e = rw e

at-blue : (m : ℕ) → (marked_colour m ≡ 0 → ⊥) → (marked_colour m ≡ 1 → ⊥)
    → marking m ≡ cond (marked_read m) (mmio_read 0xAC ∷ mmio_read 0xAC ∷ mmio_read 0xAC ∷ []) []
unfolding marking
at-blue m r g =
    blue-left (marked_colour m) (pixel_step (marked_read m) ∷ []) (pixel_step (marked_read m) ∷ pixel_step (marked_read m) ∷ [])
    (cond (marked_read m) (mmio_read 0xAC ∷ mmio_read 0xAC ∷ mmio_read 0xAC ∷ []) []) r g

pub returns-in-0-default : goal.returns-in-0-default
returns-in-0-default c = rw (at-red c.args.marks c.in-0-default.is-0) c.put_step.ensures

pub returns-in-1-default : goal.returns-in-1-default
returns-in-1-default c =
    rw (at-green c.args.marks c.in-1-default.is-0) (append-then c.put_step-at.ensures c.put_step-in-1-default.ensures)

pub returns-in_default-true : goal.returns-in_default-true
returns-in_default-true c =
    rw (at-blue c.args.marks c.in_default-true.is-0.0.1 c.in_default-true.is-0.1, c.in_default-true.is-1)
    (append-then (append-then c.mmio_read-at.ensures c.mmio_read-at-in_default-true.ensures) c.mmio_read.ensures)

pub returns-in_default-false : goal.returns-in_default-false
returns-in_default-false c =
    rw (at-blue c.args.marks c.in_default-false.is-0.0.1 c.in_default-false.is-0.1, c.in_default-false.is-1) (append-none _ _)
