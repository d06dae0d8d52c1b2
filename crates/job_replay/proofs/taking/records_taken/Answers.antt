-- `taking::records_taken` meets its contract. Assumes nothing.
use Prim.Native.Nat.{ℕ, min}
use mathlib.Core.Path.{refl, sym, ap, ap₂, ◌∙◌}
use Rattle.job_replay.specs.Job.{records_taken, step_most}
use Rattle.job_replay.proofs.taking.records_taken.Goals as goal

pub returns-then-not-is_sound : goal.returns-then-not-is_sound
unfolding records_taken
returns-then-not-is_sound c = rw (sym c.is_sound.ensures ∙ c.if-not-is_sound.true) refl

pub returns : goal.returns
unfolding records_taken
returns c =
    let records = c.min-records.ensures ∙ ap (λ (k : ℕ). min k step_most) c.units_in.ensures in
    let fit = c.min-fit.ensures ∙ ap₂ min c.room_for.ensures c.numbers_left.ensures in
    let so = sym c.is_sound.ensures ∙ c.if-not-is_sound.false in
    rw so (c.min.ensures ∙ ap₂ min records fit)
