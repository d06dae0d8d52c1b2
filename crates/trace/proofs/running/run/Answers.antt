-- `run` meets its contract. Assumes nothing.
use mathlib.Core.Path.{refl, sym, ◌∙◌}
use Rattle.bits.proofs.Test.{passes}
use Rattle.trace.specs.Run.{run, ran}
use Rattle.trace.proofs.running.run.Goals as goal

pub is_sound-requires : goal.is_sound-requires
is_sound-requires c = tt

pub run_sound-requires : goal.run_sound-requires
run_sound-requires c = passes _ (sym c.is_sound.ensures ∙ c.if-is_sound.true)

pub returns-then-is_sound : goal.returns-then-is_sound
unfolding run ran
returns-then-is_sound c = rw (sym c.is_sound.ensures ∙ c.if-is_sound.true) c.run_sound.ensures

pub returns : goal.returns
unfolding run
returns c = rw (sym c.is_sound.ensures ∙ c.if-is_sound.false) (record { answer_value = (refl, refl, refl); replies_after = refl })
