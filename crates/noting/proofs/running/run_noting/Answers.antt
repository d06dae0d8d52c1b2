-- `run_noting` meets its contract. Assumes nothing.
use mathlib.Core.Path.{sym, ◌∙◌}
use Rattle.bits.proofs.Test.{passes}
use Rattle.noting.proofs.RunReaches.{unsound-run}
use Rattle.noting.proofs.running.run_noting.Goals as goal

pub run_sound_noting-requires : goal.run_sound_noting-requires
run_sound_noting-requires c = passes _ (sym c.is_sound.ensures ∙ c.if-is_sound.true)

pub returns : goal.returns
returns c = unsound-run _ _ _ _ (sym c.is_sound.ensures ∙ c.if-is_sound.false)
