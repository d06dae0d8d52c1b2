-- `timing::write_timing` meets its contract, by what its tests and calls found. Assumes nothing.
use mathlib.Core.Path.{sym, ◌∙◌}
use Rattle.file.specs.File.{register, with_registers, crtc_locked}
use Rattle.timing.specs.Table.{wide}
use Rattle.timing.proofs.Cases.{write-unsound, write-locked, write-outside, write_done}
use Rattle.timing.proofs.write_timing.Goals as goal

pub returns-then-not-is_sound : goal.returns-then-not-is_sound
returns-then-not-is_sound c = write-unsound c.args.file c.args.timing (sym c.is_sound.ensures ∙ c.if-not-is_sound.true)

pub returns-then-is_set : goal.returns-then-is_set
unfolding crtc_locked register
returns-then-is_set c = write-locked c.args.file c.args.timing (sym c.is_sound.ensures ∙ c.if-not-is_sound.false) (sym c.is_set.ensures ∙ c.if-is_set.true)

pub returns-then-not-in_range : goal.returns-then-not-in_range
unfolding crtc_locked wide register
returns-then-not-in_range c =
    write-outside c.args.file c.args.timing c.is_wide-wide.result c.numbers-numbers.result (sym c.is_sound.ensures ∙ c.if-not-is_sound.false) (sym c.is_set.ensures ∙ c.if-is_set.false) c.is_wide-wide.ensures c.numbers-numbers.ensures
    (sym c.in_range.ensures ∙ c.if-not-in_range.true)

pub returns : goal.returns
unfolding crtc_locked wide register with_registers
returns c =
    write_done c.args.file c.args.timing c.is_wide-wide.result c.numbers-numbers.result c.write.new.registers (sym c.is_sound.ensures ∙ c.if-not-is_sound.false) (sym c.is_set.ensures ∙ c.if-is_set.false) c.is_wide-wide.ensures c.numbers-numbers.ensures
    (sym c.in_range.ensures ∙ c.if-not-in_range.false) c.write.ensures
