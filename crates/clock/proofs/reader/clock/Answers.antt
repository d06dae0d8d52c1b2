-- `reader::clock` meets its contract. Assumes nothing.
use mathlib.Core.Path.{sym, ◌∙◌}
use Rattle.bits.specs.Store.{bits}
use Rattle.file.specs.File.{register}
use Rattle.clock.specs.Clock.{denominator_byte, numerator_byte, read_clock, selected}
use Rattle.clock.proofs.LowestTerms.{default-terms}
use Rattle.clock.proofs.reader.clock.Goals as goal

pub returns-then-not-is_sound : goal.returns-then-not-is_sound
unfolding read_clock
returns-then-not-is_sound c = rw (sym c.is_sound.ensures ∙ c.if-not-is_sound.true, default-terms c.default.result c.default.ensures)

pub returns : goal.returns
unfolding read_clock denominator_byte numerator_byte selected register bits
returns c =
    rw (sym c.is_sound.ensures ∙ c.if-not-is_sound.false, c.dot_clock.ensures, c.terms_of.ensures, c.from-selected.ensures)
