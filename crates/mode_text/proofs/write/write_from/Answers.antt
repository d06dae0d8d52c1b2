-- `mode_text::write::write_from` meets its contract. Assumes nothing.
use mathlib.Core.Path.{sym, ap, ◌∙◌}
use native.Mathlib.Omega.{arith}
use lib.ListN.{length}
use Rattle.bits.proofs.Test.{passes}
use Rattle.file.specs.File.{register}
use Rattle.mode_text.specs.Out.{minus_in, of_form}
use Rattle.mode_text.proofs.Joined.{write-unsound, write-unfit, write-other, write_done, timing-read, parts-read, wrote_as}
use Rattle.mode_text.proofs.Fitting.{asked-name, asked-clock, asked_room}
use Rattle.mode_text.proofs.Short.{line-short}
use Rattle.mode_text.proofs.write.write_from.Goals as goal

pub returns-then-not-is_sound : goal.returns-then-not-is_sound
returns-then-not-is_sound c =
    let args = c.args in
    write-unsound args.file args.name.now args.khz args.buffer.now (sym c.is_sound.ensures ∙ c.if-not-is_sound.true)

pub returns-then-not-is_asked : goal.returns-then-not-is_asked
returns-then-not-is_asked c =
    let args = c.args in
    write-unfit args.file args.name.now args.khz args.buffer.now (sym c.is_sound.ensures ∙ c.if-not-is_sound.false) (sym c.is_asked.ensures ∙ c.if-not-is_asked.true)

pub returns-then-not-of_form : goal.returns-then-not-of_form
returns-then-not-of_form c =
    let args = c.args in
    let is-sound = sym c.is_sound.ensures ∙ c.if-not-is_sound.false in
    write-other args.file args.name.now args.khz args.buffer.now is-sound (sym c.is_asked.ensures ∙ c.if-not-is_asked.false)
    (ap of_form (sym (timing-read args.file c.read_timing.result is-sound c.read_timing.ensures)) ∙ sym c.of_form.ensures ∙ c.if-not-of_form.true)

pub put_line-requires : goal.put_line-requires
unfolding minus_in register
put_line-requires c =
    let args = c.args in
    let is-sound = sym c.is_sound.ensures ∙ c.if-not-is_sound.false in
    let asks = passes _ (sym c.is_asked.ensures ∙ c.if-not-is_asked.false) in
    let short = line-short args.file args.name.now args.khz (asked-name args.name.now args.khz _ asks) (asked-clock args.name.now args.khz _ asks) in
    let line =
    parts-read args.file args.name.now args.khz c.read_timing.result.timing c.numbers_out-numbers.result c.h_minus.result c.v_minus.result
    (timing-read args.file c.read_timing.result is-sound c.read_timing.ensures) c.numbers_out-numbers.ensures c.h_minus.ensures c.v_minus.ensures in
    omega (arith, ap length line, short, asked_room args.name.now args.khz _ asks)

pub returns : goal.returns
unfolding minus_in register
returns c =
    let args = c.args in
    let is-sound = sym c.is_sound.ensures ∙ c.if-not-is_sound.false in
    let asked = sym c.is_asked.ensures ∙ c.if-not-is_asked.false in
    let timed = timing-read args.file c.read_timing.result is-sound c.read_timing.ensures in
    write_done args.file args.name.now args.khz args.buffer.now _ c.put_line.result is-sound asked
    (ap of_form (sym timed) ∙ sym c.of_form.ensures ∙ c.if-not-of_form.false)
    (wrote_as
    (parts-read args.file args.name.now args.khz c.read_timing.result.timing c.numbers_out-numbers.result c.h_minus.result c.v_minus.result
    timed c.numbers_out-numbers.ensures c.h_minus.ensures c.v_minus.ensures)
    c.put_line.ensures)
    (omega (arith, line-short args.file args.name.now args.khz (asked-name args.name.now args.khz _ (passes _ asked)) (asked-clock args.name.now args.khz _ (passes _ asked)), asked_room args.name.now args.khz _ (passes _ asked)))
