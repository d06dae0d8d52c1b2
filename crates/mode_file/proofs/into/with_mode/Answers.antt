-- `mode_file::into::with_mode` meets its contract. Assumes nothing.
use mathlib.Core.Path.{refl, sym, ap, ◌∙◌}
use Rattle.std.specs.Prelude.{Ok}
use Rattle.file.specs.Answers.{code_of}
use Rattle.file.specs.declared.answer.Answer.TheVariants.{Locked as LockedOut, OutOfRange as Outside}
use Rattle.mode_file.specs.declared.verdict.Verdict.TheVariants.{Locked, OutOfRange, NotSound}
use Rattle.mode_file.specs.Into.{by_code, read_mode}
use Rattle.mode_file.specs.Said.{eights}
use Rattle.mode_file.proofs.Lines.{mode-refused, mode-done, other_code}
use Rattle.mode_file.proofs.into.with_mode.Goals as goal

pub returns-then-not-eights : goal.returns-then-not-eights
unfolding read_mode eights
returns-then-not-eights c = sym (rw (sym c.eights.ensures ∙ c.if-not-eights.true))

pub returns-in-Done : goal.returns-in-Done
unfolding eights
returns-in-Done c = ap Ok c.done.ensures ∙ mode-done c.args.mode c.args.file c.timing_said.result c.write_timing-written.result (sym c.eights.ensures ∙ c.if-not-eights.false) c.timing_said.ensures c.write_timing-written.ensures c.in-Done.field-0 c.in-Done.is

pub returns-in-Locked : goal.returns-in-Locked
unfolding eights by_code code_of
returns-in-Locked c = mode-refused c.args.mode c.args.file c.timing_said.result c.write_timing-written.result (sym c.eights.ensures ∙ c.if-not-eights.false) c.timing_said.ensures c.write_timing-written.ensures LockedOut c.in-Locked.is Locked refl

pub returns-in-OutOfRange : goal.returns-in-OutOfRange
unfolding eights by_code code_of
returns-in-OutOfRange c = mode-refused c.args.mode c.args.file c.timing_said.result c.write_timing-written.result (sym c.eights.ensures ∙ c.if-not-eights.false) c.timing_said.ensures c.write_timing-written.ensures Outside c.in-OutOfRange.is OutOfRange refl

pub returns-in_default : goal.returns-in_default
unfolding eights
returns-in_default c =
    let w = c.write_timing-written.result in
    mode-refused c.args.mode c.args.file c.timing_said.result c.write_timing-written.result (sym c.eights.ensures ∙ c.if-not-eights.false) c.timing_said.ensures c.write_timing-written.ensures w.answer refl NotSound (other_code w.answer c.args.mode c.args.file c.in_default.not-Done c.in_default.not-Locked c.in_default.not-OutOfRange)
