-- `write_register` meets its contract. Assumes nothing.
use mathlib.Core.Path.{sym, ◌∙◌}
use Rattle.file.specs.Answers.{code_of, refused}
use Rattle.file.specs.Effects.{apply, store_in}
use Rattle.file.specs.File.{register, with_registers}
use Rattle.access.specs.Access.{write_answer, write_effect}
use Rattle.plain.specs.Told.{told, write_told}
use Rattle.plain.proofs.SeenWhole.{locked_seen}
use Rattle.plain.proofs.writing.write_register.Goals as goal

pub returns-then-is_locked_out : goal.returns-then-is_locked_out
unfolding write_told told write_answer write_effect refused code_of apply
returns-then-is_locked_out c = rw (sym (c.is_locked_out.ensures ∙ locked_seen c.args.whole c.args.number) ∙ c.if-is_locked_out.true) c.leaving.ensures

pub returns : goal.returns
unfolding write_told told write_answer write_effect refused code_of apply store_in register with_registers
returns c =
    rw (
      sym (c.is_locked_out.ensures ∙ locked_seen c.args.whole c.args.number) ∙ c.if-is_locked_out.false,
      c.with_state.ensures,
      c.flipped.ensures,
      c.store.ensures,
      c.reach-reach.ensures,
    )
