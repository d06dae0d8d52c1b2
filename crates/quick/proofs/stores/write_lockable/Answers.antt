-- `write_lockable` meets its contract. Assumes nothing.
use mathlib.Core.Path.{refl, sym, ◌∙◌}
use native.Mathlib.Omega.{arith}
use borrow.Author.Tests.{le-leb, eq-eqb}
use Rattle.file.specs.declared.answer.Answer.TheVariants.{Done, Locked}
use Rattle.file.specs.Answers.{code_of, value_of}
use Rattle.file.specs.Names.{CR0, CR6, CR7}
use Rattle.access.specs.Access.{locked_out, locked_reach}
use Rattle.access.specs.Engine.{reach_by}
use Rattle.quick.proofs.Parts.{says}
use Rattle.quick.proofs.RegistersStored.{above-lock}
use Rattle.file.specs.File.{seen}
use Rattle.file.specs.State.{unasked}
use Rattle.quick.proofs.stores.write_lockable.Goals as goal

pub returns-then-number-le-CR6 : goal.returns-then-number-le-CR6
unfolding locked_out code_of value_of
returns-then-number-le-CR6 c =
    let locked = sym c.is_locked.ensures ∙ c.if-is_locked.true in
    record { told = rw (locked, le-leb CR0 c.args.number c.requires.0, le-leb c.args.number CR6 c.if-number-le-CR6.true) (says Locked c.told.ensures refl refl); left = rw (locked, le-leb CR0 c.args.number c.requires.0, le-leb c.args.number CR6 c.if-number-le-CR6.true) refl }

pub returns-then-is_locked : goal.returns-then-is_locked
unfolding reach_by locked_reach code_of value_of
returns-then-is_locked c =
    let locked = sym c.is_locked.ensures ∙ c.if-is_locked.true in
    let free = above-lock (seen c.args.registers.now unasked) c.args.number c.if-number-le-CR6.false in
    record { told = rw free (says (Done 0) c.told-then-is_locked.ensures refl refl); left = rw (free, locked, eq-eqb c.args.number CR7 (omega (arith, c.requires.1, c.if-number-le-CR6.false))) c.store_in.ensures }

pub returns : goal.returns
unfolding locked_out reach_by code_of value_of
returns c =
    let open-lock = sym c.is_locked.ensures ∙ c.if-is_locked.false in
    record { told = rw open-lock (says (Done 0) c.told-2.ensures refl refl); left = rw open-lock c.store_in-2.ensures }
