-- `File::register_named` meets its contract. Assumes nothing.
use mathlib.Core.Path.{sym, ap, ◌∙◌}
use Rattle.std.proofs.lemmas.Result.{err_from_is_err_and}
use Rattle.file.specs.Readers.{read_named, read_register}
use Rattle.file.proofs.Looked.{looked, refused-look, named-found, named-absent}
use Rattle.file.proofs.Typed.{registers-count}
use Rattle.file.proofs.registers.File.register_named.Goals as goal

pub returns-in_err-looked_into : goal.returns-in_err-looked_into
unfolding read_named read_register
returns-in_err-looked_into c =
    let p = err_from_is_err_and c.from_residual.result c.from_residual.ensures.1 in
    rw (p.1, p.2) (refused-look _ _ _ (sym c.in_err-looked_into.was ∙ c.looked_into.ensures))

pub returns-in_err-number : goal.returns-in_err-number
returns-in_err-number c =
    let p = err_from_is_err_and c.from_residual-in_err-number.result c.from_residual-in_err-number.ensures.1 in
    rw (p.1, p.2) (named-absent _ _ _ (registers-count _ _ c.well_formed.0) (sym c.in_err-number.was ∙ c.number_named.ensures) (sym c.in_ok-looked_into.was ∙ c.looked_into.ensures))

pub returns : goal.returns
unfolding read_named read_register
returns c =
    c.told.ensures
    ∙ looked _ _ (sym c.in_ok-looked_into.was ∙ c.looked_into.ensures)
    ∙ ap (read_register c.args.self) (named-found _ _ (sym c.in_ok-number.was ∙ c.number_named.ensures))
