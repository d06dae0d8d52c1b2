-- `File::toggle_now` meets its contract. Assumes nothing.
use mathlib.Core.Path.{sym, ◌∙◌}
use Rattle.std.proofs.lemmas.Result.{err_from_is_err_and}
use Rattle.file.specs.Readers.{read_toggle}
use Rattle.file.proofs.Looked.{refused-look, looked}
use Rattle.file.proofs.registers.File.toggle_now.Goals as goal

pub returns-in_err-looked_into : goal.returns-in_err-looked_into
unfolding read_toggle
returns-in_err-looked_into c =
    let p = err_from_is_err_and c.from_residual.result c.from_residual.ensures.1 in
    rw (p.1, p.2) (refused-look _ _ _ (sym c.in_err-looked_into.was ∙ c.looked_into.ensures))

pub returns : goal.returns
unfolding read_toggle
returns c = looked _ _ (sym c.in_ok-looked_into.was ∙ c.looked_into.ensures)
