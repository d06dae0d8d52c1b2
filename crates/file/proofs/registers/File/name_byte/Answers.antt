-- `File::name_byte` meets its contract where no register has the number. Assumes nothing.
use Rattle.std.proofs.Common.{◌≡◌, sym, ap, ◌∙◌, ℕ, List, [], get_or, slice_get, Option, None, unwrap_or}
use Rattle.std.proofs.lemmas.Option.{unwrap_or-slice_get}
use Rattle.file.specs.Readers.{name_table}
use Rattle.file.proofs.registers.File.name_byte.Goals as goal

pub returns-in-None : goal.returns-in-None
returns-in-None c =
    let none : slice_get name_table c.args.number ≡ None = sym (rw c.in-None.is at c.name.ensures) in
    sym
    (ap (λ (l : List ℕ). get_or l c.args.place 0)
    (sym (unwrap_or-slice_get name_table c.args.number []) ∙ ap (λ (o : Option (List ℕ)). unwrap_or o []) none))
