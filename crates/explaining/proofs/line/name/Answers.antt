-- `line::name` meets its contract. Assumes nothing.
use mathlib.Core.List.{[]}
use mathlib.Core.Path.{sym, ap, ◌∙◌}
use Rattle.std.specs.Prelude.{unwrap_or}
use Rattle.std.proofs.lemmas.Option.{get_or_from_slice_get, unwrap_or-slice_get}
use Rattle.file.specs.Readers.{name_table}
use Rattle.text.specs.Fixed.{behind}
use Rattle.explaining.proofs.line.name.Goals as goal

pub returns-in-Some : goal.returns-in-Some
returns-in-Some c = c.with_text.ensures ∙ ap (behind c.args.line) (sym (get_or_from_slice_get name_table c.args.number c.in-Some.own.now [] (sym c.in-Some.ensures)))

pub returns-in-None : goal.returns-in-None
unfolding behind
returns-in-None c = ap (λ own. behind c.args.line (unwrap_or own [])) c.in-None.ensures ∙ ap (behind c.args.line) (unwrap_or-slice_get name_table c.args.number [])
