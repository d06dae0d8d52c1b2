-- `line::add_escaped` meets its contract. Assumes nothing.
use mathlib.Core.Path.{◌∙◌, ap, refl}
use Rattle.options.proofs.Shown.{stood}
use Rattle.text.specs.Fixed.{behind}
use Rattle.options.proofs.line.add_escaped.Goals as goal

pub slice_bounds-text-end : goal.slice_bounds-text-end
slice_bounds-text-end c =
    let said = stood c.args.word.now c.min-size.result
    c.min-size.ensures _ _ refl c.escaped-placed.result c.escaped-placed.ensures in
    said.0.0

pub slice_bounds-with_text-end : goal.slice_bounds-with_text-end
slice_bounds-with_text-end c =
    let said = stood c.args.word.now c.min-size.result c.min-size.ensures _ _ refl c.escaped-placed.result
    c.escaped-placed.ensures in
    said.0.1

pub returns : goal.returns
returns c =
    let said = stood c.args.word.now c.min-size.result
    c.min-size.ensures _ _ refl c.escaped-placed.result c.escaped-placed.ensures in
    c.with_text.ensures ∙ ap (behind _) said.1
