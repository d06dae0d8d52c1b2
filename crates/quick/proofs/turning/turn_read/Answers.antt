-- `turn_read` meets its contract. Assumes nothing.
use mathlib.Core.Path.{sym, ap, ◌∙◌}
use Rattle.file.specs.File.{seen}
use Rattle.places.specs.declared.place.Place.{Place}
use Rattle.places.specs.EngineCells.{plain_place}
use Rattle.places.specs.Profile.{profile}
use Rattle.places.proofs.BehindPorts.{place-behind}
use Rattle.access.specs.Engine.{decided_read}
use Rattle.quick.proofs.Parts.{turned_by}
use Rattle.quick.proofs.turning.turn_read.Goals as goal

pub returns : goal.returns
unfolding seen
returns c =
    λ low s e same-chip same_line.
    let f = seen c.args.registers.now s in
    turned_by
    (ap (λ (p : Place). decided_read f (profile p).reading) (ap plain_place c.behind-behind.ensures ∙ sym (place-behind c.args.cells.now f c.args.cell low))) (c.read_place.ensures s e same-chip same_line)
