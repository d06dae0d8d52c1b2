-- `write_at` meets its contract. Assumes nothing.
use Prim.Native.Nat.{ℕ}
use mathlib.Core.Path.{ap}
use mathlib.Core.List.{List}
use Rattle.file.specs.File.{seen}
use Rattle.places.specs.EngineCells.{plain_place}
use Rattle.places.specs.Profile.{profile}
use Rattle.access.specs.Engine.{decided_write}
use Rattle.quick.proofs.Parts.{turned_by}
use Rattle.host.proofs.serving.write_at.Goals as goal

pub returns : goal.returns
unfolding seen
returns c =
    λ s e.
    let f = seen c.args.registers.now s in
    turned_by (ap (λ (l : List ℕ). decided_write l f (profile (plain_place c.args.cell)).writing c.args.value) c.stored-stored.ensures) (c.write_place.ensures.0 s e)
