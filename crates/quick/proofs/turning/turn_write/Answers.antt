-- `turn_write` meets its contract. Assumes nothing.
use Prim.Native.Nat.{◌<◌}
use mathlib.Core.Path.{sym, ap, ◌∙◌}
use native.Mathlib.Omega.{arith}
use Rattle.file.specs.File.{seen}
use Rattle.places.specs.declared.place.Place.{Place}
use Rattle.places.specs.EngineCells.{plain_place, cell_place}
use Rattle.places.specs.Profile.{profile}
use Rattle.places.proofs.BehindPorts.{place-behind, place-due}
use Rattle.access.specs.Engine.{decided_write}
use Rattle.quick.proofs.Parts.{turned_by}
use Rattle.quick.proofs.turning.turn_write.Goals as goal

pub returns-then-cell-eq124 : goal.returns-then-cell-eq124
unfolding seen
returns-then-cell-eq124 c =
    λ free low.
    let done = c.write_attribute.ensures free in (
      λ s e.
          let f = seen c.args.registers.now s in
          turned_by
          (ap (λ (p : Place). decided_write c.args.stored.now f (profile p).writing c.args.value) (sym (ap (cell_place c.args.cells.now f) c.if-cell-eq124.true ∙ place-due c.args.cells.now f))) (done.0 s e),
      done.1 _,
    )

pub returns : goal.returns
unfolding seen
returns c =
    λ free low.
    let below : c.args.cell < 0x7C = omega (arith, low, c.if-cell-eq124.false) in (
      λ s e.
          let f = seen c.args.registers.now s in
          turned_by
          (ap (λ (p : Place). decided_write c.args.stored.now f (profile p).writing c.args.value) (ap plain_place c.behind-behind.ensures ∙ sym (place-behind c.args.cells.now f c.args.cell below))) (c.write_place.ensures.0 s e),
      c.write_place.ensures.1,
    )
