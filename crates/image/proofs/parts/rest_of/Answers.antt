-- `rest_of` meets its contract. Assumes nothing.
use Prim.Native.Nat.{ℕ}
use mathlib.Core.Path.{refl, ap, ◌∙◌}
use mathlib.Core.List.{List}
use native.Mathlib.Omega.{arith}
use lib.ListN.{replicate}
use lib.Seq.{sets}
use Rattle.file.proofs.Typed.{palette-count, bank-count}
use Rattle.image.specs.Bytes.{colour_bytes}
use Rattle.image.proofs.Filling.{filled-by, colours-count}
use Rattle.image.specs.Parts.{state_bytes, rest_of}
use Rattle.image.proofs.parts.rest_of.Goals as goal

pub returns : goal.returns
unfolding rest_of state_bytes
returns c =
    let f = c.args.file in
    let was = c.well_formed.0 in
    c.put_colours-2.ensures
    ∙ ap (λ (l : List ℕ). sets l 778 (colour_bytes f.bank)) c.put_colours.ensures
    ∙ ap (λ (l : List ℕ). sets (sets l 10 (colour_bytes f.palette)) 778 (colour_bytes f.bank))
    (c.put_bytes.ensures ∙ ap (sets _ 0) c.state_bytes.ensures)
    ∙ filled-by (replicate 826 0) (state_bytes f.state) (colour_bytes f.palette) (colour_bytes f.bank) 10 778 refl
    (omega (arith, colours-count f.palette, palette-count f _ was)) (omega (arith, colours-count f.bank, bank-count f _ was))
