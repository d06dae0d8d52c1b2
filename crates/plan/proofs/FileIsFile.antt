-- A Rattle `File` is a file in the sense of the plan.
-- Assumes nothing.
use mathlib.Core.List.{List, [], ◌∷◌}
use mathlib.Core.Bool.{◌&&◌}
use lib.Dec.{T, ltb, lt→ltb}
use mir.Val.{Val}
use denote.Array.{each}
use denote.Laws.{Is}
use denote.Shadow.{shadow}
use denote.Struct.Declared.{row}
use Rattle.file.specs.declared.registers.File.{File}
use Rattle.file.specs.declared.palette.Colour.{Colour}
use Rattle.file.specs.contracts.registers.File.{the_type}
use Rattle.file.specs.contracts.palette.Colour as C
use Rattle.bits.proofs.Test.{both}
use Rattle.file.proofs.Typed.{palette-count, bank-count, address-byte}
use Rattle.roads.specs.Restores.{bytes, IsFile}

-- a colour is three bytes
colour-bytes : (c : Colour) (vs : List Val) → shadow (C.the_row.own_val c vs)
    → T (ltb c.red 256 && ltb c.green 256 && ltb c.blue 256)
colour-bytes c vs g =
    both (ltb c.red 256 && ltb c.green 256) (ltb c.blue 256)
    (both (ltb c.red 256) (ltb c.green 256) (lt→ltb c.red 256 g.1.1.0.1) (lt→ltb c.green 256 g.1.1.1.0.1))
    (lt→ltb c.blue 256 g.1.1.1.1.0.1)

each-bytes : (cs : List Colour) (us : List Val)
    → shadow (each C.the_row.Denot C.the_row.own_val cs us) → T (bytes cs)
unfolding bytes
each-bytes [] us g = tt
each-bytes (c ∷ cs) [] g = absurd g
each-bytes (c ∷ cs) (u ∷ us) g =
    both (ltb c.red 256 && ltb c.green 256 && ltb c.blue 256) (bytes cs) (colour-bytes c (u ∷ []) g.0) (each-bytes cs us g.1)

-- `Is` is what a proof has of a parameter, as `c.well_formed.0`
pub is-file : (f : File) (vs : List Val) → Is (row the_type) f vs → IsFile f
is-file f vs g =
    record {
      palette = palette-count f vs g;
      bank = bank-count f vs g;
      palette_bytes = each-bytes f.palette _ g.1.1.1.0.1.1;
      bank_bytes = each-bytes f.bank _ g.1.1.1.1.0.1.1;
      address = address-byte f vs g;
    }
