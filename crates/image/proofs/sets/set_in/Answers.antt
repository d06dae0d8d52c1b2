-- `set_in` meets its contract. Assumes nothing.
use mathlib.Core.Path.{◌≡◌, sym, ◌∙◌}
use mathlib.Core.Bool.{Bool}
use mathlib.Core.List.{List}
use lib.ListN.{take, drop, length-drop}
use Rattle.touched.specs.declared.set.Touched.{Touched}
use Rattle.image.specs.Bytes.{flags_in}
use Rattle.image.proofs.Filling.{all-stored, flags-in-count}
use native.Mathlib.Omega.{arith}
use lib.Seq.{length-take-le}
use Rattle.image.specs.Parts.{set_in}
use Rattle.image.proofs.sets.set_in.Goals as goal

named : {registers registers' palette palette' bank bank' : List Bool} {pointer pointer' marks marks' toggle toggle' : Bool} → registers ≡ registers' → palette ≡ palette'
    → bank ≡ bank' → pointer ≡ pointer' → marks ≡ marks' → toggle ≡ toggle'
    → ◌≡◌ {A = Touched} (record { registers = registers; palette = palette; bank = bank; pointer = pointer; marks = marks; toggle = toggle })
    (record { registers = registers'; palette = palette'; bank = bank'; pointer = pointer'; marks = marks'; toggle = toggle' })
named r p b x m t = λ i. record { registers = r i; palette = p i; bank = b i; pointer = x i; marks = m i; toggle = t i }

pub slice_bounds-flags_in-end : goal.slice_bounds-flags_in-end
slice_bounds-flags_in-end c = sym (length-take-le 108 c.args.bytes (omega (arith, c.well_formed.0.1.0.1)))

pub flags_in-requires : goal.flags_in-requires
flags_in-requires c = length-take-le 108 c.args.bytes (omega (arith, c.well_formed.0.1.0.1))

pub returns : goal.returns
unfolding set_in
returns c =
    let bytes = c.args.bytes in
    let long = c.well_formed.0.1.0.1 in
    named
    (c.flags_in.ensures ∙ all-stored (flags_in (take 108 bytes)) _ (flags-in-count (take 108 bytes) ∙ length-take-le 108 bytes (omega (arith, long))))
    (c.flags_in-2.ensures ∙ all-stored (flags_in (take 256 (drop 108 bytes))) _ (flags-in-count (take 256 (drop 108 bytes)) ∙ length-take-le 256 (drop 108 bytes) (simp length-drop (omega (arith, long)))))
    (c.flags_in-3.ensures ∙ all-stored (flags_in (take 16 (drop 364 bytes))) _ (flags-in-count (take 16 (drop 364 bytes)) ∙ length-take-le 16 (drop 364 bytes) (simp length-drop (omega (arith, long)))))
    c.is_set.ensures c.is_set-2.ensures c.is_set-3.ensures
