-- `set_address` meets its contract. Assumes nothing.
use Prim.Native.Nat.{ℕ}
use mathlib.Core.List.{List}
use mathlib.Core.Path.{refl, ap}
use native.Mathlib.Omega.{arith}
use lib.ListN.{set}
use Rattle.file.specs.declared.answer.Answer.TheVariants.{Done}
use Rattle.file.specs.Answers.{code_of, value_of}
use Rattle.quick.proofs.Parts.{says}
use Rattle.quick.proofs.PixelsTurned.{small-byte, address-set}
use Rattle.quick.proofs.pixels.set_address.Goals as goal

pub returns : goal.returns
unfolding code_of value_of
returns c =
    λ registers s e bit.
    address-set registers s c.args.mode c.args.byte _ c.told.result (small-byte _ (omega (arith, c.ranges.byte))) bit (says (Done 0) c.told.ensures refl refl)
    (ap (λ (l : List ℕ). set (set (set (set (set l 0 c.args.byte) 1 c.args.mode) 2 0) 3 0) 4 0) e)
