-- The entry that the pointer names, where it is known whether it is one of the bank's; a list's default plays no part. Assumes nothing.
use Prim.Native.Nat.{ℕ, ◌%◌, ◌<◌}
use mathlib.Core.Path.{◌≡◌, ap, ◌∙◌}
use mathlib.Core.Bool.{true, false}
use lib.ListN.{length, get_or}
use Rattle.bits.proofs.Lists.{any-default}
use Rattle.file.specs.declared.palette.Colour.{Colour}
use Rattle.file.specs.declared.registers.File.{File}
use Rattle.file.specs.File.{black, bank_count}
use Rattle.access.specs.Access.{in_bank, entry_number, entry}

pub entry-in-bank : (f : File) (n : ℕ) (d : Colour) → in_bank f ≡ true → n ≡ f.state.pointer.address % bank_count → n < length f.bank
    → get_or f.bank n d ≡ entry f
unfolding entry entry_number
entry-in-bank f n d b e h = rw b (any-default f.bank n d black h ∙ ap (λ (m : ℕ). get_or f.bank m black) e)

pub entry-in-palette : (f : File) (n : ℕ) (d : Colour) → in_bank f ≡ false → n ≡ f.state.pointer.address → n < length f.palette
    → get_or f.palette n d ≡ entry f
unfolding entry entry_number
entry-in-palette f n d b e h = rw b (any-default f.palette n d black h ∙ ap (λ (m : ℕ). get_or f.palette m black) e)
