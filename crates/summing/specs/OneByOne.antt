-- 'Explain --summary': what a summary says of one register and of one code, without a table, each by itself.
-- Assumes nothing.
use Rattle.std.specs.Prelude.{ℕ, ◌+◌, Bool, cond, not, ◌&&◌, List, [], ◌∷◌, eqb}
use Rattle.std.specs.Int.Bits.{bit_or}
use Rattle.file.specs.declared.registers.File.{File}
use Rattle.file.specs.Answers.{code_of}
use Rattle.access.specs.declared.record.Item.{Item}
use Rattle.access.specs.Access.{access_item}
use Rattle.explaining.specs.Explained.{reach_in}
use Rattle.summing.specs.Summed.{moved_bits}

-- a record has bits of a register in its reach
unfoldable pub reaches : File → Item → ℕ → Bool
reaches f i number = not (eqb (reach_in f i).bits 0) && eqb (reach_in f i).register number

-- how many of the records have
unfoldable pub writes_to : ℕ → File → List Item → ℕ
writes_to number f [] = 0
writes_to number f (i ∷ is) = cond (reaches f i number) 1 0 + writes_to number (access_item f i).file is

-- the bits that one of them has
unfoldable pub reach_to : ℕ → File → List Item → ℕ
reach_to number f [] = 0
reach_to number f (i ∷ is) = bit_or (cond (reaches f i number) (reach_in f i).bits 0) (reach_to number (access_item f i).file is)

-- the bits that read otherwise after one of them than before it, whatever its reach
unfoldable pub moved_in : ℕ → File → List Item → ℕ
moved_in number f [] = 0
moved_in number f (i ∷ is) = bit_or (moved_bits f (access_item f i).file number) (moved_in number (access_item f i).file is)

-- how often a code came
unfoldable pub times_of : ℕ → File → List Item → ℕ
times_of code f [] = 0
times_of code f (i ∷ is) = cond (eqb (code_of (access_item f i).answer) code) 1 0 + times_of code (access_item f i).file is
