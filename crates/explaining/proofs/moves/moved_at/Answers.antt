-- `moves::moved_at` meets its contract. Assumes nothing.
use Prim.Native.Nat.{ℕ, ◌+◌, ◌-◌, ◌*◌}
use mathlib.Core.List.{List}
use mathlib.Core.Path.{ap, ◌∙◌}
use lib.ListN.{get_or}
use Rattle.file.specs.Names.{CR0}
use Rattle.explaining.specs.Moves.{number_count}
use Rattle.explaining.proofs.MovedBits.{moved-entry}
use Rattle.explaining.proofs.moves.moved_at.Goals as goal

pub returns : goal.returns
returns c =
    let number = c.args.register in
    let k = c.args.k in
    ap (λ (table : List ℕ). get_or table (number_count * (number - CR0) + k) 0) c.moved_bits-moved.ensures
    ∙ moved-entry number k c.requires.le_register c.requires.register_bound c.requires.k_lt_number_count
