-- `File::stored_bits` meets its contract. Assumes nothing.
use Rattle.std.proofs.Common.{◌≡◌, ℕ, List, get_or, ap, ◌∙◌, rules}
use Rattle.std.proofs.lemmas.Option.{unwrap_or-slice_get}
use Rattle.file.specs.Registers.{stored_bits}
use Rattle.file.proofs.registers.File.stored_bits.Goals as goal

pub returns : goal.returns
unfolding stored_bits
returns c =
    let found : c.unwrap_or.result ≡ get_or c.stored.result c.args.number 0 = search (rules, unwrap_or-slice_get) in
    found ∙ ap (λ (table : List ℕ). get_or table c.args.number 0) c.stored.ensures
