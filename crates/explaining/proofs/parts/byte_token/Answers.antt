-- `parts::byte_token` meets its contract. Assumes nothing.
use Rattle.explaining.specs.Explained.{byte_token}
use Rattle.explaining.proofs.parts.byte_token.Goals as goal

pub returns : goal.returns
unfolding byte_token
returns c = rw c.hex.ensures
