-- `set_out` stands right behind the saved file. Assumes nothing.
use Rattle.std.proofs.Common.{refl}
use Rattle.shell.proofs.following.set_out.Goals as goal

pub returns : goal.returns
returns c = (refl, c.nothing.ensures, c.nothing_read.ensures)
