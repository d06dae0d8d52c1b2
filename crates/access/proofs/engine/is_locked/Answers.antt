-- `is_locked` meets its contract. Assumes nothing.
use Rattle.file.specs.File.{seen, register, crtc_locked}
use Rattle.bits.specs.Store.{bit}
use borrow.Author.Rules.{rules}
use Rattle.access.proofs.engine.is_locked.Goals as goal

pub returns : goal.returns
unfolding crtc_locked bit seen register
returns c = search rules
