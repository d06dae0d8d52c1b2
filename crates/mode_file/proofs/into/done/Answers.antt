-- `mode_file::into::done` meets its contract. Assumes nothing.
use Rattle.modes.specs.Form.{header}
use Rattle.mode_file.specs.Into.{flagged_line, said_of}
use Rattle.mode_file.proofs.into.done.Goals as goal

pub returns : goal.returns
unfolding flagged_line said_of header
returns c = cc (c.apply.ensures, c.flag_store-store.ensures)
