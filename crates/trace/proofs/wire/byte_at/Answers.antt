-- `byte_at` meets its contract. Assumes nothing.
use mathlib.Core.Path.{sym}
use lib.ListN.{get_or-eq_default}
use Rattle.trace.proofs.wire.byte_at.Goals as goal

pub returns-else-at-bytes : goal.returns-else-at-bytes
returns-else-at-bytes c = sym (get_or-eq_default c.args.bytes.now 0 {n = c.args.at} c.if-at-bytes.false)
