-- `mode_text::put::digit` meets its contract. Assumes nothing.
use mathlib.Core.Path.{sym}
use Rattle.mode_text.proofs.Decimals.{last-digit}
use Rattle.mode_text.proofs.put.digit.Goals as goal

pub returns : goal.returns
returns c = sym (last-digit c.args.n)
