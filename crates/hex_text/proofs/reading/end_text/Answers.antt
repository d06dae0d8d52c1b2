-- `end_text` meets its contract. Assumes nothing.
use native.Mathlib.Omega.{arith}
use mathlib.Core.Path.{refl}
use Rattle.hex_text.specs.Promises.{TextEnded}
use Rattle.hex_text.proofs.Kept.{text-ended}
use Rattle.hex_text.proofs.reading.end_text.Goals as goal

pub returns-then-at-buffer : goal.returns-then-at-buffer
unfolding TextEnded
returns-then-at-buffer c = (c.if-at-buffer.true, refl)

pub put-end-requires : goal.put-end-requires
put-end-requires c = omega arith

pub returns : goal.returns
returns c =
    text-ended c.args.before _ _ _ _ _ _ c.if-at-buffer.false c.end_given.ensures c.put-end.ensures c.ended.ensures
