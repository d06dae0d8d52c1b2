use mathlib.Core.Path.{ap}
use native.Mathlib.Omega.{arith}
use lib.ListN.{drop_of_length-le}
use Rattle.image.specs.Bytes.{word_bytes}
use Rattle.image.proofs.Filling.{moved, two, done, words_left}
use Rattle.image.proofs.bytes.put_words.Goals as goal

pub loop-i-preserved : goal.loop-i-preserved
loop-i-preserved c = moved (omega arith) (two _ _ _ c.loop-i.invariant (words_left c.args.words.now c.loop-i.i c.loop-i-test.true))

pub returns : goal.returns
unfolding word_bytes
returns c = done c.loop-i.invariant (ap word_bytes (drop_of_length-le c.args.words.now {i = c.loop-i.i} c.loop-i-test.false))
