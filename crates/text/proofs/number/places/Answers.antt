-- `number::places` meets its contract: each test is of a power of ten. Assumes nothing.
use mathlib.Core.Path.{sym}
use lib.Dec.{lit≤}
use Rattle.text.proofs.Places.{one_place, so-many}
use Rattle.text.proofs.number.places.Goals as goal

pub returns-then-n-lt10 : goal.returns-then-n-lt10
returns-then-n-lt10 c = (sym (one_place _ _ c.if-n-lt10.true), lit≤ tt)

pub returns-then-n-lt100 : goal.returns-then-n-lt100
returns-then-n-lt100 c = (so-many 1 _ c.if-n-lt10.false c.if-n-lt100.true, lit≤ tt)

pub returns-then-n-lt1000 : goal.returns-then-n-lt1000
returns-then-n-lt1000 c = (so-many 2 _ c.if-n-lt100.false c.if-n-lt1000.true, lit≤ tt)

pub returns-then-n-lt10000 : goal.returns-then-n-lt10000
returns-then-n-lt10000 c = (so-many 3 _ c.if-n-lt1000.false c.if-n-lt10000.true, lit≤ tt)

pub returns-then-n-lt100000 : goal.returns-then-n-lt100000
returns-then-n-lt100000 c = (so-many 4 _ c.if-n-lt10000.false c.if-n-lt100000.true, lit≤ tt)

pub returns-then-n-lt1000000 : goal.returns-then-n-lt1000000
returns-then-n-lt1000000 c = (so-many 5 _ c.if-n-lt100000.false c.if-n-lt1000000.true, lit≤ tt)
