-- `next` meets its contract: the first of the items that are left. Assumes nothing.
use mathlib.Core.Path.{refl}
use Rattle.reader.proofs.ItemsLeft.{yields_next, progress}
use Rattle.reader.proofs.reader.ReaderIterator.next.Goals as goal

pub returns-clause-steps : goal.returns-clause-steps
returns-clause-steps c = yields_next c.args.self.now c.next_at-next.result _ c.next_at-next.ensures refl c.after_at-self.ensures

pub returns-clause-goes : goal.returns-clause-goes
returns-clause-goes c =
    progress c.args.self.now c.next_at-next.result _
    (yields_next c.args.self.now c.next_at-next.result _ c.next_at-next.ensures refl c.after_at-self.ensures)
