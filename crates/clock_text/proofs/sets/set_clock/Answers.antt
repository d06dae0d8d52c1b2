-- `sets::set_clock` meets its contract: where it has no answer from its tests alone. Assumes nothing.
use native.Mathlib.Omega.{arith}
use Rattle.clock_text.proofs.SetsInTurn.{set-none, set-rate}
use Rattle.clock_text.proofs.sets.set_clock.Goals as goal

pub returns-then-terms-eq0 : goal.returns-then-terms-eq0
returns-then-terms-eq0 c =
    set-none c.args.set.now (omega arith) (omega arith) (omega arith) c.terms_of-terms.result _ _ c.terms_of-terms.ensures c.from.ensures c.from-2.ensures
    c.if-terms-eq0.true

pub returns : goal.returns
returns c =
    set-rate c.args.set.now (omega arith) (omega arith) (omega arith) c.terms_of-terms.result _ _ c.terms_of-terms.ensures c.from.ensures c.from-2.ensures
    c.if-terms-eq0.false
