-- `said_of` meets its contract. Assumes nothing.
use mathlib.Core.Bool.{true≢false}
use mathlib.Core.Path.{sym, ◌∙◌}
use Rattle.trace.proofs.running.said_of.Goals as goal

pub returns-then-served : goal.returns-then-served
returns-then-served c =
    record {
      paint = λ p. c.painted.ensures;
      pixel = λ p q. absurd (true≢false (sym c.if-served.true ∙ p));
      plain = λ p q. absurd (true≢false (sym c.if-served.true ∙ p));
    }

pub returns-then-served-2 : goal.returns-then-served-2
returns-then-served-2 c =
    record {
      paint = λ p. absurd (true≢false (sym p ∙ c.if-served.false));
      pixel = λ p q. c.shown.ensures;
      plain = λ p q. absurd (true≢false (sym c.if-served-2.true ∙ q));
    }

pub returns : goal.returns
returns c =
    record {
      paint = λ p. absurd (true≢false (sym p ∙ c.if-served.false));
      pixel = λ p q. absurd (true≢false (sym q ∙ c.if-served-2.false));
      plain = λ p q. c.told.ensures;
    }
