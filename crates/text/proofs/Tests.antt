-- Two tests of orders that agree. Assumes nothing.
use Prim.Native.Nat.{ℕ, ◌≤◌, ◌<◌}
use mathlib.Core.Path.{◌≡◌, sym, ◌∙◌}
use borrow.Author.Tests.{le-leb, lt-leb, leb-true, leb-false}
use lib.Dec.{leb}
use Rattle.bits.proofs.Test.{by-test}

pub same_test : (a b c d : ℕ) → (c ≤ d → a ≤ b) → (d < c → b < a) → leb a b ≡ leb c d
same_test a b c d passes fails =
    by-test (leb c d) (λ e. le-leb a b (passes (leb-true c d e)) ∙ sym e) (λ e. lt-leb a b (fails (leb-false c d e)) ∙ sym e)
