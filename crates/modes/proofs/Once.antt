-- What is told of a line is told once: two answers that the contract of `parse` allows are equal. Assumes nothing.
use Prim.Native.Nat.{ℕ, suc, ◌≤◌, ◌<◌}
use mathlib.Core.List.{List, ◌++◌, append_assoc}
use mathlib.Core.Path.{◌≡◌, sym, ap, ◌∙◌, subst}
use native.Mathlib.Omega.{arith}
use borrow.Author.Tests.{ltb-true, ltb-false}
use lib.Dec.{ltb}
use lib.ListN.{take, drop, take-append-drop}
use lib.Seq.{take-take}
use Rattle.bits.proofs.Test.{by-test}
use Rattle.modes.specs.declared.mode.Mode.{Mode}
use Rattle.modes.specs.Form.{Good}
use Rattle.modes.specs.Place.{Begins, BadAt, Says}
use Rattle.modes.specs.Promises.{Told}
use Rattle.modes.specs.Scan.{Outcome, Ok, Err, read_line}
use Rattle.modes.proofs.Lines.{reads-good}
use Rattle.modes.proofs.Readers.{Form, RightAt}

module _ (L : Form) (line : List ℕ) where
  -- what begins a line, begins it with fewer bytes too
  fewer : (j k : ℕ) → j ≤ k → Begins L (take k line) → Begins L (take j line)
  fewer j k h b =
      record {
        rest = drop j (take k line) ++ b.rest;
        mode = b.mode;
        good =
            subst (λ (s : List ℕ). L s b.mode)
            (sym
            (ap (λ (s : List ℕ). s ++ (drop j (take k line) ++ b.rest)) (sym (take-take j k line h))
            ∙ sym (append_assoc (take j (take k line)) (drop j (take k line)) b.rest)
            ∙ ap (λ (s : List ℕ). s ++ b.rest) (take-append-drop j (take k line))))
            b.good;
      }

  not-before : (j k : ℕ) → BadAt L line j → BadAt L line k → j < k → ⊥
  not-before j k a b h = a.stopped (omega (arith, b.within)) (fewer (suc j) k h b.begun)

  -- a line has one bad place
  pub one_place : (j k : ℕ) → BadAt L line j → BadAt L line k → j ≡ k
  one_place j k a b =
      by-test (ltb j k) (λ e. absurd (not-before j k a b (ltb-true j k e)))
      (λ e. by-test (ltb k j) (λ d. absurd (not-before k j b a (ltb-true k j d))) (λ d. omega (arith, ltb-false j k e, ltb-false k j d)))

pub told-once : (line : List ℕ) (r s : Outcome) → Told line r → Told line s → r ≡ s
told-once line (Ok m) (Ok n) a b = ap Ok (b.alone m a.good)
told-once line (Ok m) (Err k) a b = absurd (b.refused m a.good)
told-once line (Err j) (Ok n) a b = absurd (a.refused n b.good)
told-once line (Err j) (Err k) a b = ap Err (one_place Good line j k a b)

-- what a good line says is all that it says
says_all : (line : List ℕ) (m : Mode) → Good line m → Says Good line m
says_all line m g = by_result (read_line line) (reads-good line)
  where
    by_result : (r : Outcome) → RightAt r Good line → Says Good line m
    by_result (Ok k) h = record { good = g; alone = λ o x. h.alone o x ∙ sym (h.alone m g) }
    by_result (Err k) h = absurd (h.refused m g)

-- so this is told of it, and nothing else
pub told-good : (line : List ℕ) (m : Mode) (r : Outcome) → Good line m → Told line r → r ≡ Ok m
told-good line m r g t = told-once line r (Ok m) t (says_all line m g)
