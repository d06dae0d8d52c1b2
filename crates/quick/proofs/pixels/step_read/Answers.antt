-- `step_read` meets its contract. Assumes nothing.
use Prim.Native.Nat.{ℕ}
use mathlib.Core.List.{List}
use mathlib.Core.Path.{sym, ap, ◌∙◌}
use lib.ListN.{get_or, set}
use Rattle.file.specs.State.{stepping}
use Rattle.quick.specs.Smalls.{smalls_of}
use Rattle.quick.proofs.PixelsTurned.{read-red, read-green, read-blue}
use Rattle.quick.proofs.pixels.step_read.Goals as goal

pub returns-in-0 : goal.returns-in-0
unfolding smalls_of
returns-in-0 c = λ s e. ap (λ (l : List ℕ). set (set l 5 4) 2 1) e ∙ read-red s (sym (ap (λ (l : List ℕ). get_or l 2 0) e) ∙ c.in-0.is)

pub returns-in-1 : goal.returns-in-1
unfolding smalls_of
returns-in-1 c = λ s e. ap (λ (l : List ℕ). set (set l 5 5) 2 2) e ∙ read-green s (sym (ap (λ (l : List ℕ). get_or l 2 0) e) ∙ c.in-1.is)

pub returns-in_default : goal.returns-in_default
unfolding smalls_of stepping
returns-in_default c =
    λ s e.
    c.rise.ensures (stepping s.pointer 6 s) (ap (λ (l : List ℕ). set l 5 6) e)
    ∙ read-blue s (λ z. c.in_default.in_default-own.rest.0.1 (ap (λ (l : List ℕ). get_or l 2 0) e ∙ z)) (λ z. c.in_default.in_default-own.rest.1 (ap (λ (l : List ℕ). get_or l 2 0) e ∙ z))
