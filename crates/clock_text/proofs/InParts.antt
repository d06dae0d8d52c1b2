-- An input in two parts, of which the first ends with a set: what is said of the whole is what is said of the parts. Assumes nothing.
use Prim.Native.Nat.{ℕ, ◌%◌}
use mathlib.Core.List.{List, [], ◌∷◌, ◌++◌, append_assoc}
use mathlib.Core.Path.{◌≡◌, refl, sym, ap, ◌∙◌}
use native.Mathlib.Omega.{arith}
use lib.ListN.{length}
use Rattle.clock_text.specs.declared.tally.Tally.{Tally}
use Rattle.clock_text.specs.Report.{clock_line, clock_lines}
use Rattle.clock_text.specs.Sets.{SetClock, counting, set_clock, set_clocks, tallied}

pub sets-in-parts : (a b : List ℕ) → length a % 3 ≡ 0 → set_clocks (a ++ b) ≡ set_clocks a ++ set_clocks b
unfolding set_clocks
sets-in-parts [] b whole = refl
sets-in-parts (d ∷ []) b whole = absurd (omega (arith, whole))
sets-in-parts (d ∷ n ∷ []) b whole = absurd (omega (arith, whole))
sets-in-parts (d ∷ n ∷ z ∷ a) b whole = ap (λ (cs : List SetClock). set_clock d n z ∷ cs) (sets-in-parts a b (omega (arith, whole)))

pub lines-in-parts : (cs ds : List SetClock) → clock_lines (cs ++ ds) ≡ clock_lines cs ++ clock_lines ds
unfolding clock_lines
lines-in-parts [] ds = refl
lines-in-parts (c ∷ cs) ds = ap (λ (l : List ℕ). clock_line c ++ l) (lines-in-parts cs ds) ∙ sym (append_assoc (clock_line c) (clock_lines cs) (clock_lines ds))

pub tally-in-parts : (t : Tally) (cs ds : List SetClock) → tallied t (cs ++ ds) ≡ tallied (tallied t cs) ds
unfolding tallied
tally-in-parts t [] ds = refl
tally-in-parts t (c ∷ cs) ds = tally-in-parts (counting t c) cs ds
