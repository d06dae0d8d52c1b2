-- `sedgecoil_layout` meets its contract. Assumes nothing.
use mathlib.Core.Path.{refl, sym}
use mathlib.Core.List.{[], ◌∷◌}
use native.Mathlib.Omega.{arith}
use lib.ListN.{get_or-eq_default}
use Rattle.host.specs.Calls.{layout_of}
use Rattle.host.proofs.sedgecoil_layout.Goals as goal

pub returns-then-what-lt12 : goal.returns-then-what-lt12
unfolding layout_of
returns-then-what-lt12 c = refl

pub returns-else-what-lt12 : goal.returns-else-what-lt12
unfolding layout_of
returns-else-what-lt12 c = sym (get_or-eq_default (108 ∷ 826 ∷ 383 ∷ 1433 ∷ 1 ∷ 10 ∷ 778 ∷ 15 ∷ 6 ∷ 10 ∷ 4 ∷ 9 ∷ []) 0 {n = c.args.what} (omega (arith, c.if-what-lt12.false)))
