-- `explain::toggle_line` meets its contract. Assumes nothing.
use Prim.Native.Nat.{ℕ}
use mathlib.Core.Bool.{Bool, true, false, beq, cond}
use mathlib.Core.Path.{◌≡◌, refl}
use lib.Dec.{eqb}
use Rattle.file.specs.Readers.{ascii}
use Rattle.explaining.specs.Explained.{toggle_line}
use Rattle.explaining.proofs.explain.toggle_line.Goals as goal

-- two marks, and two as numbers
as-numbers : (a b : Bool) → beq a b ≡ eqb (cond {A = ℕ} a 1 0) (cond {A = ℕ} b 1 0)
as-numbers true true = refl
as-numbers true false = refl
as-numbers false true = refl
as-numbers false false = refl

pub returns : goal.returns
unfolding toggle_line ascii
returns c =
    let state = c.args.case.before.state in
    let after = c.args.case.after.state in
    rw (c.part_line.ensures, c.toggle_words-2.ensures, c.toggle_words.ensures, c.phrase-label.ensures, c.say.ensures, as-numbers state.toggle after.toggle) refl
