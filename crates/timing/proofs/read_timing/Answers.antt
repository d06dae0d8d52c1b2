-- `timing::read_timing` meets its contract, by what its tests and calls found. Assumes nothing.
use Prim.Native.Nat.{ℕ, ◌^◌, ◌<◌}
use mathlib.Core.Path.{sym, subst, ◌∙◌}
use mathlib.Core.List.{List}
use lib.ListN.{get_or}
use Rattle.file.specs.File.{register}
use Rattle.timing.specs.Table.{wide}
use Rattle.timing.proofs.Cases.{read-unsound, read_done}
use Rattle.timing.proofs.Computed.{numbers-below}
use Rattle.timing.proofs.read_timing.Goals as goal

pub returns-then-not-is_sound : goal.returns-then-not-is_sound
returns-then-not-is_sound c = read-unsound c.args.file c.none.result (sym c.is_sound.ensures ∙ c.if-not-is_sound.true) c.none.ensures

pub of-requires : goal.of-requires
of-requires c =
    λ k h. subst (λ (l : List ℕ). get_or l k 0 < 2 ^ 16) (sym c.read-numbers.ensures) (numbers-below c.is_wide.result c.args.file.registers k h)

pub returns : goal.returns
unfolding wide register
returns c =
    read_done c.args.file c.of.result c.is_wide.result c.read-numbers.result (sym c.is_sound.ensures ∙ c.if-not-is_sound.false) c.is_wide.ensures c.read-numbers.ensures c.of.ensures
