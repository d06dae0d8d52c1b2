-- `v_sync_end` meets its contract. Assumes nothing.
use Prim.Native.Nat.{ℕ, ◌%◌, ◌<◌}
use mathlib.Core.Path.{sym, ap, ◌∙◌, subst}
use Rattle.bits.specs.Numbers.{end_after}
use Rattle.file.specs.File.{register, seen}
use Rattle.file.specs.Names.{CR11}
use Rattle.file.specs.State.{unasked}
use Rattle.timing.specs.declared.Scanlines.{Scanlines}
use Rattle.timing.proofs.VerticalNumbers.{sync-start-below, sync-end-by}
use Rattle.timing.proofs.vertical.v_sync_end.Goals as goal

pub end_of_four-requires : goal.end_of_four-requires
end_of_four-requires c =
    subst (λ (s : Scanlines). s.0 < 2048) (sym c.v_sync_start-start.ensures) (sync-start-below (seen c.args.registers.now unasked))

pub returns : goal.returns
unfolding register seen
returns c =
    let f = seen c.args.registers.now unasked in
    ap (λ (n : ℕ). record { 0 = n })
    (c.end_of_four.ensures
    ∙ ap (λ (s : Scanlines). end_after s.0 4 (register f CR11 % 16)) c.v_sync_start-start.ensures
    ∙ sym (sync-end-by f))
