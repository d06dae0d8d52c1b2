-- What an access does to the file, applied in one place; and what it may change.
-- Assumes nothing.
use Rattle.std.specs.Prelude.{ℕ, Bool, true, false, cond, not, set}
use Rattle.bits.specs.Store.{store}
use Rattle.file.specs.declared.effect.Effect.{Effect}
use Rattle.file.specs.declared.effect.Effect.TheVariants.{Nothing, Store, Toggle, Move, Step, Paint, Pass}
use Rattle.file.specs.declared.effect.Reach.{Reach}
use Rattle.file.specs.declared.palette.Colour.{Colour}
use Rattle.file.specs.declared.registers.File.{File}
use Rattle.file.specs.File.{register, with_registers, with_palette, with_bank, with_state, with_pointer, with_toggle, with_line}
use Rattle.file.specs.State.{flipped, pointing, stepping, passing}

-- 01, 'Stored bits': one register stored, by the one store rule
unfoldable pub store_in : ℕ → ℕ → ℕ → File → File
unfolding with_registers
store_in number reach value f = with_registers (set f.registers number (store reach (register f number) value)) f

-- 01, 'The palette pointer': one entry stored, in the bank or the palette
unfoldable pub paint_in : Bool → ℕ → Colour → File → File
unfolding with_palette with_bank
paint_in bank entry colour f =
    cond bank (with_bank (set f.bank entry colour) f) (with_palette (set f.palette entry colour) f)

unfoldable pub apply : Effect → File → File
unfolding store_in paint_in with_state with_pointer with_toggle with_line flipped pointing stepping passing
apply Nothing f = f
apply (Store flips number reach value) f = with_state (flipped flips f.state) (store_in number reach value f)
apply (Toggle toggle) f = with_toggle toggle f
apply (Move pointer) f = with_pointer pointer f
apply (Step pointer marks) f = with_state (stepping pointer marks f.state) f
apply (Paint bank entry pointer colour marks) f = with_state (stepping pointer marks f.state) (paint_in bank entry colour f)
apply (Pass line) f = with_line line f

-- what an effect may change; by 02, 10/13 lines that pass change the line and nothing else
unfoldable pub reach_of : Effect → Reach
reach_of Nothing = record { register = 0; bits = 0; toggle = false; pointer = false; marks = false; line = false; palette = false; bank = false; entry = 0 }
reach_of (Store flips number reach value) =
    record { register = number; bits = reach; toggle = flips; pointer = false; marks = false; line = false; palette = false; bank = false; entry = 0 }
reach_of (Toggle toggle) =
    record { register = 0; bits = 0; toggle = true; pointer = false; marks = false; line = false; palette = false; bank = false; entry = 0 }
reach_of (Move pointer) =
    record { register = 0; bits = 0; toggle = false; pointer = true; marks = false; line = false; palette = false; bank = false; entry = 0 }
reach_of (Step pointer marks) =
    record { register = 0; bits = 0; toggle = false; pointer = true; marks = true; line = false; palette = false; bank = false; entry = 0 }
reach_of (Paint bank entry pointer colour marks) =
    record { register = 0; bits = 0; toggle = false; pointer = true; marks = true; line = false; palette = not bank; bank = bank; entry = entry }
reach_of (Pass line) =
    record { register = 0; bits = 0; toggle = false; pointer = false; marks = false; line = true; palette = false; bank = false; entry = 0 }
