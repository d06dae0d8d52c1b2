-- What a run's engine goes by, and nobody beside 01 needs: what an effect paints: whether, where, and the colour.
-- Assumes nothing.
use Rattle.std.specs.Prelude.{Bool, true, false}
use Rattle.file.specs.declared.effect.Effect.{Effect}
use Rattle.file.specs.declared.effect.Effect.TheVariants.{Nothing, Store, Toggle, Move, Step, Paint, Pass}
use Rattle.file.specs.declared.palette.Colour.{Colour}

unfoldable pub paints : Effect → Bool
paints Nothing = false
paints (Store flips number reach value) = false
paints (Toggle toggle) = false
paints (Move pointer) = false
paints (Step pointer marks) = false
paints (Paint bank entry pointer colour marks) = true
paints (Pass line) = false

unfoldable pub paints_bank : Bool → Effect → Bool
paints_bank otherwise Nothing = otherwise
paints_bank otherwise (Store flips number reach value) = otherwise
paints_bank otherwise (Toggle toggle) = otherwise
paints_bank otherwise (Move pointer) = otherwise
paints_bank otherwise (Step pointer marks) = otherwise
paints_bank otherwise (Paint bank entry pointer colour marks) = bank
paints_bank otherwise (Pass line) = otherwise

unfoldable pub paints_colour : Colour → Effect → Colour
paints_colour otherwise Nothing = otherwise
paints_colour otherwise (Store flips number reach value) = otherwise
paints_colour otherwise (Toggle toggle) = otherwise
paints_colour otherwise (Move pointer) = otherwise
paints_colour otherwise (Step pointer marks) = otherwise
paints_colour otherwise (Paint bank entry pointer colour marks) = colour
paints_colour otherwise (Pass line) = otherwise
