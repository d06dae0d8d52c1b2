-- The program of 02, 13/13: how the code goes through a list of numbers, byte by byte; no part of what a list is.
-- Assumes nothing.
use Rattle.std.specs.Prelude.{ℕ, ◌+◌, ◌-◌, ◌*◌, ◌%◌, min, cond, List, [], ◌∷◌, Option, Some, None, eqb, ltb, get_or, replicate, set}
use Rattle.std.specs.Option.{option_and_then, unwrap_or}
use Rattle.modes.specs.Form.{digit}
use Rattle.portable.specs.declared.Timing.{Timing}
use Rattle.portable.specs.Timing.{timing_by}
use Rattle.portable_text.specs.declared.listing.Scan.{Scan}

unfoldable pub begun : Scan
begun = record { count = 0; value = None; numbers = replicate 14 0 }

unfoldable pub with_digit : Scan → ℕ → Scan
with_digit s b =
    record { count = s.count; value = Some (min (10 * unwrap_or s.value 0 + (b - 0x30)) 65535); numbers = s.numbers }

-- a space ends a number that has a digit, but not the fourteenth
unfoldable pub spaced_behind : Scan → ℕ → Option Scan
spaced_behind s value =
    cond (ltb s.count 13) (Some (record { count = s.count + 1; value = None; numbers = set s.numbers s.count value })) None

unfoldable pub with_space : Scan → Option Scan
with_space s = option_and_then (spaced_behind s) s.value

-- none where no list begins so
unfoldable pub stepped : Scan → ℕ → Option Scan
stepped s b = cond (eqb b 0x20) (with_space s) (cond (digit b) (Some (with_digit s b)) None)

unfoldable pub scanned : Scan → List ℕ → Option Scan
scanned s [] = Some s
scanned s (b ∷ text) = option_and_then (λ (x : Scan). scanned x text) (stepped s b)

-- the end of the text ends the fourteenth number; each has 16 bits
unfoldable pub ended_behind : Scan → ℕ → Option Timing
ended_behind s value =
    cond (eqb s.count 13) (Some (timing_by (λ (k : ℕ). get_or (set s.numbers 13 value) k 0 % 65536))) None

unfoldable pub ended : Scan → Option Timing
ended s = option_and_then (ended_behind s) s.value
