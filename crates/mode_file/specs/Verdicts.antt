-- 02, 4/13, 'Refusals', with 01's table of codes: the number of each answer.
-- Assumes nothing.
use Rattle.std.specs.Prelude.{ℕ, Result, Ok, Err}
use Rattle.mode_file.specs.declared.verdict.Verdict.{Verdict}
use Rattle.mode_file.specs.declared.verdict.Verdict.TheVariants.{Locked, OutOfRange, NotSound, BadText, NotMultiple, OtherTiming, OutOfForm}

unfoldable pub number_of : Verdict → ℕ
number_of Locked = 8
number_of OutOfRange = 10
number_of NotSound = 12
number_of (BadText place) = 18
number_of NotMultiple = 19
number_of OtherTiming = 21
number_of OutOfForm = 22

-- only 18 has a position (settled: it is 0 with every other code)
unfoldable pub position_of : Verdict → ℕ
position_of Locked = 0
position_of OutOfRange = 0
position_of NotSound = 0
position_of (BadText place) = place
position_of NotMultiple = 0
position_of OtherTiming = 0
position_of OutOfForm = 0

-- the code and the position of what is answered; what isn't refused has code 0
unfoldable pub code_said : {A : Type 0} → Result A Verdict → ℕ
code_said (Ok done) = 0
code_said (Err v) = number_of v

unfoldable pub position_said : {A : Type 0} → Result A Verdict → ℕ
position_said (Ok done) = 0
position_said (Err v) = position_of v
