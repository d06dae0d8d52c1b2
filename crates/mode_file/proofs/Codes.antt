-- The number of every verdict is on the fixed list of codes. Assumes nothing.
use mathlib.Core.Bool.{false, not}
use mathlib.Core.Path.{◌≡◌, refl}
use lib.Dec.{T, eqb}
use Rattle.file.specs.Answers.{among, listed}
use Rattle.mode_file.specs.declared.verdict.Verdict.{Verdict}
use Rattle.mode_file.specs.declared.verdict.Verdict.TheVariants.{Locked, OutOfRange, NotSound, BadText, NotMultiple, OtherTiming, OutOfForm}
use Rattle.std.specs.Prelude.{Result, Ok, Err, is_err}
use Rattle.mode_file.specs.Verdicts.{number_of, code_said}

pub verdict-listed : (v : Verdict) → T (among listed (number_of v))
unfolding among listed number_of
verdict-listed Locked = tt
verdict-listed OutOfRange = tt
verdict-listed NotSound = tt
verdict-listed (BadText place) = tt
verdict-listed NotMultiple = tt
verdict-listed OtherTiming = tt
verdict-listed OutOfForm = tt

-- and so is that of every answer
pub said-listed : {A : Type 0} (r : Result A Verdict) → T (among listed (code_said r))
unfolding among listed code_said
said-listed (Ok done) = tt
said-listed (Err v) = verdict-listed v

-- what isn't refused has code 0, and nothing else has
pub refusal-code : (v : Verdict) → eqb (number_of v) 0 ≡ false
unfolding number_of
refusal-code Locked = refl
refusal-code OutOfRange = refl
refusal-code NotSound = refl
refusal-code (BadText place) = refl
refusal-code NotMultiple = refl
refusal-code OtherTiming = refl
refusal-code OutOfForm = refl

pub code-ok : {A : Type 0} (r : Result A Verdict) → eqb (code_said r) 0 ≡ not (is_err r)
unfolding code_said
code-ok (Ok done) = refl
code-ok (Err v) = refusal-code v
