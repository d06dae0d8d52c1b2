-- A command as a job: it is started, fed its input in parts that are cut anywhere, and ended. What one step promises, and the parts of an input.
-- Assumes nothing.
use Rattle.std.specs.Prelude.{ℕ, ◌+◌, ◌*◌, ◌-◌, ◌/◌, min, Bool, cond, List, [], ◌++◌, ◌≡◌, length, take, drop}

-- how many units of so many bytes a part has: the whole ones, and in the last part of an input a fragment too
unfoldable pub units_in : ℕ → Bool → List ℕ → ℕ
units_in unit last part = cond last ((length part + (unit - 1)) / unit) (length part / unit)

-- the largest number of 64 bits, which is the last one that a record has
abbrev pub number_most : ℕ
number_most = 0xFFFFFFFFFFFFFFFF

-- how many numbers are left behind one
abbrev pub numbers_left : ℕ → ℕ
numbers_left number = number_most - number

-- how many bytes of a part so many units are; a fragment has as many as there are
unfoldable pub bytes_of : ℕ → ℕ → List ℕ → ℕ
bytes_of unit units part = min (unit * units) (length part)

-- One step of a job that takes so many bytes of a part. `after` is the job after some bytes, `told` what is put out of them, both by the job before. It
-- says how much of the part was used, the job then, where the text ends, and every byte of the lent buffer.
pub record Fed {Job : Type 0} (after : Job → List ℕ → Job) (told : Job → List ℕ → List ℕ) (bytes : ℕ) (before : Job) (part out₀ out : List ℕ)
    (job : Job) (used end : ℕ) : Type 0 where
  pub taken : used ≡ bytes
  pub become : job ≡ after before (take bytes part)
  pub ended : end ≡ length (told before (take bytes part))
  pub stored : out ≡ told before (take bytes part) ++ drop end out₀

-- What a job does with two parts one after the other, the first of whole units, is what it does with both at once; with nothing it does nothing. `Whole`
-- says of bytes that they are whole units.
pub record Additive {Job : Type 0} (Whole : List ℕ → Type 0) (after : Job → List ℕ → Job) (told : Job → List ℕ → List ℕ) : Type 0 where
  pub whole-none : Whole []
  pub whole_parts : (a b : List ℕ) → Whole a → Whole b → Whole (a ++ b)
  pub after_none : (j : Job) → after j [] ≡ j
  pub told_none : (j : Job) → told j [] ≡ []
  pub after-parts : (j : Job) (a b : List ℕ) → Whole a → after j (a ++ b) ≡ after (after j a) b
  pub told-parts : (j : Job) (a b : List ℕ) → Whole a → told j (a ++ b) ≡ told j a ++ told (after j a) b

-- an input that was fed in parts of whole units, however it was cut: the bytes that were used, the text that was put out, and the job then
pub data Parts {Job : Type 0} (Whole : List ℕ → Type 0) (after : Job → List ℕ → Job) (told : Job → List ℕ → List ℕ) (start : Job)
    : List ℕ → List ℕ → Job → Type 0 where
  none : Parts Whole after told start [] [] start
  then : {bytes text : List ℕ} {before : Job} (part : List ℕ) → Parts Whole after told start bytes text before → Whole part
      → Parts Whole after told start (bytes ++ part) (text ++ told before part) (after before part)

-- the whole of an input: parts of whole units, and the last part, which may end in a fragment
pub data WholeInput {Job : Type 0} (Whole : List ℕ → Type 0) (after : Job → List ℕ → Job) (told : Job → List ℕ → List ℕ) (start : Job)
    : List ℕ → List ℕ → Job → Type 0 where
  ending : {bytes text : List ℕ} {before : Job} (last : List ℕ) → Parts Whole after told start bytes text before
      → WholeInput Whole after told start (bytes ++ last) (text ++ told before last) (after before last)
