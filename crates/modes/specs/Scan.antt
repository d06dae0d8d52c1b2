-- How the reader goes through a line, byte by byte: no part of what a good line is. Each reader has the bytes that are left, and ends in what the line says or in
-- how many bytes of them stand before the bad one.
-- Assumes nothing.
use Rattle.std.specs.Prelude.{ℕ, zero, suc, ◌+◌, ◌-◌, ◌*◌, ◌^◌, ◌≤◌, ⊤, Bool, true, false, cond, not, ◌&&◌, List, [], ◌∷◌, ◌++◌, ◌≡◌, eqb, ltb, length, get_or, drop}
use Rattle.file.specs.Readers.{ascii}
use Rattle.std.specs.declared.result.Result.{Result}
use Rattle.modes.specs.declared.mode.Mode.{Mode}
use Rattle.modes.specs.declared.number.Spelled.{Spelled}
use Rattle.modes.specs.Form.{Axis, Horizontal, Vertical, name_byte, digit, header, letter}
pub use Rattle.std.specs.declared.result.Result.TheVariants.{Ok, Err}

abbrev pub Outcome : Type 0
Outcome = Result Mode ℕ

-- one byte further
unfoldable pub up : Outcome → Outcome
up (Ok m) = Ok m
up (Err k) = Err (suc k)

-- nothing more
unfoldable pub at_end : Mode → List ℕ → Outcome
at_end m [] = Ok m
at_end m (b ∷ s) = Err 0

-- nothing more, or something that starts with a byte of its own
unfoldable pub may_end : Mode → (List ℕ → Outcome) → List ℕ → Outcome
may_end m k [] = Ok m
may_end m k (b ∷ s) = k (b ∷ s)

-- these bytes, and then
unfoldable pub lit : List ℕ → (List ℕ → Outcome) → List ℕ → Outcome
lit [] k s = k s
lit (c ∷ w) k [] = Err 0
lit (c ∷ w) k (b ∷ s) = cond (eqb b c) (up (lit w k s)) (Err 0)

-- one of two bytes, and then
unfoldable pub pick : ℕ → ℕ → (List ℕ → Outcome) → (List ℕ → Outcome) → List ℕ → Outcome
pick c d k l [] = Err 0
pick c d k l (b ∷ s) = cond (eqb b c) (up (k s)) (cond (eqb b d) (up (l s)) (Err 0))

-- a run of bytes, as many as a state takes
pub record Runner (Q : Type 0) : Type 0 where
  pub taken : Q → ℕ → Bool
  pub next : Q → ℕ → Q

unfoldable pub run : {Q : Type 0} → Runner Q → (Q → List ℕ → Outcome) → Q → List ℕ → Outcome
run r k q [] = k q []
run r k q (b ∷ s) = cond (r.taken q b) (up (run r k (r.next q b) s)) (k q (b ∷ s))

-- the name: how many bytes it has so far
unfoldable pub name_runner : Runner ℕ
name_runner = record { taken = λ c b. name_byte b && ltb c 32; next = λ c b. suc c }

-- digits: how many may still come, and what was spelled so far
pub record Digits : Type 0 where
  pub left : ℕ
  pub value : ℕ

unfoldable pub spell : Digits → ℕ → ℕ
spell q b = 10 * q.value + (b - 0x30)

-- none behind a zero that leads
unfoldable pub digit_runner : Runner Digits
digit_runner =
    record {
      taken = λ q b. digit b && ltb 0 q.left;
      next = λ q b. record { left = cond (eqb (spell q b) 0) 0 (q.left - 1); value = spell q b };
    }

-- a clock is not 0: the last digit that may come is none that leaves it 0
unfoldable pub decimal_runner : Runner Digits
decimal_runner =
    record {
      taken = λ q b. digit b && ltb 0 q.left && not (eqb q.left 1 && eqb (spell q b) 0);
      next = λ q b. record { left = q.left - 1; value = spell q b };
    }

-- what a run's state passes, goes on
unfoldable pub passing : {Q : Type 0} → (Q → Bool) → (Q → List ℕ → Outcome) → Q → List ℕ → Outcome
passing test k q s = cond (test q) (k q s) (Err 0)

-- a number of so many digits at most
unfoldable pub read_token : ℕ → (ℕ → List ℕ → Outcome) → List ℕ → Outcome
read_token most k = run digit_runner (passing (λ q. ltb q.left most) (λ q. k q.value)) (record { left = most; value = 0 })

-- a mode with both flags at minus, and with one flag of a line
unfoldable pub unflagged : ℕ → ℕ → List ℕ → Mode
unflagged name khz numbers = record { name = name; khz = khz; numbers = numbers; h_minus = true; v_minus = true }

unfoldable pub flagged : Axis → Bool → Mode → Mode
flagged Horizontal minus m =
    record { name = m.name; khz = m.khz; numbers = m.numbers; h_minus = minus; v_minus = m.v_minus }
flagged Vertical minus m =
    record { name = m.name; khz = m.khz; numbers = m.numbers; h_minus = m.h_minus; v_minus = minus }

unfoldable pub sync : List ℕ
unfolding ascii
sync = ascii "sync"

-- a flag of this axis, or none
unfoldable pub read_other : Axis → Mode → List ℕ → Outcome
read_other axis m =
    may_end m
    (lit (0x20 ∷ [])
    (pick 0x2B 0x2D (lit (letter axis ∷ sync) (at_end (flagged axis false m))) (lit (letter axis ∷ sync) (at_end (flagged axis true m)))))

-- behind a sign: a flag of either axis, and then of the other
unfoldable pub read_axis : Mode → Bool → List ℕ → Outcome
read_axis m minus =
    pick 0x68 0x76 (lit sync (read_other Vertical (flagged Horizontal minus m))) (lit sync (read_other Horizontal (flagged Vertical minus m)))

unfoldable pub read_flags : Mode → List ℕ → Outcome
read_flags m = may_end m (lit (0x20 ∷ []) (pick 0x2B 0x2D (read_axis m false) (read_axis m true)))

-- so many numbers more, each behind a space
unfoldable pub read_numbers : ℕ → ℕ → ℕ → List ℕ → List ℕ → Outcome
read_numbers zero name khz numbers = read_flags (unflagged name khz numbers)
read_numbers (suc more) name khz numbers = lit (0x20 ∷ []) (read_token 5 (λ n. read_numbers more name khz (numbers ++ n ∷ [])))

-- decimals behind so many whole MHz
unfoldable pub read_decimals : ℕ → ℕ → List ℕ → Outcome
read_decimals name whole =
    run decimal_runner
    (passing (λ q. ltb q.left 3 && ltb 0 q.value) (λ q. read_numbers 8 name (q.value * 10 ^ q.left) []))
    (record { left = 3; value = whole })

-- 0 MHz want a point
unfoldable pub read_behind : ℕ → ℕ → List ℕ → Outcome
read_behind name whole =
    cond (eqb whole 0) (lit (0x2E ∷ []) (read_decimals name whole))
    (pick 0x2E 0x20 (read_decimals name whole) (read_token 5 (λ n. read_numbers 7 name (whole * 1000) (n ∷ []))))

unfoldable pub read_clock : ℕ → List ℕ → Outcome
read_clock name = read_token 3 (read_behind name)

unfoldable pub read_name : List ℕ → Outcome
read_name = run name_runner (passing (ltb 0) (λ name. lit (0x22 ∷ 0x20 ∷ []) (read_clock name))) 0

unfoldable pub read_line : List ℕ → Outcome
read_line = lit header read_name

-- The same by places of a line: what the code's functions have.

-- so many bytes further
unfoldable pub shift : ℕ → Outcome → Outcome
shift n (Ok m) = Ok m
shift n (Err k) = Err (n + k)

-- a byte stands at a place
unfoldable pub is_at : List ℕ → ℕ → ℕ → Bool
is_at line at b = ltb at (length line) && eqb (get_or line at 0) b

-- how many bytes of a word a text begins with
unfoldable pub matched_in : List ℕ → List ℕ → ℕ
matched_in [] s = 0
matched_in (c ∷ w) [] = 0
matched_in (c ∷ w) (b ∷ s) = cond (eqb b c) (suc (matched_in w s)) 0

-- how many bytes a run takes, and its state behind them
unfoldable pub run_count : {Q : Type 0} → Runner Q → Q → List ℕ → ℕ
run_count r q [] = 0
run_count r q (b ∷ s) = cond (r.taken q b) (suc (run_count r (r.next q b) s)) 0

unfoldable pub run_end : {Q : Type 0} → Runner Q → Q → List ℕ → Q
run_end r q [] = q
run_end r q (b ∷ s) = cond (r.taken q b) (run_end r (r.next q b) s) q

abbrev pub state : ℕ → ℕ → Digits
state left value = record { left = left; value = value }

unfoldable pub number_from : Runner Digits → List ℕ → ℕ → Digits → Spelled
number_from r line at q =
    record {
      end = at + run_count r q (drop at line);
      left = (run_end r q (drop at line)).left;
      value = (run_end r q (drop at line)).value;
    }

-- A reader that finds something from a place up to an end, whatever is read behind it; or that stops at a bad place, whatever would be.
pub record Passes {A : Type 0} (read : (A → List ℕ → Outcome) → List ℕ → Outcome) (line : List ℕ) (at : ℕ) (found : A) (end : ℕ) : Type 0 where
  pub within : end ≤ length line
  pub same : (k : A → List ℕ → Outcome) → shift at (read k (drop at line)) ≡ shift end (k found (drop end line))

abbrev pub Stops : {A : Type 0} → ((A → List ℕ → Outcome) → List ℕ → Outcome) → List ℕ → ℕ → ℕ → Type 0
Stops {A} read line at place = (k : A → List ℕ → Outcome) → shift at (read k (drop at line)) ≡ Err place

-- a word, a sign and an axis' letter, read so
abbrev pub read_word : List ℕ → (⊤ → List ℕ → Outcome) → List ℕ → Outcome
read_word w k = lit w (k tt)

abbrev pub read_sign : (Bool → List ℕ → Outcome) → List ℕ → Outcome
read_sign k = pick 0x2B 0x2D (k false) (k true)

abbrev pub read_letter : (Axis → List ℕ → Outcome) → List ℕ → Outcome
read_letter k = pick 0x68 0x76 (k Horizontal) (k Vertical)

-- decimals behind so many MHz, and the numbers behind them; or a bad place
pub record DecimalsPass (whole : ℕ) (line : List ℕ) (at khz end : ℕ) : Type 0 where
  pub within : end ≤ length line
  pub same : (name : ℕ) → shift at (read_decimals name whole (drop at line)) ≡ shift end (read_numbers 8 name khz [] (drop end line))

abbrev pub DecimalsStop : ℕ → List ℕ → ℕ → ℕ → Type 0
DecimalsStop whole line at place = (name : ℕ) → shift at (read_decimals name whole (drop at line)) ≡ Err place
