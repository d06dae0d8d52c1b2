-- 01, 'The replay program', a record's 'number from 0': its digits, and those of the next number from them.
-- Assumes nothing.
use Rattle.std.specs.Prelude.{ℕ, ◌+◌, ◌-◌, ◌<◌, List, ◌≡◌, take, set, get_or}
use Rattle.text.specs.Text.{decimal, decimal_places}

-- the first so many bytes are a number in decimal
pub record Spells (number : ℕ) (figures : List ℕ) (size : ℕ) : Type 0 where
  pub many : size ≡ decimal_places number number
  pub spelled : take size figures ≡ decimal number

-- with the last of so many digits one more they are a number's, unless it is a 9
unfoldable pub Next : ℕ → List ℕ → ℕ → Type 0
Next number figures size = get_or figures (size - 1) 0 < 57 → Spells number (set figures (size - 1) (get_or figures (size - 1) 0 + 1)) size
