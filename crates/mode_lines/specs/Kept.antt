-- Bytes laid behind others in a lent buffer, as many as it has room for: what the buffer holds afterwards.
-- Assumes nothing.
use Rattle.std.specs.Prelude.{ℕ, List, ◌++◌, ◌≡◌, length, take, drop}

-- so many bytes from the buffer's start, and these behind them, cut where the buffer ends
unfoldable pub kept_text : List ℕ → ℕ → List ℕ → List ℕ
kept_text buffer count bytes = take (length buffer) (take count buffer ++ bytes)

-- what stands at the buffer's start, and how many bytes that are; the bytes behind them stay
pub record Kept (before : List ℕ) (count : ℕ) (bytes after : List ℕ) (r : ℕ) : Type 0 where
  pub size : r ≡ length (kept_text before count bytes)
  pub stored : after ≡ kept_text before count bytes ++ drop r before
