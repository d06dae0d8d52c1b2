-- Every span of what is asked for, or of what is refused, is within the slice of the words.
-- Assumes nothing.
use Rattle.std.specs.Prelude.{ℕ, ◌≤◌, Option, None, Result, MatchResult, get_or}
use Rattle.std.specs.Option.{IfSome}
use Rattle.options.specs.declared.types.Asked.{Asked}
use Rattle.options.specs.declared.types.Of.{Of}
use Rattle.options.specs.declared.types.Refused.{Refused}
use Rattle.options.specs.declared.types.Span.{Span}

-- a span within so many bytes
pub record Inside (size : ℕ) (s : Span) : Type 0 where
  pub ordered : s.start ≤ s.end
  pub within : s.end ≤ size

-- one that there may be
abbrev pub InsideIf : ℕ → Option Span → Type 0
InsideIf size s = IfSome s (Inside size)

pub record BothInside (size : ℕ) (of : Of) : Type 0 where
  pub name : Inside size of.name
  pub mhz : Inside size of.mhz

pub record SpansWithin (size : ℕ) (asked : Asked) : Type 0 where
  pub since : InsideIf size asked.since
  pub of : IfSome asked.of (BothInside size)
  pub list : InsideIf size asked.list
  pub file : Inside size asked.file

-- of what is refused the wrong word, and all that was read before it
pub record WordWithin (size : ℕ) (refused : Refused) : Type 0 where
  pub word : InsideIf size refused.word
  pub slots : (k : ℕ) → InsideIf size (get_or refused.reading.filled k None)

-- of either
pub record AllWithin (size : ℕ) (r : Result Asked Refused) : Type 0 where
  pub within : MatchResult r (SpansWithin size) (WordWithin size)
