-- A line of limited length: text is written behind what stands there, and nothing stands behind its last place: a byte that has none is dropped.
-- Assumes nothing.
use Rattle.std.specs.Prelude.{ℕ, ◌+◌, cond, List, [], ◌∷◌, ltb, set, take, replicate}
use Rattle.text.specs.declared.fixed.Line.{Line}

-- nothing yet
abbrev pub blank : (most : ℕ) → Line most
blank most = record { bytes = replicate most 0; end = 0 }

-- a byte behind what stands in a line, where there is a place for it
unfoldable pub byte_behind : {most : ℕ} → Line most → ℕ → Line most
byte_behind {most} l b = cond (ltb l.end most) (record { bytes = set l.bytes l.end b; end = l.end + 1 }) l

-- a text behind it
unfoldable pub behind : {most : ℕ} → Line most → List ℕ → Line most
behind l [] = l
behind l (b ∷ bs) = behind (byte_behind l b) bs

-- the bytes that stand in it
abbrev pub text_of : {most : ℕ} → Line most → List ℕ
text_of l = take l.end l.bytes
