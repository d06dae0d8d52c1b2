-- The job of the command `portable`: the first 29 bytes of an input that comes in parts.
-- Assumes nothing.
use Rattle.std.specs.Prelude.{List, [], ℕ}
use Rattle.text.specs.declared.fixed.Line.{Line}
use Rattle.text.specs.Fixed.{behind, blank, text_of}

-- a line of so many bytes; one more than 28 tells another length, so the thirtieth is dropped
abbrev pub PortableJob : Type 0
PortableJob = Line 29

-- no byte is kept yet
abbrev pub begun : PortableJob
begun = blank 29

-- the job after a part
abbrev pub job_after : PortableJob → List ℕ → PortableJob
job_after job part = behind job part

-- a part puts nothing out, and may be cut anywhere
unfoldable pub nothing_told : PortableJob → List ℕ → List ℕ
nothing_told job part = []

abbrev pub AnyBytes : List ℕ → Type 0
AnyBytes bytes = Unit

-- the bytes that are kept
abbrev pub held : PortableJob → List ℕ
held job = text_of job
