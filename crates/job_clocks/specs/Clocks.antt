-- The job of the command `clocks`: what is counted and told of some bytes, and how many of a part one step takes.
-- Assumes nothing.
use Rattle.std.specs.Prelude.{ℕ, ◌/◌, ◌%◌, min, Bool, cond, List, ◌≡◌, length}
use Rattle.feeding.specs.declared.step.Fed.{Fed as FedOf}
use Rattle.feeding.specs.Feeding.{Fed, bytes_of, units_in}
use Rattle.clock_text.specs.declared.tally.Tally.{Tally}
use Rattle.clock_text.specs.Parts.{counts_fit}
use Rattle.clock_text.specs.Report.{clock_lines}
use Rattle.clock_text.specs.Sets.{set_clocks, tallied}

-- what was counted after a part, how many bytes of the part were used, and where their lines end
abbrev pub ClocksFed : Type 0
ClocksFed = FedOf Tally

-- the bytes are whole sets
abbrev pub WholeSets : List ℕ → Type 0
WholeSets bytes = length bytes % 3 ≡ 0

-- what is counted after some bytes
unfoldable pub tally_after : Tally → List ℕ → Tally
tally_after tally bytes = tallied tally (set_clocks bytes)

-- and the lines of their sets, which no count changes
unfoldable pub lines_told : Tally → List ℕ → List ℕ
lines_told tally bytes = clock_lines (set_clocks bytes)

-- as many sets as a part has, a fragment among them if it is the last part, whose lines fit into a room, 15 bytes for each
unfoldable pub sets_roomed : Bool → List ℕ → ℕ → ℕ
sets_roomed last part room = min (units_in 3 last part) (room / 15)

-- the bytes that they have
unfoldable pub set_bytes : Bool → List ℕ → ℕ → ℕ
set_bytes last part room = bytes_of 3 (sets_roomed last part room) part

-- none are taken where a count of 64 bits might have no room for them
unfoldable pub bytes_taken : Tally → Bool → List ℕ → ℕ → ℕ
bytes_taken before last part room = cond (counts_fit before (sets_roomed last part room)) (set_bytes last part room) 0

-- one step of the job
abbrev pub ClocksStep : Tally → List ℕ → Bool → List ℕ → List ℕ → ClocksFed → Type 0
ClocksStep before part last out₀ out r =
    Fed tally_after lines_told (bytes_taken before last part (length out₀)) before part out₀ out r.job r.used r.end
