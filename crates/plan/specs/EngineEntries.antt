-- What the code goes by alone: the entries that are named, one by one, with an address where a stretch begins.
-- Assumes nothing.
use Rattle.std.specs.Prelude.{ℕ, suc, Bool, cond, not, List, [], ◌∷◌, ◌++◌}
use Rattle.file.specs.declared.palette.Colour.{Colour}
use Rattle.access.specs.declared.record.Record.{Record}
use Rattle.roads.specs.Plan.{mmio_write, pixel}

-- one entry, if it is named: its address too where the pointer stands elsewhere
unfoldable pub entry_records : Bool → Bool → ℕ → Colour → List Record
entry_records named apart n c = cond named (cond apart (mmio_write 0xA8 n ∷ []) [] ++ pixel c) []

-- the entries from one on, the pointer standing there or apart
unfoldable pub entries_named : Bool → ℕ → List Bool → List Colour → List Record
entries_named apart n [] cs = []
entries_named apart n (named ∷ more) [] = []
entries_named apart n (named ∷ more) (c ∷ cs) = entry_records named apart n c ++ entries_named (not named) (suc n) more cs
