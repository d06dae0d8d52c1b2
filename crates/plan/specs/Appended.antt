-- Records in a lent buffer: what each byte holds afterwards, and the place behind the records.
-- Assumes nothing.
use Rattle.std.specs.Prelude.{ℕ, ◌+◌, ◌*◌, List, ◌≡◌, length}
use Rattle.std.proofs.lemmas.List.Edits.{sets}
use Rattle.access.specs.declared.record.Record.{Record}
use Rattle.roads.specs.Restores.{trace_of}

-- the records' bytes were stored from a place on, up to another
pub record Appended (before : List ℕ) (at : ℕ) (records : List Record) (after : List ℕ) (end : ℕ) : Type 0 where
  pub bytes : after ≡ sets before at (trace_of records)
  pub place : end ≡ at + 8 * length records
