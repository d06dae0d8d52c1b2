-- For a host in C: a record as one number, and a reply as one: its value in the low 16 bits, its code above.
-- Assumes nothing.
use Rattle.std.specs.Prelude.{ℕ, ◌+◌, ◌*◌, ◌/◌, ◌%◌}
use Rattle.access.specs.declared.record.Record.{Record}

-- 01's eight bytes of a record, little-endian: kind, width, two of address, four of value
unfoldable pub record_in : ℕ → Record
record_in n = record { kind = n % 256; width = n / 256 % 256; address = n / 65536 % 65536; value = n / 4294967296 }

unfoldable pub told : ℕ → ℕ → ℕ
told code value = 65536 * code + value

-- 12, and no value
abbrev pub not_sound : ℕ
not_sound = 786432
