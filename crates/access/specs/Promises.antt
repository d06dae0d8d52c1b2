-- What the theorems about one access speak of.
-- Assumes nothing.
use Rattle.std.specs.Prelude.{ℕ, ◌≡◌, Bool, [], ◌∷◌, ◌⊎◌}
use Rattle.bits.specs.Store.{bit}
use Rattle.file.specs.declared.answer.Answer.{Answer}
use Rattle.file.specs.declared.registers.File.{File}
use Rattle.file.specs.Answers.{code_of, one_of}
use Rattle.file.specs.File.{register}
use Rattle.file.specs.Names.{CR1A, B0}
use Rattle.places.specs.Lookup.{other_way}
use Rattle.access.specs.declared.record.Record.{Record}

-- 01's table of codes: those of an access, 0 to 9 and 12; 02, 2/13: 16 and 17
unfoldable pub access_code : Answer → Bool
unfolding one_of code_of
access_code a = one_of (0 ∷ 1 ∷ 2 ∷ 3 ∷ 4 ∷ 5 ∷ 6 ∷ 7 ∷ 8 ∷ 9 ∷ 12 ∷ 16 ∷ 17 ∷ []) a

-- 02, 2/13: a record turned round: the same width, address and value in the other direction
abbrev pub turned : Record → Record
turned r = record { kind = other_way r.kind; width = r.width; address = r.address; value = r.value }

-- a write of CR7 at MMIO 1Ch
abbrev pub seventh : ℕ → Record
seventh value = record { kind = 5; width = 1; address = 0x1C; value = value }

-- 02, 10/13, 'kind 6: width 2, address 0': so many lines pass
abbrev pub passing : ℕ → Record
passing lines = record { kind = 6; width = 2; address = 0; value = lines }

-- 02, 7/13: 'B0[7], CR1A[3] or CR1A[2] is 1'
abbrev pub Stopped : File → Type 0
Stopped f = (bit 7 (register f B0) ≡ 1) ⊎ ((bit 3 (register f CR1A) ≡ 1) ⊎ (bit 2 (register f CR1A) ≡ 1))

-- every entry and the marks of the last 3C9h access are as before
pub record SameColours (before after : File) : Type 0 where
  pub palette : after.palette ≡ before.palette
  pub bank : after.bank ≡ before.bank
  pub marks : after.state.marks ≡ before.state.marks
