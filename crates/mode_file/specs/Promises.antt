-- What the theorems on a line that is read speak of: what it was read as, what may change, and what stays.
-- Assumes nothing.
use Rattle.std.specs.Prelude.{ℕ, List, ◌≡◌, take, drop, Ok}
use Rattle.bits.specs.Reach.{table_reach}
use Rattle.bits.specs.Store.{bit}
use Rattle.file.specs.declared.registers.File.{File}
use Rattle.file.specs.File.{register}
use Rattle.file.specs.Names.{MISC}
use Rattle.timing.specs.Table.{table, wide}
use Rattle.modes.specs.Form.{Parts, Formed, kilohertz, spelled, mode_of}
use Rattle.mode_file.specs.declared.into.LineSaid.{LineSaid}
use Rattle.mode_file.specs.declared.into.ReadLine.{ReadLine}
use Rattle.mode_file.specs.Said.{flag_reach, with_mode}

-- 02, 4/13: the bytes of the line that are told as the name, as many as are told from the place that is told on
abbrev pub name_in : List ℕ → LineSaid → List ℕ
name_in line s = take s.name_size (drop s.name_start line)

-- 'Read one line into a file': the parts that the line is made of; their name and their clock are told, and what they say is in the file
pub record ReadAs (line : List ℕ) (f : File) (r : ReadLine) (parts : Parts) : Type 0 where
  pub formed : Formed parts
  pub text : line ≡ spelled parts
  pub said : LineSaid
  pub answered : r.said ≡ Ok said
  pub name : name_in line said ≡ parts.name
  pub clock : said.khz ≡ kilohertz parts.whole parts.decimals
  pub file : r.file ≡ with_mode (mode_of parts) f

-- outside the pieces of 01's table of timing numbers and MISC[7:6] no bit of a register differs; palette, bank and state are the same
pub record SameOutsideMode (before after : File) : Type 0 where
  pub registers : (r i : ℕ) → bit i (table_reach (table (wide before)) r) ≡ 0 → (r ≡ MISC → bit i flag_reach ≡ 0) → bit i (register after r) ≡ bit i (register before r)
  pub palette : after.palette ≡ before.palette
  pub bank : after.bank ≡ before.bank
  pub state : after.state ≡ before.state
