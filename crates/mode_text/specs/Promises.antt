-- 02, 4/13: what the theorems on a line that was written and read, or read and written, speak of.
-- Assumes nothing.
use Rattle.std.specs.Prelude.{ℕ, ◌-◌, ◌≤◌, List, ◌++◌, ◌≡◌, length, replicate, Ok}
use Rattle.file.specs.declared.registers.File.{File}
use Rattle.timing.specs.Timing.{timing_in}
use Rattle.modes.specs.declared.mode.Axis.TheVariants.{Horizontal, Vertical}
use Rattle.modes.specs.Form.{Parts, Formed, minus_of, spelled}
use Rattle.mode_file.specs.declared.into.LineSaid.{LineSaid}
use Rattle.mode_file.specs.declared.into.ReadLine.{ReadLine}
use Rattle.mode_file.specs.Promises.{name_in}
use Rattle.mode_text.specs.Out.{flags_out, line_out, minus_in, write_verdict}

-- 'reads back .. as the same name, clock, timing and flags': what was read of a line, beside the file, name and clock that it was written from
pub record SameMode (f : File) (name : List ℕ) (khz : ℕ) (line : List ℕ) (r : ReadLine) : Type 0 where
  pub said : LineSaid
  pub answered : r.said ≡ Ok said
  pub same_name : name_in line said ≡ name
  pub same-clock : said.khz ≡ khz
  pub same-timing : timing_in r.file ≡ timing_in f
  pub same_flags : (minus_in r.file 6 ≡ minus_in f 6) × (minus_in r.file 7 ≡ minus_in f 7)

-- 'with three decimals and both flags, horizontal first': the parts of a line as they are written. The decimals are filled up with zeros to three, and an
-- absent flag is there as minus; name, whole MHz and numbers are spelled as they were
unfoldable pub respelled : Parts → Parts
respelled p =
    record {
      name = p.name;
      whole = p.whole;
      decimals = p.decimals ++ replicate (3 - length p.decimals) 0x30;
      numbers = p.numbers;
      flags = flags_out (minus_of Horizontal p.flags) (minus_of Vertical p.flags);
    }

-- a line of these parts that was read, written with its name and its clock from the file that it was read into: 'a buffer under 256 bytes' is all that
-- could be refused
pub record WrittenAgain (line : List ℕ) (r : ReadLine) (p : Parts) : Type 0 where
  pub said : LineSaid
  pub answered : r.said ≡ Ok said
  pub accepted : (room : ℕ) → 256 ≤ room → write_verdict r.file (name_in line said) said.khz room ≡ Ok (length (spelled (respelled p)))
  pub again : line_out r.file (name_in line said) said.khz ≡ spelled (respelled p)

-- a line that was read is made of such parts, and is written again so
pub record Respelled (line : List ℕ) (r : ReadLine) : Type 0 where
  pub parts : Parts
  pub formed : Formed parts
  pub text : line ≡ spelled parts
  pub written : WrittenAgain line r parts
