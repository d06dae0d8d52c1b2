-- The line that a name and a clock are asked in, and the file's line. Assumes nothing.
use Prim.Native.Nat.{ℕ, ◌≤◌}
use mathlib.Core.Bool.{Bool, cond}
use mathlib.Core.List.{List, ◌++◌}
use mathlib.Core.Path.{◌≡◌, sym, ap, ◌∙◌, subst}
use native.Mathlib.Omega.{arith}
use lib.ListN.{length, take, drop, length-append}
use lib.Seq.{length-take-le}
use Rattle.io.specs.Counts.{IsPrefixLen}
use Rattle.file.specs.declared.registers.File.{File}
use Rattle.std.specs.Prelude.{Result, Ok, Err, IfOk}
use Rattle.mode_file.specs.declared.verdict.Verdict.{Verdict}
use Rattle.modes.specs.declared.mode.Mode.{Mode}
use Rattle.modes.specs.Promises.{Told}
use Rattle.mode_text.proofs.RoundTrip.{written-size, done-ok}
use Rattle.mode_text.specs.Out.{WroteFrom, line_out}
use Rattle.mode_lines.specs.ClockLine.{ClockSaid, clock_line, khz_said}
use Rattle.mode_lines.specs.Kept.{Kept, kept_text}
use Rattle.mode_lines.proofs.FirstBytes.{told-by-first}
use Rattle.mode_lines.proofs.Laying.{kept-start}

-- the composed line's first 256 bytes tell what all of it tells
pub clock-said : (name mhz : List ℕ) {before after : List ℕ} {r : ℕ} (p : Result Mode ℕ) → length before ≡ 256 → Kept before 0 (clock_line name mhz) after r
    → Told (take r after) p → (khz : ℕ) → khz ≡ khz_said p → ClockSaid name mhz khz
unfolding kept_text
clock-said name mhz p e w t khz says =
    record {
      parsed = p;
      told = told-by-first (clock_line name mhz) p (subst (λ (s : List ℕ). Told s p) (kept-start w ∙ ap (λ (n : ℕ). take n (clock_line name mhz)) e) t);
      says = says;
    }

-- a line that was written has room
pub wrote-counts : (f : File) (name : List ℕ) (khz : ℕ) (before after : List ℕ) (r : Result ℕ Verdict) → WroteFrom f name khz before after r
    → IfOk r (λ size. IsPrefixLen size after)
wrote-counts f name khz before after (Err v) w = tt
wrote-counts f name khz before after (Ok size) w = (few, sym (length-take-le size after few))
  where
    few : size ≤ length after
    few =
        omega (
          arith,
          written-size f name khz (length before) size (sym w.answered),
          ap length (w.bytes ∙ ap (λ (b : Bool). cond b (line_out f name khz ++ drop (length (line_out f name khz)) before) before) (done-ok size)),
          length-append (line_out f name khz) (drop (length (line_out f name khz)) before),
        )
