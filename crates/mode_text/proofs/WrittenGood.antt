-- A line that is written is good by the form of a line, and says the name, the clock, the timing's numbers and the flags. Assumes nothing.
use Prim.Native.Nat.{ℕ, zero, suc, ◌-◌, ◌*◌, ◌/◌, ◌%◌, ◌^◌, ◌≤◌, ◌<◌}
use mathlib.Core.Bool.{◌&&◌}
use mathlib.Core.List.{List, [], ◌∷◌, ◌++◌, map}
use mathlib.Core.Path.{◌≡◌, refl, sym, ap, ap₂, ◌∙◌, subst}
use native.Mathlib.Omega.{arith}
use lib.Dec.{T, leb, leb→le, le→leb, lit<}
use lib.ListN.{length, get_or}
use Rattle.io.specs.Digits.{last_digits}
use Rattle.bits.proofs.Test.{left, right, both}
use Rattle.file.specs.declared.registers.File.{File}
use Rattle.text.proofs.Spelled.{digits-length}
use Rattle.text.specs.Text.{decimal}
use Rattle.timing.proofs.Ranges.{read-in-ranges}
use Rattle.timing.specs.Ranges.{◌to◌, lies_in, all_lie_in, ranges}
use Rattle.timing.specs.Table.{wide}
use Rattle.timing.specs.Timing.{numbers_of, timing_in}
use Rattle.modes.proofs.Tokens.{value-append}
use Rattle.modes.specs.Form.{every, name_byte, numeral, value_from, value_of, kilohertz, same_axis, each_once, Formed, minus_of, mode_of, Good}
use Rattle.modes.specs.declared.mode.Mode.{Mode}
use Rattle.mode_file.proofs.Clamped.{lies_at, to-most, end-most}
use Rattle.mode_text.specs.Out.{name_fits, clock_fits, numbers_out, flags_out, minus_in, parts_out, line_out}
use Rattle.mode_text.proofs.Decimals.{spells, digits_from, all_digits}

-- what the line says
unfoldable pub mode_out : File → List ℕ → ℕ → Mode
mode_out f name khz =
    record {
      name = length name;
      khz = khz;
      numbers = numbers_out (timing_in f);
      h_minus = minus_in f 6;
      v_minus = minus_in f 7;
    }

-- the clock's digits are the clock
clock-back : (khz : ℕ) → khz ≤ 999999 → kilohertz (decimal (khz / 1000)) (last_digits 10 3 (khz % 1000)) ≡ khz
unfolding kilohertz value_of
clock-back khz h =
    ap (λ (n : ℕ). value_from 0 (decimal (khz / 1000) ++ last_digits 10 3 (khz % 1000)) * 10 ^ (3 - n)) (digits-length 3 (khz % 1000))
    ∙ ap (λ (v : ℕ). v * 10 ^ 0)
    (value-append 0 (decimal (khz / 1000)) (last_digits 10 3 (khz % 1000))
    ∙ ap (λ (v : ℕ). value_from v (last_digits 10 3 (khz % 1000))) (spells (khz / 1000) (omega arith)).value
    ∙ digits_from (khz / 1000) 3 (khz % 1000) (omega arith))
    ∙ omega arith

-- numbers below 100000, as text and back
abbrev pub fives : List ℕ → Type 0
fives ns = (k : ℕ) → get_or ns k 0 < 100000

every-token : (ns : List ℕ) → fives ns → T (every (λ (n : List ℕ). numeral n && leb (length n) 5) (map decimal ns))
unfolding every
every-token [] h = tt
every-token (n ∷ ns) h =
    let s = spells n (h 0) in
    both (numeral (decimal n) && leb (length (decimal n)) 5) (every (λ (x : List ℕ). numeral x && leb (length x) 5) (map decimal ns))
    (both (numeral (decimal n)) (leb (length (decimal n)) 5) s.numbered (le→leb (length (decimal n)) 5 s.short))
    (every-token ns (λ k. h (suc k)))

values-back : (ns : List ℕ) → fives ns → map value_of (map decimal ns) ≡ ns
values-back [] h = refl
values-back (n ∷ ns) h = ap₂ (λ (x : ℕ) (xs : List ℕ). x ∷ xs) (spells n (h 0)).value (values-back ns (λ k. h (suc k)))

-- a file's numbers are that small
module _ (f : File) where
  at : (k : ℕ) → k < 15 → T (lies_in (get_or (ranges (wide f)) k (0 to 0)) (get_or (0 ∷ numbers_of (timing_in f)) k 0) (get_or (numbers_of (timing_in f)) k 0))
  unfolding all_lie_in ranges
  at k h = lies_at 0 (ranges (wide f)) (numbers_of (timing_in f)) k h (read-in-ranges f)

  pub file-numbers : fives (numbers_out (timing_in f))
  unfolding numbers_out numbers_of ranges
  file-numbers zero = omega (arith, to-most 1 512 _ (timing_in f).h_display.0 (at 1 (lit< tt)))
  file-numbers (suc zero) = omega (arith, to-most 0 511 _ (timing_in f).h_sync_start.0 (at 4 (lit< tt)))
  file-numbers (suc (suc zero)) =
      omega (arith, to-most 0 511 _ (timing_in f).h_sync_start.0 (at 4 (lit< tt)), end-most 5 (timing_in f).h_sync_start.0 (timing_in f).h_sync_end.0 (at 5 (lit< tt)))
  file-numbers (suc (suc (suc zero))) = omega (arith, to-most 5 516 _ (timing_in f).h_total.0 (at 0 (lit< tt)))
  file-numbers (suc (suc (suc (suc zero)))) = omega (arith, to-most 1 2048 _ (timing_in f).v_display.0 (at 7 (lit< tt)))
  file-numbers (suc (suc (suc (suc (suc zero))))) = omega (arith, to-most 0 2047 _ (timing_in f).v_sync_start.0 (at 10 (lit< tt)))
  file-numbers (suc (suc (suc (suc (suc (suc zero)))))) =
      omega (arith, to-most 0 2047 _ (timing_in f).v_sync_start.0 (at 10 (lit< tt)), end-most 4 (timing_in f).v_sync_start.0 (timing_in f).v_sync_end.0 (at 11 (lit< tt)))
  file-numbers (suc (suc (suc (suc (suc (suc (suc zero))))))) = omega (arith, to-most 2 2049 _ (timing_in f).v_total.0 (at 6 (lit< tt)))
  file-numbers (suc (suc (suc (suc (suc (suc (suc (suc k)))))))) = omega arith

  module _ (name : List ℕ) (khz : ℕ) (n : T (name_fits name)) (c : T (clock_fits khz)) where
    khz-most : khz ≤ 999999
    unfolding clock_fits
    khz-most = leb→le khz 999999 (right (leb 1 khz) (leb khz 999999) c)

    khz-least : 1 ≤ khz
    unfolding clock_fits
    khz-least = leb→le 1 khz (left (leb 1 khz) (leb khz 999999) c)

    pub parts-formed : Formed (parts_out f name khz)
    unfolding parts_out name_fits flags_out each_once same_axis numbers_out
    parts-formed =
        record {
          named = right (leb 1 (length name) && leb (length name) 32) (every name_byte name) n;
          name-least = leb→le 1 (length name) (left (leb 1 (length name)) (leb (length name) 32) (left (leb 1 (length name) && leb (length name) 32) (every name_byte name) n));
          name-most = leb→le (length name) 32 (right (leb 1 (length name)) (leb (length name) 32) (left (leb 1 (length name) && leb (length name) 32) (every name_byte name) n));
          whole = (spells (khz / 1000) (omega (arith, khz-most))).numbered;
          decimals = all_digits 3 (khz % 1000);
          decimals-most = omega (arith, digits-length 3 (khz % 1000));
          clock-least = subst (λ (k : ℕ). 1 ≤ k) (sym (clock-back khz khz-most)) khz-least;
          clock-most = subst (λ (k : ℕ). k ≤ 999999) (sym (clock-back khz khz-most)) khz-most;
          count = refl;
          numbers = every-token (numbers_out (timing_in f)) file-numbers;
          flags = tt;
        }

    -- the line is good, and says this
    pub written-good : Good (line_out f name khz) (mode_out f name khz)
    unfolding line_out mode_out mode_of parts_out flags_out minus_of same_axis
    written-good =
        record {
          parts = parts_out f name khz;
          formed = parts-formed;
          text = refl;
          says =
              ap₂ (λ (k : ℕ) (ns : List ℕ). record { name = length name; khz = k; numbers = ns; h_minus = minus_in f 6; v_minus = minus_in f 7 })
              (sym (clock-back khz khz-most)) (sym (values-back (numbers_out (timing_in f)) file-numbers));
        }
