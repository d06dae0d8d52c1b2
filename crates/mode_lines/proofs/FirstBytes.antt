-- A good line has at most 113 bytes; so a line that has more than 256 is judged by its first 256. Assumes nothing.
use Prim.Native.Nat.{ℕ, suc, ◌-◌, ◌*◌, ◌^◌, ◌≤◌, ◌<◌}
use mathlib.Core.Bool.{◌&&◌}
use mathlib.Core.List.{List, [], ◌∷◌, ◌++◌}
use mathlib.Core.Path.{◌≡◌, sym, ap, subst}
use native.Mathlib.Omega.{arith}
use borrow.Author.Tests.{leb-true, leb-false}
use lib.Dec.{T, leb, leb→le}
use lib.ListN.{length, take, length-append}
use lib.Seq.{length-take-le, take_all, take-take}
use Rattle.bits.proofs.Test.{by-test, left, right}
use Rattle.file.specs.Readers.{ascii}
use Rattle.modes.proofs.Tokens.{value-append, value-large}
use Rattle.modes.specs.declared.mode.Mode.{Mode}
use Rattle.std.specs.Prelude.{Result, Ok, Err}
use Rattle.modes.specs.Form.{Flag, Parts, Formed, Good, every, numeral, value_from, value_of, kilohertz, clock_text, numbers_text, flag_text, flags_text, each_once, header, spelled}
use Rattle.modes.specs.Place.{Begins, BadAt}
use Rattle.modes.specs.Promises.{Told}

-- each MHz is 1000 kHz
thousands : (w : ℕ) (ds : List ℕ) → length ds ≤ 3 → 1000 * w ≤ value_from w ds * 10 ^ (3 - length ds)
unfolding value_from
thousands w [] n = omega arith
thousands w (a ∷ []) n = omega arith
thousands w (a ∷ b ∷ []) n = omega arith
thousands w (a ∷ b ∷ c ∷ []) n = omega arith
thousands w (a ∷ b ∷ c ∷ d ∷ ds) n = absurd (omega (arith, n))

-- so a clock has three digits before the point
whole-short : (p : Parts) → Formed p → length p.whole ≤ 3
unfolding kilohertz value_of
whole-short p f =
    by-test (leb (length p.whole) 3) (leb-true (length p.whole) 3)
    (λ n. absurd (omega (
      arith,
      value-large p.whole f.whole (leb-false (length p.whole) 3 n),
      thousands (value_of p.whole) p.decimals f.decimals-most,
      ap (λ (v : ℕ). v * 10 ^ (3 - length p.decimals)) (value-append 0 p.whole p.decimals),
      f.clock-most,
    )))

clock-short : (whole ds : List ℕ) → length whole ≤ 3 → length ds ≤ 3 → length (clock_text whole ds) ≤ 7
unfolding clock_text
clock-short whole [] h n = omega arith
clock-short whole (d ∷ ds) h n = rw length-append (omega arith)

numbers-short : (ns : List (List ℕ)) → T (every (λ (n : List ℕ). numeral n && leb (length n) 5) ns) → length (numbers_text ns) ≤ 6 * length ns
unfolding numbers_text every
numbers-short [] t = omega arith
numbers-short (n ∷ ns) t =
    let this = left (numeral n && leb (length n) 5) (every (λ (m : List ℕ). numeral m && leb (length m) 5) ns) t in
    rw length-append
    (omega (
      arith,
      leb→le (length n) 5 (right (numeral n) (leb (length n) 5) this),
      numbers-short ns (right (numeral n && leb (length n) 5) (every (λ (m : List ℕ). numeral m && leb (length m) 5) ns) t),
    ))

flags-short : (fs : List Flag) → T (each_once fs) → length (flags_text fs) ≤ 14
unfolding flags_text flag_text each_once ascii
flags-short [] t = omega arith
flags-short (f ∷ []) t = omega arith
flags-short (f ∷ g ∷ []) t = omega arith
flags-short (f ∷ g ∷ h ∷ fs) t = absurd t

-- a good line is short
pub good-short : (line : List ℕ) (mode : Mode) → Good line mode → length line ≤ 113
unfolding spelled header ascii
good-short line mode g =
    let p = g.parts in
    let f = g.formed in
    rw g.text
    (simp length-append
    (omega (
      arith,
      f.name-most,
      clock-short p.whole p.decimals (whole-short p f) f.decimals-most,
      numbers-short p.numbers f.numbers,
      f.count,
      flags-short p.flags f.flags,
    )))

-- one that is longer is not good
pub long-not-good : (line : List ℕ) → 113 < length line → (mode : Mode) → Good line mode → ⊥
long-not-good line h mode g = omega (arith, h, good-short line mode g)

-- what begins a good line is short too
begins-short : (bytes : List ℕ) → Begins Good bytes → length bytes ≤ 113
begins-short bytes b = omega (arith, good-short (bytes ++ b.rest) b.mode b.good, length-append bytes b.rest)

module _ (line : List ℕ) (place : ℕ) (h : 256 < length line) (b : BadAt Good (take 256 line) place) where
  first-long : length (take 256 line) ≡ 256
  first-long = length-take-le 256 line (omega (arith, h))

  place-early : place ≤ 113
  place-early = omega (arith, begins-short (take place (take 256 line)) b.begun, length-take-le place (take 256 line) b.within)

  -- a line of more than 256 bytes has the bad place of its first 256
  pub bad-by-first : BadAt Good line place
  bad-by-first =
      record {
        within = omega (arith, place-early, h);
        begun = subst (λ (s : List ℕ). Begins Good s) (take-take place 256 line (omega (arith, place-early))) b.begun;
        stopped = λ l begins.
            b.stopped (omega (arith, place-early, first-long))
            (subst (λ (s : List ℕ). Begins Good s) (sym (take-take (suc place) 256 line (omega (arith, place-early)))) begins);
        refused = long-not-good line (omega (arith, h));
      }

-- so what is told of its first 256 bytes is told of a line, however long it is
pub told-by-first : (line : List ℕ) (r : Result Mode ℕ) → Told (take 256 line) r → Told line r
told-by-first line r t =
    by-test (leb (length line) 256)
    (λ e. subst (λ (s : List ℕ). Told s r) (take_all 256 line (leb-true (length line) 256 e)) t)
    (λ e. long r (leb-false (length line) 256 e) t)
  where
    long : (r : Result Mode ℕ) → 256 < length line → Told (take 256 line) r → Told line r
    long (Ok mode) h s = absurd (long-not-good (take 256 line) (omega (arith, length-take-le 256 line (omega (arith, h)))) mode s.good)
    long (Err place) h s = bad-by-first line place h s
