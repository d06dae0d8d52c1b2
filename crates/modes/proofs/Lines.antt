-- The form that the readers read is 02's: `LineL` is `Good`. Assumes nothing.
use Prim.Native.Nat.{ℕ, zero, suc, ◌-◌, ◌*◌, ◌^◌, ◌≤◌, ◌<◌}
use mathlib.Core.Bool.{Bool, true, false, ◌&&◌}
use mathlib.Core.List.{List, [], ◌∷◌, ◌++◌, map, append_assoc, append-nil}
use mathlib.Core.Logic.{inl, inr, ⊎_elim}
use mathlib.Core.Path.{◌≡◌, refl, sym, ap, ◌∙◌, subst}
use native.Mathlib.Nat.{mul-pos, zero-mul, one-le-pow}
use native.Mathlib.Omega.{arith}
use borrow.Author.Tests.{ltb-true, ltb-false, leb-true, leb-false, eqb-false, ne_eqb}
use lib.Dec.{T, eqb, leb, ltb, ltb→lt, lt→ltb, leb→le, le→leb}
use lib.ListN.{length}
use Rattle.bits.proofs.Test.{by-test, left, right, both}
use Rattle.modes.specs.declared.mode.Mode.{Mode}
use Rattle.modes.specs.Form.{Flag, every, digit, numeral, value_from, value_of, kilohertz, each_once, clock_text, numbers_text, flags_text, header, spelled, mode_of, Good}
use Rattle.modes.specs.Scan.{name_runner, Digits, digit_runner, decimal_runner, unflagged, read_line}
use Rattle.modes.proofs.Readers.{RightAt, recast, LitL, after}
use Rattle.modes.proofs.Forms.{NumbersL, enough, DecimalsL, FirstL, behind_by, BehindL, ClockL, LineL, right-line}
use Rattle.modes.proofs.Tokens.{name-walked, name-walks, name-after, at, Token, token-of, Walks, token-walks, decimals-walked, decimals-walk, decimals-after, value-append, value-below, value-small, value-large, numeral-digits}
use Rattle.modes.proofs.FlagsForm.{flags-to, flags-back, saying, flags-say}

abbrev is_token : List ℕ → Bool
is_token n = numeral n && leb (length n) 5

-- so many numbers more, and the flags
pub record Tail (more name khz : ℕ) (numbers : List ℕ) (s : List ℕ) (o : Mode) : Type 0 where
  pub tokens : List (List ℕ)
  pub flags : List Flag
  pub count : length tokens ≡ more
  pub formed : T (every is_token tokens)
  pub once : T (each_once flags)
  pub text : s ≡ numbers_text tokens ++ flags_text flags
  pub says : o ≡ saying name khz (numbers ++ map value_of tokens) flags

numbers-to : (more name khz : ℕ) (numbers s : List ℕ) (o : Mode) → NumbersL more name khz numbers s o → Tail more name khz numbers s o
unfolding NumbersL numbers_text every
numbers-to zero name khz numbers s o x =
    let f = flags-to (unflagged name khz numbers) s o x in
    record {
      tokens = [];
      flags = f.flags;
      count = refl;
      formed = tt;
      once = f.passed;
      text = f.text;
      says =
          f.says ∙ flags-say name khz numbers f.flags f.passed
          ∙ ap (λ (ns : List ℕ). saying name khz ns f.flags) (sym (append-nil numbers));
    }
numbers-to (suc more) name khz numbers s o x =
    let r = x.then in
    let t : Token 5 r.bytes = token-of 5 r.bytes r.walked r.then.0 in
    let v : (after digit_runner (at 5 0) r.bytes).value ≡ value_of r.bytes = (token-walks 5 r.bytes t).value in
    let i = numbers-to more name khz (numbers ++ (after digit_runner (at 5 0) r.bytes).value ∷ []) r.rest o r.then.1 in
    record {
      tokens = r.bytes ∷ i.tokens;
      flags = i.flags;
      count = ap suc i.count;
      formed = both (is_token r.bytes) (every is_token i.tokens) (both (numeral r.bytes) (leb (length r.bytes) 5) t.numbered (le→leb (length r.bytes) 5 t.short)) i.formed;
      once = i.once;
      text =
          x.text ∙ ap (λ (u : List ℕ). 0x20 ∷ u) (r.text ∙ ap (λ (u : List ℕ). r.bytes ++ u) i.text)
          ∙ ap (λ (u : List ℕ). 0x20 ∷ u) (sym (append_assoc r.bytes (numbers_text i.tokens) (flags_text i.flags)));
      says =
          i.says ∙ ap (λ (ns : List ℕ). saying name khz ns i.flags)
          (append_assoc numbers ((after digit_runner (at 5 0) r.bytes).value ∷ []) (map value_of i.tokens)
          ∙ ap (λ (n : ℕ). numbers ++ n ∷ map value_of i.tokens) v);
    }

numbers-from : (tokens : List (List ℕ)) (fs : List Flag) (name khz : ℕ) (numbers s : List ℕ) (o : Mode) → T (every is_token tokens) → T (each_once fs)
    → s ≡ numbers_text tokens ++ flags_text fs → o ≡ saying name khz (numbers ++ map value_of tokens) fs → NumbersL (length tokens) name khz numbers s o
unfolding NumbersL numbers_text every
numbers-from [] fs name khz numbers s o t once e h =
    flags-back (unflagged name khz numbers) s o
    (record {
      flags = fs;
      passed = once;
      text = e;
      says = h ∙ ap (λ (ns : List ℕ). saying name khz ns fs) (append-nil numbers) ∙ sym (flags-say name khz numbers fs once);
    })
numbers-from (n ∷ ns) fs name khz numbers s o t once e h =
    let is : T (is_token n) = left (is_token n) (every is_token ns) t in
    let w : Walks 5 n =
    token-walks 5 n
    (record { numbered = left (numeral n) (leb (length n) 5) is; short = leb→le (length n) 5 (right (numeral n) (leb (length n) 5) is) }) in
    record {
      rest = n ++ (numbers_text ns ++ flags_text fs);
      text = e ∙ ap (λ (u : List ℕ). 0x20 ∷ u) (append_assoc n (numbers_text ns) (flags_text fs));
      then =
          record {
            bytes = n;
            rest = numbers_text ns ++ flags_text fs;
            walked = w.walked;
            text = refl;
            then = (
              lt→ltb _ 5 w.begun,
              numbers-from ns fs name khz (numbers ++ (after digit_runner (at 5 0) n).value ∷ []) (numbers_text ns ++ flags_text fs) o
                  (right (is_token n) (every is_token ns) t) once refl
                  (h ∙ ap (λ (xs : List ℕ). saying name khz xs fs)
                  (ap (λ (v : ℕ). numbers ++ v ∷ map value_of ns) (sym w.value)
                  ∙ sym (append_assoc numbers ((after digit_runner (at 5 0) n).value ∷ []) (map value_of ns)))),
            );
          };
    }

-- the clock, and what stands behind it
pub record ClockThen (name : ℕ) (s : List ℕ) (o : Mode) : Type 0 where
  pub whole : List ℕ
  pub decimals : List ℕ
  pub rest : List ℕ
  pub numbered : T (numeral whole)
  pub digits : T (every digit decimals)
  pub short : length decimals ≤ 3
  pub least : 1 ≤ kilohertz whole decimals
  pub most : kilohertz whole decimals ≤ 999999
  pub text : s ≡ clock_text whole decimals ++ rest
  pub then : NumbersL 8 name (kilohertz whole decimals) [] rest o

-- kilohertz by the value of the digits before the point
khz-from : (whole decimals : List ℕ) → kilohertz whole decimals ≡ value_from (value_of whole) decimals * 10 ^ (3 - length decimals)
unfolding kilohertz value_of
khz-from whole decimals = ap (λ (v : ℕ). v * 10 ^ (3 - length decimals)) (value-append 0 whole decimals)

-- below 1000 MHz they are below a million
below-million : (w : ℕ) (ds : List ℕ) → T (every digit ds) → length ds ≤ 3 → w ≤ 999 → value_from w ds * 10 ^ (3 - length ds) ≤ 999999
below-million w [] t n h = omega (arith, value-below w 1000 [] t (omega arith))
below-million w (a ∷ []) t n h = omega (arith, value-below w 1000 (a ∷ []) t (omega arith))
below-million w (a ∷ b ∷ []) t n h = omega (arith, value-below w 1000 (a ∷ b ∷ []) t (omega arith))
below-million w (a ∷ b ∷ c ∷ []) t n h = omega (arith, value-below w 1000 (a ∷ b ∷ c ∷ []) t (omega arith))
below-million w (a ∷ b ∷ c ∷ d ∷ ds) t n h = absurd (omega (arith, n))

-- each MHz is 1000
thousands : (w : ℕ) (ds : List ℕ) → length ds ≤ 3 → 1000 * w ≤ value_from w ds * 10 ^ (3 - length ds)
unfolding value_from
thousands w [] n = omega arith
thousands w (a ∷ []) n = omega arith
thousands w (a ∷ b ∷ []) n = omega arith
thousands w (a ∷ b ∷ c ∷ []) n = omega arith
thousands w (a ∷ b ∷ c ∷ d ∷ ds) n = absurd (omega (arith, n))

-- a product is more than 0 where its first factor is, times a power of ten, and only there
some-times : (v k : ℕ) → 0 < v → 0 < v * 10 ^ k
some-times v k h = mul-pos h (one-le-pow k 10 (omega arith))

times-some : (v k : ℕ) → 0 < v * k → 0 < v
times-some zero k h = absurd (subst (λ (x : ℕ). 0 < x → ⊥) (sym (zero-mul k)) (λ l. omega (arith, l)) h)
times-some (suc v) k h = omega arith

point-text : (whole ds : List ℕ) → 0 < length ds → clock_text whole ds ≡ whole ++ 0x2E ∷ ds
unfolding clock_text
point-text whole [] h = absurd (omega (arith, h))
point-text whole (d ∷ ds) h = refl

module _ (name : ℕ) (whole r : List ℕ) (o : Mode) (t : Token 3 whole) where
  whole-small : value_of whole ≤ 999
  whole-small = value-small whole (numeral-digits whole t.numbered) t.short

  -- with decimals
  decimals-to : LitL (0x2E ∷ []) (DecimalsL name (value_of whole)) r o → ClockThen name (whole ++ r) o
  decimals-to x =
      let d = x.then in
      let w = decimals-walked 3 (value_of whole) d.bytes d.walked in
      let end : after decimal_runner (at 3 (value_of whole)) d.bytes ≡ at (3 - length d.bytes) (value_from (value_of whole) d.bytes) =
      decimals-after 3 (value_of whole) d.bytes in
      let passed : T (enough (at (3 - length d.bytes) (value_from (value_of whole) d.bytes))) =
      subst (λ (q : Digits). T (enough q)) end d.then.0 in
      let begun : 3 - length d.bytes < 3 = ltb→lt _ 3 (left (ltb (3 - length d.bytes) 3) (ltb 0 (value_from (value_of whole) d.bytes)) passed) in
      let value : 0 < value_from (value_of whole) d.bytes =
      ltb→lt 0 _ (right (ltb (3 - length d.bytes) 3) (ltb 0 (value_from (value_of whole) d.bytes)) passed) in
      record {
        whole = whole;
        decimals = d.bytes;
        rest = d.rest;
        numbered = t.numbered;
        digits = w.0;
        short = w.1;
        least = rw (khz-from whole d.bytes) (some-times (value_from (value_of whole) d.bytes) (3 - length d.bytes) value);
        most = rw (khz-from whole d.bytes) (below-million (value_of whole) d.bytes w.0 w.1 whole-small);
        text =
            ap (λ (u : List ℕ). whole ++ u) (x.text ∙ ap (λ (u : List ℕ). 0x2E ∷ u) d.text)
            ∙ sym (append_assoc whole (0x2E ∷ d.bytes) d.rest)
            ∙ ap (λ (u : List ℕ). u ++ d.rest) (sym (point-text whole d.bytes (omega (arith, begun))));
        then =
            subst (λ (k : ℕ). NumbersL 8 name k [] d.rest o) (sym (khz-from whole d.bytes))
            (subst (λ (q : Digits). NumbersL 8 name (q.value * 10 ^ q.left) [] d.rest o) end d.then.1);
      }

  -- with none
  plain-to : 0 < value_of whole → LitL (0x20 ∷ []) (FirstL name (value_of whole * 1000)) r o → ClockThen name (whole ++ r) o
  unfolding clock_text NumbersL every value_from
  plain-to h x =
      record {
        whole = whole;
        decimals = [];
        rest = r;
        numbered = t.numbered;
        digits = tt;
        short = omega arith;
        least = rw (khz-from whole []) (some-times (value_of whole) 3 h);
        most = rw (khz-from whole []) (below-million (value_of whole) [] tt (omega arith) whole-small);
        text = refl;
        then = subst (λ (k : ℕ). NumbersL 8 name k [] r o) (sym (khz-from whole [])) x;
      }

  behind-to : (b : Bool) → eqb (value_of whole) 0 ≡ b → behind_by b name (value_of whole) r o → ClockThen name (whole ++ r) o
  behind-to true e x = decimals-to x
  behind-to false e x =
      ⊎_elim decimals-to (plain-to (let n : value_of whole ≡ 0 → ⊥ = eqb-false (value_of whole) 0 e in omega (arith, n))) x

clock-to : (name : ℕ) (s : List ℕ) (o : Mode) → ClockL name s o → ClockThen name s o
clock-to name s o x =
    let t : Token 3 x.bytes = token-of 3 x.bytes x.walked x.then.0 in
    subst (λ (u : List ℕ). ClockThen name u o) (sym x.text)
    (behind-to name x.bytes x.rest o t (eqb (value_of x.bytes) 0) refl
    (subst (λ (v : ℕ). BehindL name v x.rest o) (token-walks 3 x.bytes t).value x.then.1))

-- and back
module _ (name : ℕ) (s : List ℕ) (o : Mode) (c : ClockThen name s o) where
  whole-short : length c.whole ≤ 3
  whole-short =
      by-test (leb (length c.whole) 3) (leb-true (length c.whole) 3)
      (λ n. absurd (omega (
        arith,
        value-large c.whole c.numbered (leb-false (length c.whole) 3 n),
        thousands (value_of c.whole) c.decimals c.short,
        khz-from c.whole c.decimals,
        c.most,
      )))

  whole_walks : Walks 3 c.whole
  whole_walks = token-walks 3 c.whole (record { numbered = c.numbered; short = whole-short })

  value-some : 0 < value_from (value_of c.whole) c.decimals
  value-some =
      times-some (value_from (value_of c.whole) c.decimals) (10 ^ (3 - length c.decimals))
      (subst (λ (k : ℕ). 0 < k) (khz-from c.whole c.decimals) c.least)

  from-behind : (r : List ℕ) → s ≡ c.whole ++ r → BehindL name (value_of c.whole) r o → ClockL name s o
  from-behind r e x =
      record {
        bytes = c.whole;
        rest = r;
        walked = whole_walks.walked;
        text = e;
        then = (lt→ltb _ 3 whole_walks.begun, subst (λ (v : ℕ). BehindL name v r o) (sym whole_walks.value) x);
      }

  -- the decimals, where there are some
  decimals-from : 0 < length c.decimals → LitL (0x2E ∷ []) (DecimalsL name (value_of c.whole)) (0x2E ∷ c.decimals ++ c.rest) o
  decimals-from h =
      let end : after decimal_runner (at 3 (value_of c.whole)) c.decimals ≡ at (3 - length c.decimals) (value_from (value_of c.whole) c.decimals) =
      decimals-after 3 (value_of c.whole) c.decimals in
      record {
        rest = c.decimals ++ c.rest;
        text = refl;
        then =
            record {
              bytes = c.decimals;
              rest = c.rest;
              walked = decimals-walk 3 (value_of c.whole) c.decimals c.digits c.short value-some;
              text = refl;
              then = (
                subst (λ (q : Digits). T (enough q)) (sym end)
                    (both (ltb (3 - length c.decimals) 3) (ltb 0 (value_from (value_of c.whole) c.decimals))
                    (lt→ltb (3 - length c.decimals) 3 (omega (arith, h))) (lt→ltb 0 _ value-some)),
                subst (λ (q : Digits). NumbersL 8 name (q.value * 10 ^ q.left) [] c.rest o) (sym end)
                    (subst (λ (k : ℕ). NumbersL 8 name k [] c.rest o) (khz-from c.whole c.decimals) c.then),
              );
            };
      }

  by-point : (b : Bool) → LitL (0x2E ∷ []) (DecimalsL name (value_of c.whole)) (0x2E ∷ c.decimals ++ c.rest) o
      → behind_by b name (value_of c.whole) (0x2E ∷ c.decimals ++ c.rest) o
  by-point true x = x
  by-point false x = inl x

  with-point : 0 < length c.decimals → ClockL name s o
  with-point h =
      from-behind (0x2E ∷ c.decimals ++ c.rest)
      (c.text ∙ ap (λ (u : List ℕ). u ++ c.rest) (point-text c.whole c.decimals h) ∙ append_assoc c.whole (0x2E ∷ c.decimals) c.rest)
      (by-point (eqb (value_of c.whole) 0) (decimals-from h))

  -- none
  with_none : (ds : List ℕ) → c.decimals ≡ ds → length ds ≡ 0 → ClockL name s o
  unfolding clock_text NumbersL value_from
  with_none [] e n =
      from-behind c.rest (c.text ∙ ap (λ (ds : List ℕ). clock_text c.whole ds ++ c.rest) e)
      (subst (λ (b : Bool). behind_by b name (value_of c.whole) c.rest o)
      (sym (ne_eqb (value_of c.whole) 0 (λ z. omega (arith, z, subst (λ (ds : List ℕ). 0 < value_from (value_of c.whole) ds) e value-some))))
      (inr (subst (λ (k : ℕ). NumbersL 8 name k [] c.rest o)
      (ap (λ (ds : List ℕ). kilohertz c.whole ds) e ∙ khz-from c.whole []) c.then)))
  with_none (d ∷ ds) e n = absurd (omega (arith, n))

  clock-back : ClockL name s o
  clock-back =
      by-test (ltb 0 (length c.decimals)) (λ e. with-point (ltb-true 0 (length c.decimals) e))
      (λ e. with_none c.decimals refl (omega (arith, ltb-false 0 (length c.decimals) e)))

-- the whole line
line-text : (name clock numbers : List ℕ) → (name ++ 0x22 ∷ 0x20 ∷ clock) ++ numbers ≡ name ++ 0x22 ∷ 0x20 ∷ (clock ++ numbers)
line-text name clock numbers = append_assoc name (0x22 ∷ 0x20 ∷ clock) numbers

line-to : (s : List ℕ) (o : Mode) → LineL s o → Good s o
unfolding spelled mode_of saying
line-to s o x =
    let n = x.then in
    let q = n.then.1 in
    let c = clock-to (after name_runner 0 n.bytes) q.rest o q.then in
    let t = numbers-to 8 (after name_runner 0 n.bytes) (kilohertz c.whole c.decimals) [] c.rest o c.then in
    let w = name-walked 0 n.bytes (omega arith) n.walked in
    let size : after name_runner 0 n.bytes ≡ length n.bytes = name-after 0 n.bytes ∙ omega arith in
    record {
      parts = record { name = n.bytes; whole = c.whole; decimals = c.decimals; numbers = t.tokens; flags = t.flags };
      formed =
          record {
            named = w.0;
            name-least = subst (λ (k : ℕ). 0 < k) size (ltb→lt 0 (after name_runner 0 n.bytes) n.then.0);
            name-most = omega (arith, w.1);
            whole = c.numbered;
            decimals = c.digits;
            decimals-most = c.short;
            clock-least = c.least;
            clock-most = c.most;
            count = t.count;
            numbers = t.formed;
            flags = t.once;
          };
      text =
          x.text ∙ ap (λ (u : List ℕ). header ++ u)
          (n.text ∙ ap (λ (u : List ℕ). n.bytes ++ u) (q.text ∙ ap (λ (u : List ℕ). 0x22 ∷ 0x20 ∷ u) (c.text ∙ ap (λ (u : List ℕ). clock_text c.whole c.decimals ++ u) t.text))
          ∙ sym (line-text n.bytes (clock_text c.whole c.decimals) (numbers_text t.tokens ++ flags_text t.flags)));
      says = t.says ∙ ap (λ (k : ℕ). saying k (kilohertz c.whole c.decimals) (map value_of t.tokens) t.flags) size;
    }

line-back : (s : List ℕ) (o : Mode) → Good s o → LineL s o
unfolding spelled mode_of saying
line-back s o g =
    let p = g.parts in
    let f = g.formed in
    let size : after name_runner 0 p.name ≡ length p.name = name-after 0 p.name ∙ omega arith in
    let tail : NumbersL 8 (length p.name) (kilohertz p.whole p.decimals) [] (numbers_text p.numbers ++ flags_text p.flags) o =
    subst (λ (k : ℕ). NumbersL k (length p.name) (kilohertz p.whole p.decimals) [] (numbers_text p.numbers ++ flags_text p.flags) o) f.count
    (numbers-from p.numbers p.flags (length p.name) (kilohertz p.whole p.decimals) [] (numbers_text p.numbers ++ flags_text p.flags) o f.numbers f.flags refl g.says) in
    let clock : ClockL (length p.name) (clock_text p.whole p.decimals ++ (numbers_text p.numbers ++ flags_text p.flags)) o =
    clock-back (length p.name) (clock_text p.whole p.decimals ++ (numbers_text p.numbers ++ flags_text p.flags)) o
    (record {
      whole = p.whole;
      decimals = p.decimals;
      rest = numbers_text p.numbers ++ flags_text p.flags;
      numbered = f.whole;
      digits = f.decimals;
      short = f.decimals-most;
      least = f.clock-least;
      most = f.clock-most;
      text = refl;
      then = tail;
    }) in
    record {
      rest = p.name ++ 0x22 ∷ 0x20 ∷ (clock_text p.whole p.decimals ++ (numbers_text p.numbers ++ flags_text p.flags));
      text = g.text ∙ ap (λ (u : List ℕ). header ++ u) (line-text p.name (clock_text p.whole p.decimals) (numbers_text p.numbers ++ flags_text p.flags));
      then =
          record {
            bytes = p.name;
            rest = 0x22 ∷ 0x20 ∷ (clock_text p.whole p.decimals ++ (numbers_text p.numbers ++ flags_text p.flags));
            walked = name-walks 0 p.name f.named (omega (arith, f.name-most));
            text = refl;
            then = (
              lt→ltb 0 _ (subst (λ (k : ℕ). 0 < k) (sym size) f.name-least),
              record {
                rest = clock_text p.whole p.decimals ++ (numbers_text p.numbers ++ flags_text p.flags);
                text = refl;
                then = subst (λ (k : ℕ). ClockL k (clock_text p.whole p.decimals ++ (numbers_text p.numbers ++ flags_text p.flags)) o) (sym size) clock;
              },
            );
          };
    }

-- the reader is right for 02's form: what it accepts is good and says just that, and where it stops is the bad place
pub reads-good : (line : List ℕ) → RightAt (read_line line) Good line
reads-good line = recast Good LineL line-to line-back (read_line line) line (right-line line)
