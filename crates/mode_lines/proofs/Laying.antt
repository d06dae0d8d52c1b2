-- Bytes laid one behind the other in a buffer. Assumes nothing.
use Prim.Native.Nat.{ℕ, ◌+◌, ◌-◌, ◌≤◌, min}
use mathlib.Core.List.{List, [], ◌++◌, append_assoc, append-nil}
use mathlib.Core.Path.{◌≡◌, sym, ap, ap₂, ◌∙◌}
use native.Mathlib.Omega.{arith}
use borrow.Author.Tests.{leb-true, leb-false}
use lib.Dec.{leb}
use lib.ListN.{length, take, drop, length-append, length-take, length-drop, take-append-drop}
use lib.Seq.{length-take-le, take_all, take-append-add, take-append-le, drop-append-add, drop-drop, take_at, take-take, sets, sets-eq}
use Rattle.io.specs.Counts.{IsPrefixLen}
use Rattle.bits.proofs.Test.{by-test}
use Rattle.text.specs.Lent.{Wrote}
use Rattle.mode_lines.specs.Kept.{Kept, kept_text}

-- no more than a list has
take-least : (n : ℕ) (l : List ℕ) → take n l ≡ take (min n (length l)) l
take-least n l =
    by-test (leb n (length l))
    (λ e. let same : n ≡ min n (length l) = omega (arith, leb-true n (length l) e) in ap (λ (k : ℕ). take k l) same)
    (λ e. take_all n l (omega (arith, leb-false n (length l) e))
    ∙ sym (take_all (min n (length l)) l (omega (arith, leb-false n (length l) e))))

-- a cut list and one behind it, cut
pub take-over : (n : ℕ) (a b : List ℕ) → take n (take n a ++ b) ≡ take n (a ++ b)
take-over n a b =
    by-test (leb n (length a))
    (λ e. let h : n ≤ length a = leb-true n (length a) e in
    take-append-le n (take n a) b (omega (arith, length-take-le n a h))
    ∙ take-take n n a (omega arith)
    ∙ sym (take-append-le n a b h))
    (λ e. ap (λ (l : List ℕ). take n (l ++ b)) (take_all n a (omega (arith, leb-false n (length a) e))))

module _ (before : List ℕ) (count : ℕ) (bytes : List ℕ) where
  -- what is kept has room
  pub kept-room : length (kept_text before count bytes) ≤ length before
  unfolding kept_text
  kept-room = rw length-take (omega arith)

  module _ (at size : ℕ) (ea : at ≡ min count (length before)) (es : size ≡ min (length bytes) (length before - at)) where
    -- what the code lays, where it lays it
    pub laid : kept_text before count bytes ≡ take at before ++ take size bytes
    unfolding kept_text
    laid =
        let long : length (take at before) ≡ at = length-take-le at before (omega (arith, ea)) in
        ap (λ (l : List ℕ). take (length before) (l ++ bytes)) (take-least count before ∙ ap (λ (k : ℕ). take k before) (sym ea))
        ∙ ap (λ (k : ℕ). take k (take at before ++ bytes)) (let room : length before ≡ length (take at before) + (length before - at) = omega (arith, long, ea) in room)
        ∙ take-append-add (take at before) bytes (length before - at)
        ∙ ap (λ (l : List ℕ). take at before ++ l) (take-least (length before - at) bytes
        ∙ ap (λ (k : ℕ). take k bytes) (let same : min (length before - at) (length bytes) ≡ size = omega (arith, es) in same))

    pub laid-size : at + size ≡ length (kept_text before count bytes)
    laid-size =
        sym (ap length laid ∙ length-append (take at before) (take size bytes)
        ∙ ap₂ (λ (j k : ℕ). j + k) (length-take-le at before (omega (arith, ea))) (length-take-le size bytes (omega (arith, es))))

    -- stored byte by byte
    pub kept-stored : {after : List ℕ} → after ≡ sets before at (take size bytes) → Kept before count bytes after (at + size)
    kept-stored e =
        let long : length (take size bytes) ≡ size = length-take-le size bytes (omega (arith, es)) in
        record {
          size = laid-size;
          stored =
              e ∙ sets-eq (take size bytes) before at (omega (arith, long, ea, es))
              ∙ ap₂ (λ (l : List ℕ) (k : ℕ). l ++ drop k before) (sym laid) (ap (λ (k : ℕ). at + k) long);
        }

module _ {before : List ℕ} {count : ℕ} {a after : List ℕ} {r : ℕ} (w : Kept before count a after r) where
  -- the buffer is as long as before
  pub kept-length : length after ≡ length before
  kept-length =
      ap length w.stored ∙ length-append (kept_text before count a) (drop r before)
      ∙ omega (arith, w.size, length-drop r before, kept-room before count a)

  -- what stands at its start
  pub kept-start : take r after ≡ kept_text before count a
  kept-start = ap (take r) w.stored ∙ take_at (kept_text before count a) (drop r before) r (sym w.size)

  pub kept-counts : IsPrefixLen r after
  kept-counts =
      let h : r ≤ length after = omega (arith, kept-length, w.size, kept-room before count a) in
      (h, sym (length-take-le r after h))

  -- what is kept behind it ends no earlier
  later : {b end : List ℕ} {s : ℕ} → Kept after r b end s → r ≤ s
  unfolding kept_text
  later {b} v =
      omega (
        arith,
        v.size,
        length-take (length after) (take r after ++ b),
        length-append (take r after) b,
        kept-counts,
      )

  -- and more behind it is both, one behind the other
  pub kept_then : {b end : List ℕ} {s : ℕ} → Kept after r b end s → Kept before count (a ++ b) end s
  unfolding kept_text
  kept_then {b} {end} {s} v =
      let both : kept_text after r b ≡ kept_text before count (a ++ b) =
      ap₂ (λ (n : ℕ) (l : List ℕ). take n (l ++ b)) kept-length kept-start
      ∙ take-over (length before) (take count before ++ a) b
      ∙ ap (take (length before)) (append_assoc (take count before) a b) in
      record {
        size = v.size ∙ ap length both;
        stored =
            v.stored
            ∙ ap₂ (λ (l m : List ℕ). l ++ m) both
            (ap (drop s) w.stored
            ∙ ap (λ (k : ℕ). drop k (kept_text before count a ++ drop r before)) (let far : s ≡ length (kept_text before count a) + (s - r) = omega (arith, w.size, later v) in far)
            ∙ drop-append-add (kept_text before count a) (drop r before) (s - r)
            ∙ drop-drop (s - r) r before
            ∙ ap (λ (k : ℕ). drop k before) (let far : r + (s - r) ≡ s = omega (arith, later v) in far));
      }

-- nothing more
pub kept-none : (before : List ℕ) (count : ℕ) → count ≤ length before → Kept before count [] before count
unfolding kept_text
kept-none before count h =
    let all : take (length before) (take count before ++ []) ≡ take count before =
    ap (take (length before)) (append-nil (take count before)) ∙ take_all (length before) (take count before) (omega (arith, length-take-le count before h)) in
    record {
      size = sym (ap length all ∙ length-take-le count before h);
      stored = sym (ap (λ (l : List ℕ). l ++ drop count before) all ∙ take-append-drop count before);
    }

-- what has room is stored whole
pub kept_whole : (before : List ℕ) (count : ℕ) (text : List ℕ) {after : List ℕ} {r : ℕ} → count + length text ≤ length before → Kept before count text after r
    → Wrote before count text after r
unfolding kept_text
kept_whole before count text h w =
    let long : length (take count before ++ text) ≡ count + length text =
    length-append (take count before) text ∙ ap (λ (k : ℕ). k + length text) (length-take-le count before (omega (arith, h))) in
    let all : kept_text before count text ≡ take count before ++ text = take_all (length before) (take count before ++ text) (omega (arith, long, h)) in
    let end : _ ≡ count + length text = w.size ∙ ap length all ∙ long in
    record {
      bytes = w.stored ∙ ap₂ (λ (l : List ℕ) (k : ℕ). l ++ drop k before) all end ∙ sym (sets-eq text before count h);
      place = end;
    }
