-- Records appended to a buffer: one list behind another, a record's eight bytes, and a loop that appends what is left of a list.
-- Assumes nothing.
use Prim.Native.Nat.{ℕ, suc, ◌+◌, ◌*◌, ◌≤◌}
use mathlib.Core.Path.{◌≡◌, refl, sym, ap, ◌∙◌}
use mathlib.Core.List.{List, [], ◌∷◌, ◌++◌, append_assoc}
use native.Mathlib.Nat.{add-zero, add-suc, suc-add}
use native.Mathlib.Omega.{arith}
use borrow.Rule.Slice.PartMut.{put_mid}
use lib.ListN.{length, set, take, drop, length-append}
use lib.Seq.{sets, length-sets, sets-eq, drop-drop}
use Rattle.access.specs.declared.record.Record.{Record}
use Rattle.trace.specs.Records.{bytes_of}
use Rattle.plan.specs.Appended.{Appended}
use Rattle.roads.specs.Restores.{trace_of}

-- ---- bytes of records

pub trace-count : (rs : List Record) → length (trace_of rs) ≡ 8 * length rs
unfolding trace_of bytes_of
trace-count [] = refl
trace-count (r ∷ rs) = omega (arith, trace-count rs)

trace-append : (xs ys : List Record) → trace_of (xs ++ ys) ≡ trace_of xs ++ trace_of ys
unfolding trace_of
trace-append [] ys = refl
trace-append (x ∷ xs) ys = ap (λ (l : List ℕ). bytes_of x ++ l) (trace-append xs ys) ∙ sym (append_assoc (bytes_of x) (trace_of xs) (trace_of ys))

sets-append : (l : List ℕ) (at : ℕ) (a b : List ℕ) → sets l at (a ++ b) ≡ sets (sets l at a) (at + length a) b
sets-append l at [] b = rw add-zero
sets-append l at (x ∷ a) b = sets-append (set l at x) (suc at) a b ∙ rw (suc-add, add-suc)

-- records behind others, stored
stored-behind : (l : List ℕ) (at : ℕ) (xs ys : List Record)
    → sets (sets l at (trace_of xs)) (at + 8 * length xs) (trace_of ys) ≡ sets l at (trace_of (xs ++ ys))
stored-behind l at xs ys =
    sym (rw (trace-append xs ys) (sets-append l at (trace_of xs) (trace_of ys) ∙ rw (trace-count xs)))

-- ---- one list behind another

module _ {before : List ℕ} {at : ℕ} {xs ys : List Record} {middle after : List ℕ} {p q : ℕ} where
  pub append-then : Appended before at xs middle p → Appended middle p ys after q → Appended before at (xs ++ ys) after q
  append-then v w =
      record {
        bytes = cc (v.bytes, v.place, w.bytes, stored-behind before at xs ys);
        place = omega (arith, v.place, w.place, length-append xs ys);
      }

pub append-none : (l : List ℕ) (at : ℕ) → Appended l at [] l at
unfolding trace_of
append-none l at = record { bytes = refl; place = omega arith }

-- as many bytes as before
pub append-length : {before : List ℕ} {at : ℕ} {xs : List Record} {after : List ℕ} {p : ℕ} → Appended before at xs after p
    → length after ≡ length before
append-length {before} {at} {xs} v = ap length v.bytes ∙ length-sets before at (trace_of xs)

-- and room for more, if there was room for both
pub room-behind : {before : List ℕ} {at : ℕ} {xs : List Record} {after : List ℕ} {p : ℕ} (more : ℕ) → Appended before at xs after p
    → at + 8 * (length xs + more) ≤ length before → p + 8 * more ≤ length after
room-behind more v h = omega (arith, v.place, append-length v)

-- ---- one record

-- bytes copied into the place of as many
copied : (l : List ℕ) (at k : ℕ) (part bytes : List ℕ) → at + k ≤ length l → k ≡ length bytes → part ≡ bytes → put_mid at k l part ≡ sets l at bytes
copied l at k part bytes room e same =
    rw (same, e, drop-drop (length bytes) at l)
    (sym (append_assoc (take at l) bytes (drop (at + length bytes) l)) ∙ sym (sets-eq bytes l at (omega (arith, room, e))))

pub append-copied : (l : List ℕ) (at k : ℕ) (part : List ℕ) (r : Record) → at + 8 ≤ length l → k ≡ 8 → part ≡ bytes_of r
    → Appended l at (r ∷ []) (put_mid at k l part) (at + 8)
unfolding trace_of bytes_of
append-copied l at k part r room e same =
    record { bytes = copied l at k part (bytes_of r ++ []) (omega (arith, room, e)) e same; place = refl }

-- ---- a loop

-- the rest, appended to what is there, gives the whole
pub record Left (before : List ℕ) (at : ℕ) (all : List Record) (there : List ℕ) (here : ℕ) (rest : List Record) : Type 0 where
  pub bytes : sets there here (trace_of rest) ≡ sets before at (trace_of all)
  pub place : here + 8 * length rest ≡ at + 8 * length all
  pub size : length there ≡ length before

pub all_left : (before : List ℕ) (at : ℕ) (all : List Record) → Left before at all before at all
all_left before at all = record { bytes = refl; place = refl; size = refl }

module _ {before : List ℕ} {at : ℕ} {all : List Record} {there : List ℕ} {here : ℕ} where
  -- a turn appends the first of the rest
  pub less-left : {xs rest : List Record} {after : List ℕ} {p : ℕ} → Left before at all there here (xs ++ rest) → Appended there here xs after p
      → Left before at all after p rest
  less-left {xs} {rest} l v =
      record {
        bytes = cc (v.bytes, v.place, stored-behind there here xs rest, l.bytes);
        place = omega (arith, v.place, l.place, length-append xs rest);
        size = append-length v ∙ l.size;
      }

  -- and has room for it
  pub room-left : (xs rest : List Record) → Left before at all there here (xs ++ rest) → at + 8 * length all ≤ length before
      → here + 8 * length xs ≤ length there
  room-left xs rest l h = omega (arith, l.place, l.size, length-append xs rest)

  -- at the end
  pub none_left : Left before at all there here [] → Appended before at all there here
  unfolding trace_of
  none_left l = record { bytes = l.bytes; place = omega (arith, l.place) }
