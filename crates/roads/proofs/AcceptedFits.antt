-- An accepted record's fields fit their bytes, so that a plan's bytes are a trace of its records.
-- Assumes nothing.
use Prim.Native.Nat.{ℕ, zero, suc, ◌+◌, ◌^◌, ◌≤◌, ◌<◌}
use mathlib.Core.Path.{◌≡◌, refl, sym, ap₂, subst}
use mathlib.Core.Bool.{Bool, true, false, cond, not, ◌&&◌, ◌||◌}
use mathlib.Core.List.{List, [], ◌∷◌, ◌++◌, map}
use mathlib.Core.Option.{Option, none, some}
use native.Mathlib.Omega.{arith}
use borrow.Author.Tests.{eqb-true, eqb-false}
use lib.Dec.{T, eqb, leb, ltb, T_not, lt→ltb, ltb→lt, eqb→eq, leb→le, nltb→le, nleb→lt}
use lib.ListN.{length}
use Rattle.bits.proofs.Test.{left, right, both, by-test, either, neither, twice}
use Rattle.file.specs.declared.answer.Answer.{Answer}
use Rattle.file.specs.declared.registers.File.{File}
use Rattle.file.specs.Answers.{code_of}
use Rattle.access.specs.declared.record.Item.{Item}
use Rattle.access.specs.declared.record.Item.TheVariants.{Whole}
use Rattle.access.specs.declared.record.Record.{Record}
use Rattle.access.specs.Access.{answer_at, answer, access, access_item, place_of}
use Rattle.access.specs.Checks.{Check, is_write, is_passing, carries, checks, first_refusal, not_sound, bad_access, bad_passing, malformed, no_row, not_held}
use Rattle.places.specs.Lookup.{matches, row_at}
use Rattle.places.specs.Places.{Row, shared_places, own_places}
use Rattle.trace.specs.Records.{bytes_of, item_of, items}
use Rattle.trace.specs.Run.{answers}
use Rattle.places.proofs.Rows.{every, everywhere, Passes, row-passes}
use Rattle.trace.proofs.BytesAndRecords.{record-of-bytes}
use Rattle.roads.specs.Restores.{accepted, all_accepted, in_bytes, all_in_bytes, trace_of}

-- ---- what an accepted record passed

-- no check of a list refuses
unfoldable none_refuses : List Check → File → Record → Bool
none_refuses [] f r = true
none_refuses (c ∷ cs) f r = not (c.refuses f r) && none_refuses cs f r

-- no check of a list answers 'accepted'
unfoldable refusals : List Check → Bool
refusals [] = true
refusals (c ∷ cs) = not (accepted c.answer) && refusals cs

passed : (cs : List Check) (f : File) (r : Record) (otherwise : Answer) → T (refusals cs) → T (accepted (first_refusal cs f r otherwise))
    → T (none_refuses cs f r)
unfolding none_refuses refusals first_refusal
passed [] f r otherwise t a = tt
passed (c ∷ cs) f r otherwise t a =
    by-test (c.refuses f r)
    (λ e. absurd (T_not (accepted c.answer) (left (not (accepted c.answer)) (refusals cs) t) (rw e at a)))
    (λ e. rw e (passed cs f r otherwise (right (not (accepted c.answer)) (refusals cs) t) (rw e at a)))

all-passed : (f : File) (r : Record) → T (accepted (answer f r)) → T (none_refuses checks f r)
unfolding answer checks refusals accepted code_of
all-passed f r a = passed checks f r (answer_at (carries r) f (place_of f r)) tt a

-- a record that is found has an address of two bytes
short-address : (f : File) (r : Record) → T (not (not_held f r)) → r.address < 65536
unfolding not_held no_row matches everywhere every shared_places own_places
short-address f r t = at_row (row_at f r.kind r.address) t (row-passes f r.kind r.address (λ (row : Row). ltb row.address 65536) tt)
  where
    at_row : (o : Option Row) → T (not (no_row o)) → Passes (λ (row : Row). ltb row.address 65536 && matches f r.kind r.address row) o → r.address < 65536
    at_row none n p = absurd n
    at_row (some row) n p =
        subst (λ (a : ℕ). a < 65536) (sym (eqb→eq r.address row.address (search (left, right))))
        (ltb→lt row.address 65536 (search left))

-- nor a value of more than two
short-value : (write : Bool) (width value : ℕ) → width ≤ 2 → T (not (cond write (leb (256 ^ width) value) (not (eqb value 0)))) → value < 65536
short-value true zero value h t = omega (arith, nleb→lt 1 value t)
short-value true (suc zero) value h t = omega (arith, nleb→lt 256 value t)
short-value true (suc (suc zero)) value h t = nleb→lt 65536 value t
short-value true (suc (suc (suc width))) value h t = omega arith
short-value false width value h t = omega (arith, eqb→eq value 0 (twice (eqb value 0) t))

narrow : (width : ℕ) → T (eqb width 1 || eqb width 2) → width ≤ 2
narrow width t =
    by-test (eqb width 1) (λ e. omega (arith, eqb-true width 1 e))
    (λ e. omega (arith, eqb→eq width 2 (either (eqb width 1) (eqb width 2) t (λ s. eqb-false width 1 e (eqb→eq width 1 s)))))

-- the two fields that a good form bounds
abbrev Short : Record → Type 0
Short r = (r.width ≤ 2) × (r.value < 65536)

access-short : (r : Record) → T (not (bad_access r)) → Short r
unfolding bad_access
access-short r t =
    let form = neither (not (eqb r.width 1 || eqb r.width 2)) (cond (is_write r) (leb (256 ^ r.width) r.value) (not (eqb r.value 0))) t in
    let width : r.width ≤ 2 = narrow r.width (twice (eqb r.width 1 || eqb r.width 2) form.0) in
    (width, short-value (is_write r) r.width r.value width form.1)

passing-short : (r : Record) → T (not (bad_passing r)) → Short r
unfolding bad_passing
passing-short r t =
    let form = twice (eqb r.width 2 && eqb r.address 0 && leb 1 r.value && leb r.value 65535) t in
    (omega (arith, eqb→eq r.width 2 (search (left, right))), omega (arith, leb→le r.value 65535 (search right)))

-- so an accepted record's fields fit their bytes
accepted-fits : (f : File) (r : Record) → T (accepted (answer f r)) → T (in_bytes r)
unfolding none_refuses checks in_bytes malformed
accepted-fits f r a =
    both (ltb r.kind 256 && ltb r.width 256 && ltb r.address 65536) (ltb r.value (2 ^ 32))
    (both (ltb r.kind 256 && ltb r.width 256) (ltb r.address 65536)
    (both (ltb r.kind 256) (ltb r.width 256) (lt→ltb r.kind 256 (omega (arith, nltb→le 6 r.kind form.0))) (lt→ltb r.width 256 (omega (arith, short.0))))
    (lt→ltb r.address 65536 (short-address f r (search (left, right, all-passed f r a)))))
    (lt→ltb r.value (2 ^ 32) (omega (arith, short.1)))
  where
    form : T (not (ltb 6 r.kind)) × T (not (cond (is_passing r) (bad_passing r) (bad_access r)))
    form =
        neither (ltb 6 r.kind) (cond (is_passing r) (bad_passing r) (bad_access r))
        (left (not (malformed f r)) _ (right (not (not_sound f r)) _ (all-passed f r a)))

    short : Short r
    short = by-test (is_passing r) (λ e. passing-short r (rw e at form.1)) (λ e. access-short r (rw e at form.1))

-- and so do those of every record of an accepted run
pub run_fits : (rs : List Record) (f : File) → T (all_accepted (answers f (map Whole rs))) → T (all_in_bytes rs)
unfolding all_accepted all_in_bytes answers access_item access
run_fits [] f t = tt
run_fits (r ∷ rs) f t =
    both (in_bytes r) (all_in_bytes rs)
    (accepted-fits f r (left (accepted (answer f r)) (all_accepted (answers (access f r).file (map Whole rs))) t))
    (run_fits rs (access f r).file (right (accepted (answer f r)) (all_accepted (answers (access f r).file (map Whole rs))) t))

-- ---- bytes and records

-- a trace of records is read as those records, whatever stands behind it
pub trace-items : (rs : List Record) (rest : List ℕ) → items (length rs) (trace_of rs ++ rest) ≡ map Whole rs
unfolding items item_of trace_of bytes_of
trace-items [] rest = refl
trace-items (r ∷ rs) rest = ap₂ (λ (x : Record) (is : List Item). Whole x ∷ is) (record-of-bytes r) (trace-items rs rest)
