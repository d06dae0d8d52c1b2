-- The entries of the palette or of the bank, appended one by one: a loop's turns, over any list of colours. Assumes nothing.
use Prim.Native.Nat.{ℕ, ◌+◌, ◌*◌, ◌≤◌, ◌<◌}
use mathlib.Core.Path.{◌≡◌, ap, ◌∙◌, subst}
use mathlib.Core.List.{List, [], ◌∷◌, ◌++◌}
use native.Mathlib.Numerals.{add-one}
use native.Mathlib.Omega.{arith}
use lib.ListN.{length, get_or, drop, drop_of_length-le}
use lib.Seq.{drop-cons}
use Rattle.file.specs.declared.palette.Colour.{Colour}
use Rattle.file.specs.File.{black}
use Rattle.access.specs.declared.record.Record.{Record}
use Rattle.plan.specs.Appended.{Appended}
use Rattle.roads.specs.Plan.{mmio_write, pixel, pixels, entries}
use Rattle.plan.proofs.Appending.{append-then, append-length, Left, less-left, room-left, none_left}

-- so many entries are appended: with the others, the buffer holds them all
pub record Turns (before : List ℕ) (at : ℕ) (cs : List Colour) (count : ℕ) (there : List ℕ) (here i : ℕ) : Type 0 where
  pub rest : Left before at (pixels cs) there here (pixels (drop i cs))
  pub few : i ≤ count

module _ {before : List ℕ} {at : ℕ} {cs : List Colour} {count : ℕ} {there : List ℕ} {here i : ℕ} (all : length cs ≡ count)
    (so : Turns before at cs count there here i) where
  -- the next entry's records, and the others'
  next : (d : Colour) → i < count → Left before at (pixels cs) there here (pixel (get_or cs i d) ++ pixels (drop (i + 1) cs))
  unfolding pixels
  next d h =
      subst (λ (rs : List Record). Left before at (pixels cs) there here rs) (ap pixels (drop-cons cs i d (omega arith)) ∙ rw add-one) so.rest

  -- a turn has room, if all entries had
  pub turn-room : {first : List ℕ} {start : ℕ} → i < count → Appended first start (mmio_write 0xA8 0 ∷ []) before at
      → start + 8 * length (entries 0 cs) ≤ length first → here + 24 ≤ length there
  unfolding pixel entries
  turn-room h v room =
      room-left (pixel (get_or cs i black)) (pixels (drop (i + 1) cs)) (next black h) (omega (arith, v.place, append-length v))

  pub turn : (d : Colour) {after : List ℕ} {p : ℕ} → i < count → Appended there here (pixel (get_or cs i d)) after p
      → Turns before at cs count after p (i + 1)
  turn d h v = record { rest = less-left (next d h) v; few = omega arith }

  -- after the last, behind the address
  pub turned : {first : List ℕ} {start : ℕ} → count ≤ i → Appended first start (mmio_write 0xA8 0 ∷ []) before at
      → Appended first start (entries 0 cs) there here
  unfolding entries pixels
  turned h v =
      append-then v
      (none_left (subst (λ (ds : List Colour). Left before at (pixels cs) there here (pixels ds)) (drop_of_length-le cs {i = i} (omega arith)) so.rest))
