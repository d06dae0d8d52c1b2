-- 02, 3/13: the same access by either road of a pair gives the same code, value and file. Assumes nothing.
use Prim.Native.Nat.{ℕ, ◌%◌}
use mathlib.Core.Path.{◌≡◌, refl, sym, ◌∙◌}
use mathlib.Core.Bool.{Bool, true, false, not, ◌&&◌}
use mathlib.Core.List.{Memᴰ}
use mathlib.Core.Option.{Option, none, some}
use borrow.Author.Tests.{not-true}
use lib.Dec.{T, eqb, ltb, eqb→eq}
use Rattle.bits.specs.Store.{bit}
use Rattle.bits.proofs.Test.{left, right, is_true}
use Rattle.file.specs.declared.registers.File.{File}
use Rattle.file.specs.File.{register}
use Rattle.file.specs.Names.{PCI04}
use Rattle.places.specs.Lookup.{row_at, place_of_row, place_at}
use Rattle.places.specs.Places.{Row}
use Rattle.places.proofs.SamePlace.{same_place}
use Rattle.access.specs.declared.record.Record.{Record}
use Rattle.access.specs.Access.{place_of}
use Rattle.access.specs.Checks.{is_write, is_passing, carries, is_port, is_mmio, checks, not_sound, bad_access, malformed, space_off, no_row, not_held, other_direction, inside_wider, of_other_half, other_width, wrong_width}
use Rattle.two_roads.specs.Pairs.{Space, config, ports, mmio, Pair, Half, pairs}
use Rattle.two_roads.specs.Agree.{kind_of, record_by, space_on, Ready, Agree}
use Rattle.two_roads.proofs.AlikeChecked.{judged-agree}
use Rattle.two_roads.proofs.PairsListed.{same_row, meets, ready-meets}

-- a road's record is an ordinary access, of the direction asked for
pub record GoodKind (space : Space) (write : Bool) : Type 0 where
  pub known : ltb 6 (kind_of space write) ≡ false
  pub access : eqb (kind_of space write) 6 ≡ false
  pub direction : eqb (kind_of space write % 2) 1 ≡ write

good-kind : (space : Space) (write : Bool) → GoodKind space write
unfolding kind_of
good-kind config true = record { known = refl; access = refl; direction = refl }
good-kind config false = record { known = refl; access = refl; direction = refl }
good-kind ports true = record { known = refl; access = refl; direction = refl }
good-kind ports false = record { known = refl; access = refl; direction = refl }
good-kind mmio true = record { known = refl; access = refl; direction = refl }
good-kind mmio false = record { known = refl; access = refl; direction = refl }

-- a space that is on refuses no record of it
space-on : (f : File) (space : Space) (write : Bool) (width address value : ℕ) → T (space_on f space)
    → space_off f (record { kind = kind_of space write; width = width; address = address; value = value }) ≡ false
unfolding space_off space_on is_port is_mmio kind_of
space-on f config true width address value t = refl
space-on f config false width address value t = refl
space-on f ports true width address value t = rw (eqb→eq (bit 0 (register f PCI04)) 1 t) refl
space-on f ports false width address value t = rw (eqb→eq (bit 0 (register f PCI04)) 1 t) refl
space-on f mmio true width address value t = rw (eqb→eq (bit 1 (register f PCI04)) 1 t) refl
space-on f mmio false width address value t = rw (eqb→eq (bit 1 (register f PCI04)) 1 t) refl

-- an access by two roads that meet in a file with their spaces on
module _ (f : File) (p : Pair) (write : Bool) (width value : ℕ) (on : T (space_on f p.from.space && space_on f p.to.space)) (met : T (meets f write p)) where
  abbrev From : Record
  From = record_by p.from write width value

  abbrev To : Record
  To = record_by p.to write width value

  from : GoodKind p.from.space write
  from = good-kind p.from.space write

  to : GoodKind p.to.space write
  to = good-kind p.to.space write

  direction : is_write From ≡ is_write To
  unfolding is_write
  direction = from.direction ∙ sym to.direction

  brings : carries From ≡ carries To
  unfolding carries is_passing
  brings = rw (direction, from.access, to.access)

  form : malformed f From ≡ malformed f To
  unfolding malformed is_passing bad_access
  form = rw (from.known, to.known, from.access, to.access, direction)

  space : space_off f From ≡ space_off f To
  space =
      space-on f p.from.space write width From.address value (left (space_on f p.from.space) (space_on f p.to.space) on)
      ∙ sym (space-on f p.to.space write width To.address value (right (space_on f p.from.space) (space_on f p.to.space) on))

  half : of_other_half f From ≡ of_other_half f To
  unfolding meets of_other_half is_port
  half =
      not-true (of_other_half f From) (is_true (not (of_other_half f From)) (search (left, right)))
      ∙ sym (not-true (of_other_half f To) (is_true (not (of_other_half f To)) (search (left, right))))

  by_rows : (a b : Option Row) → row_at f From.kind From.address ≡ a → row_at f To.kind To.address ≡ b → T (same_row a b) → Agree f From To
  unfolding same_row checks not_sound not_held other_direction inside_wider no_row wrong_width other_width place_of place_at place_of_row
  by_rows none b d e t = absurd t
  by_rows (some a) none d e t = absurd t
  by_rows (some a) (some b) d e t =
      judged-agree f From To (refl, (form, (space, (rw (d, e), (rw (d, e), (held, (half, (wide, tt)))))))) brings (rw (d, e, one_place)) refl
    where
      one_width : a.width ≡ b.width
      one_width = eqb→eq a.width b.width (search left)

      one_place : a.place ≡ b.place
      one_place = same_place a.place b.place (search (left, right))

      held : not_held f From ≡ not_held f To
      held = rw (d, e)

      wide : wrong_width f From ≡ wrong_width f To
      wide = rw (d, e, one_width)

  pub met-agree : Agree f From To
  unfolding meets
  met-agree = by_rows (row_at f From.kind From.address) (row_at f To.kind To.address) refl refl (search left)

-- the two roads agree: for each pair of the list, every file that is ready and every access
pub roads-agree : (half : Half) (p : Pair) → Memᴰ p (pairs half) → (f : File) → Ready f half p → (write : Bool) (width value : ℕ)
    → Agree f (record_by p.from write width value) (record_by p.to write width value)
roads-agree half p m f ready write width value =
    met-agree f p write width value ready.on (ready-meets half p m f ready write)
