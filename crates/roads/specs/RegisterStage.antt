-- The stage of registers, over any list of roads: where it runs, and what it leaves.
-- Assumes nothing.
use Rattle.std.specs.Prelude.{ℕ, ◌≡◌, Bool, true, false, cond, not, ◌&&◌, ◌||◌, List, [], ◌∷◌, T, eqb, get_or, set}
use Rattle.bits.specs.Store.{within}
use Rattle.places.specs.Lookup.{is_one_of}
use Rattle.file.specs.declared.chip.Chip.{Chip}
use Rattle.file.specs.declared.chip.Chip.TheVariants.{Gd5462, Gd5464}
use Rattle.file.specs.declared.registers.File.{File}
use Rattle.file.specs.File.{register, with_registers, with_state}
use Rattle.file.specs.State.{flipped}
use Rattle.file.specs.Names.{MISC, SRX, GRX, ARX, PCI04, CR11}
use Rattle.file.specs.Registers.{register_count, stored_bits}
use Rattle.file.specs.Sound.{sound}
use Rattle.places.specs.Places.{Index, any, sr, cr, gr, ar, index_due, data_due}
use Rattle.roads.specs.Roads.{Road}
use Rattle.roads.specs.RoadRecords.{along}
use Rattle.roads.specs.Plan.{open_spaces, open_lock}
use Rattle.roads.specs.Restores.{RunsInto}

-- ---- where it runs

-- PCI04 as a plan opens it
unfoldable pub SpacesOn : File → Type 0
SpacesOn f = register f PCI04 ≡ open_spaces

-- sound, both spaces on, unlocked, MISC as wanted
pub record Ready (w : List ℕ) (f : File) : Type 0 where
  pub is_sound : T (sound f)
  pub on : SpacesOn f
  pub unlocked : register f CR11 ≡ open_lock
  pub misc : register f MISC ≡ get_or w MISC 0

-- a register that a ready file is not known by
unfoldable pub loose : ℕ → Bool
loose number = not (is_one_of (PCI04 ∷ CR11 ∷ MISC ∷ []) number)

-- a test that passes on both chips
unfoldable pub on_both : (Chip → Bool) → Bool
on_both test = test Gd5462 && test Gd5464

-- a number that a register stores on both chips
unfoldable pub stores : ℕ → ℕ → Bool
unfolding on_both
stores number n = on_both (λ (chip : Chip). within (stored_bits chip number) n)

-- an index that a plan selects, or none
unfoldable pub selectable : Index → Bool
selectable any = true
selectable (sr n) = stores SRX n
selectable (cr n) = false
selectable (gr n) = stores GRX n
selectable (ar n) = false
selectable index_due = false
selectable (data_due n) = stores ARX n

-- a road that a ready file may go
unfoldable pub passable : Road → Bool
passable road = selectable road.index && loose road.register

-- a test passes at every road
unfoldable pub every_road : (Road → Bool) → List Road → Bool
every_road test [] = true
every_road test (r ∷ rs) = test r && every_road test rs

-- ---- what it leaves

-- a file with one register anew
unfoldable pub with_register : ℕ → ℕ → File → File
with_register number value f = with_registers (set f.registers number value) f

-- an access with that index flips the toggle
unfoldable pub index_flips : Index → Bool
index_flips any = false
index_flips (sr n) = false
index_flips (cr n) = false
index_flips (gr n) = false
index_flips (ar n) = false
index_flips index_due = true
index_flips (data_due n) = true

-- the file with its toggle flipped, where it flips
unfoldable pub with_flip : Bool → File → File
unfolding with_state flipped
with_flip flip f = with_state (flipped flip f.state) f

-- the registers with an index selected
unfoldable pub after_selecting : Index → List ℕ → List ℕ
after_selecting any registers = registers
after_selecting (sr n) registers = set registers SRX n
after_selecting (cr n) registers = registers
after_selecting (gr n) registers = set registers GRX n
after_selecting (ar n) registers = registers
after_selecting index_due registers = registers
after_selecting (data_due n) registers = set registers ARX n

-- the file with it selected: data is due after a 3C0h write
unfoldable pub selected : Index → File → File
selected i f = with_flip (index_flips i) (with_registers (after_selecting i f.registers) f)

-- the registers after some roads
unfoldable pub after_roads : List ℕ → List Road → List ℕ → List ℕ
after_roads w [] registers = registers
after_roads w (road ∷ roads) registers =
    after_roads w roads (set (after_selecting road.index registers) road.register (get_or w road.register 0))

-- the file after them: all else is as before
unfoldable pub brought : List ℕ → List Road → File → File
brought w roads f = with_registers (after_roads w roads f.registers) f

-- what a list of roads does
pub record Brings (w : List ℕ) (f : File) (roads : List Road) : Type 0 where
  pub runs : RunsInto f (along w roads) (brought w roads f)
  pub ready : Ready w (brought w roads f)

-- ---- in each register

-- the index register that selecting moves; the number that none has where there is none
unfoldable pub moves : Index → ℕ
moves any = register_count
moves (sr n) = SRX
moves (cr n) = register_count
moves (gr n) = GRX
moves (ar n) = register_count
moves index_due = register_count
moves (data_due n) = ARX

-- whether a register holds its wanted value after some roads, if it did or did not before
unfoldable pub ends_wanted : List Road → ℕ → Bool → Bool
ends_wanted [] n held = held
ends_wanted (road ∷ roads) n held = ends_wanted roads n (eqb road.register n || held && not (eqb (moves road.index) n))

-- a register that some roads neither name nor move
unfoldable pub leaves_alone : List Road → ℕ → Bool
leaves_alone [] n = true
leaves_alone (road ∷ roads) n = not (eqb road.register n) && not (eqb (moves road.index) n) && leaves_alone roads n
