-- A record whose cell is known: the codes of its kind and address, and what a slot would say of it. Assumes nothing.
use Prim.Native.Nat.{ℕ, ◌+◌, ◌*◌, ◌/◌, ◌%◌, ◌<◌}
use mathlib.Core.Path.{◌≡◌, refl, sym, ap, ◌∙◌, subst}
use mathlib.Core.Bool.{Bool, true, false, cond}
use mathlib.Core.List.{List}
use native.Mathlib.Omega.{arith}
use borrow.Author.Tests.{lt-ltb, eq-eqb}
use lib.Dec.{eqb, ltb}
use lib.ListN.{get_or}
use Rattle.bits.proofs.Test.{by-test, passes}
use Rattle.file.specs.declared.chip.Chip.{Chip}
use Rattle.file.specs.declared.registers.File.{File}
use Rattle.file.specs.Names.{MISC, PCI04}
use Rattle.places.specs.EngineCells.{wider, cell_width, cell_in, cell_table}
use Rattle.quick.specs.Classes.{class_of, codes_of}
use Rattle.access.specs.declared.record.Record.{Record}
use Rattle.quick.specs.Slots.{by_the_key, limit_fits, slot_true}
use Rattle.trace.specs.declared.running.Served.{Served}
use Rattle.trace.specs.EngineServed.{Serves}
use Rattle.host.specs.Numbers.{record_in}
use Rattle.host.specs.Quick.{limit_of, Known}

-- ---- the codes of a kind and an address

module _ (registers : List ℕ) (kind address : ℕ) where
  abbrev Code : ℕ
  Code = get_or (codes_of registers) (class_of kind address % 8) 0

  abbrev Colour : Bool
  Colour = eqb (get_or registers MISC 0 % 2) 1

  pub code-port : eqb (kind / 2) 1 ≡ true
      → Code
      ≡ cond (eqb (get_or registers PCI04 0 % 2) 0) 3
      (cond (eqb (address / 16) 0x3B) (cond Colour 5 0) (cond (eqb (address / 16) 0x3D) (cond Colour 0 5) 0))
  unfolding codes_of class_of
  code-port e =
      rw e (by-test (eqb (address / 16) 0x3B) (λ p. rw p) (λ p. rw p (by-test (eqb (address / 16) 0x3D) (λ q. rw q) (λ q. rw q))))

  pub code-mmio : eqb (kind / 2) 1 ≡ false → eqb (kind / 2) 2 ≡ true → Code ≡ cond (eqb (get_or registers PCI04 0 / 2 % 2) 0) 3 0
  unfolding codes_of class_of
  code-mmio e f = rw (e, f)

  pub code-config : eqb (kind / 2) 1 ≡ false → eqb (kind / 2) 2 ≡ false → Code ≡ 0
  unfolding codes_of class_of
  code-config e f = rw (e, f)

-- ---- a slot that isn't there

module _ (chip : Chip) (key value cell : ℕ) (low : key % 256 < 6) (same : cell ≡ cell_in (cell_table chip) (key % 256) (key / 65536)) (narrow : cell % wider < 0x7C)
    (width : cell_width cell ≡ key / 256 % 256) (fits : value < limit_of (key % 256) (key / 256 % 256)) where
  abbrev Kind : ℕ
  Kind = key % 256

  abbrev Width : ℕ
  Width = key / 256 % 256

  fitting : limit_fits Kind Width (limit_of Kind Width) ≡ true
  unfolding limit_fits limit_of cell_width
  fitting =
      by-test (ltb cell wider)
      (λ e. let one : Width ≡ 1 = sym width ∙ rw e in rw one (by-test (eqb (Kind % 2) 1) (λ o. rw o) (λ o. rw o)))
      (λ e. let two : Width ≡ 2 = sym width ∙ rw e in rw two (by-test (eqb (Kind % 2) 1) (λ o. rw o) (λ o. rw o)))

  slot : slot_true (cell_table chip) key (limit_of Kind Width) (class_of Kind (key / 65536)) (cell % wider) ≡ true
  unfolding slot_true
  slot =
      rw (sym same, lt-ltb Kind 6 low, fitting, eq-eqb (class_of Kind (key / 65536)) (class_of Kind (key / 65536)) refl, lt-ltb (cell % wider) (0x7C + Kind % 2) (omega (arith, narrow)), eq-eqb (cell % wider) (cell % wider) refl, eq-eqb (cell_width cell) Width width)
      (by-test (eqb (limit_of Kind Width) 0) (λ e. rw e) (λ e. rw e))

  pub is_known : Known chip key value (cell % wider)
  is_known = record { slot = passes _ slot; fits = fits; low = narrow }

multiple : (a q : ℕ) → (a + 16777216 * q) % 256 ≡ a % 256
multiple a q = omega arith

small : (a q : ℕ) → a < 65536 → (a + 65536 * q) % 65536 ≡ a
small a q h = omega (arith, h)

-- the record of a host's number
pub by_key : (n : ℕ) → record_in n ≡ by_the_key (n % 4294967296) (n / 4294967296)
unfolding record_in by_the_key
by_key n =
    let kind : n % 256 ≡ n % 4294967296 % 256 = omega arith in
    let above : n / 256 ≡ n % 4294967296 / 256 + 16777216 * (n / 4294967296) = omega arith in
    let width : n / 256 % 256 ≡ n % 4294967296 / 256 % 256 = ap (λ (k : ℕ). k % 256) above ∙ multiple (n % 4294967296 / 256) (n / 4294967296) in
    let over : n / 65536 ≡ n % 4294967296 / 65536 + 65536 * (n / 4294967296) = omega arith in
    let address : n / 65536 % 65536 ≡ n % 4294967296 / 65536 = ap (λ (k : ℕ). k % 65536) over ∙ small (n % 4294967296 / 65536) (n / 4294967296) (omega arith) in
    λ i. record { kind = kind i; width = width i; address = address i; value = n / 4294967296 }

-- what equals what was served was served
pub served-as : {f : File} {asked : Record} {after : List ℕ} {s t : Served} → s ≡ t → Serves f asked after t → Serves f asked after s
served-as {f = f} {asked = asked} {after = after} e served = subst (λ (x : Served). Serves f asked after x) (sym e) served
