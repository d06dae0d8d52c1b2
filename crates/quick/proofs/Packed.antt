-- The parts of a number that says what is painted. Assumes nothing.
use Prim.Native.Nat.{ℕ, ◌+◌, ◌*◌, ◌/◌, ◌%◌, ◌<◌, ◌≤◌}
use mathlib.Core.Path.{◌≡◌, ◌∙◌}
use mathlib.Core.Bool.{Bool, true, false, cond}
use native.Mathlib.Omega.{arith}
use Rattle.file.specs.declared.palette.Colour.{Colour}
use Rattle.quick.specs.Said.{plain_said, code_in, value_in, mark_in, colour_in, address_in}

pub packed : (bank : Bool) (colour : Colour) (address mark : ℕ) → mark ≡ cond bank 3 2 → colour.red < 256 → colour.green < 256 → colour.blue < 256 → address < 256
    → let said = 16777216 * mark + (4294967296 * colour.red + 1099511627776 * colour.green + 281474976710656 * colour.blue) + 72057594037927936 * address in
    (code_in said ≡ 0) × (value_in said ≡ 0) × (mark_in said ≡ cond bank 3 2) × (address_in said ≡ address) × (colour_in said ≡ colour) × (plain_said ≤ said)
unfolding code_in value_in mark_in colour_in address_in
packed bank colour address mark m r g b a =
    (omega arith, omega arith, small mark (low bank mark m) ∙ m, omega (arith, low bank mark m), (λ i. record { red = reds i; green = greens i; blue = blues i }), omega (arith, low bank mark m))
  where
    low : (bank : Bool) (mark : ℕ) → mark ≡ cond bank 3 2 → (2 ≤ mark) × (mark ≤ 3)
    low true mark e = (omega (arith, e), omega (arith, e))
    low false mark e = (omega (arith, e), omega (arith, e))

    small : (mark : ℕ) → (2 ≤ mark) × (mark ≤ 3) → (16777216 * mark + (4294967296 * colour.red + 1099511627776 * colour.green + 281474976710656 * colour.blue) + 72057594037927936 * address) / 16777216 % 256 ≡ mark
    small mark l = omega (arith, l)

    reds : (16777216 * mark + (4294967296 * colour.red + 1099511627776 * colour.green + 281474976710656 * colour.blue) + 72057594037927936 * address) / 4294967296 % 256 ≡ colour.red
    reds = omega (arith, low bank mark m)

    greens : (16777216 * mark + (4294967296 * colour.red + 1099511627776 * colour.green + 281474976710656 * colour.blue) + 72057594037927936 * address) / 1099511627776 % 256 ≡ colour.green
    greens = omega (arith, low bank mark m)

    blues : (16777216 * mark + (4294967296 * colour.red + 1099511627776 * colour.green + 281474976710656 * colour.blue) + 72057594037927936 * address) / 281474976710656 % 256 ≡ colour.blue
    blues = omega (arith, low bank mark m)
