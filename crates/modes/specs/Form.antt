-- 02, 4/13: what a good line is: the parts that it is made of, and the text that they spell.
-- Assumes nothing.
use Rattle.std.specs.Prelude.{ℕ, ◌+◌, ◌-◌, ◌*◌, ◌^◌, ◌≤◌, Bool, true, false, cond, not, ◌&&◌, ◌||◌, List, [], ◌∷◌, ◌++◌, map, ◌≡◌, T, eqb, leb, length}
use Rattle.std.specs.List.{list_all}
use Rattle.file.specs.Readers.{ascii}
use Rattle.modes.specs.declared.mode.Mode.{Mode}
-- 'Allow +hsync, -hsync, +vsync, -vsync'
pub use Rattle.modes.specs.declared.mode.Axis.{Axis}
pub use Rattle.modes.specs.declared.mode.Axis.TheVariants.{Horizontal, Vertical}

pub record Flag : Type 0 where
  pub axis : Axis
  pub minus : Bool

-- the parts of a line: the name, the clock's digits before and behind the point, the numbers' digits, the flags
pub record Parts : Type 0 where
  pub name : List ℕ
  pub whole : List ℕ
  pub decimals : List ℕ
  pub numbers : List (List ℕ)
  pub flags : List Flag

-- each element of a list passes a test
unfoldable pub every : {A : Type 0} → (A → Bool) → List A → Bool
every test xs = list_all test xs

-- 'bytes 20h to 7Eh, no quote'
unfoldable pub name_byte : ℕ → Bool
name_byte b = leb 0x20 b && leb b 0x7E && not (eqb b 0x22)

unfoldable pub digit : ℕ → Bool
digit b = leb 0x30 b && leb b 0x39

-- digits, one at least, 'no leading zero but 0 itself'
unfoldable pub numeral : List ℕ → Bool
numeral [] = false
numeral (b ∷ t) = digit b && every digit t && (not (eqb b 0x30) || eqb (length t) 0)

-- the number that digits spell, the first of them the highest; `v` is what the digits before them spell
unfoldable pub value_from : ℕ → List ℕ → ℕ
value_from v [] = v
value_from v (b ∷ t) = value_from (10 * v + (b - 0x30)) t

unfoldable pub value_of : List ℕ → ℕ
value_of t = value_from 0 t

-- 'the clock in MHz', 'kept as whole kilohertz'
unfoldable pub kilohertz : List ℕ → List ℕ → ℕ
kilohertz whole decimals = value_of (whole ++ decimals) * 10 ^ (3 - length decimals)

unfoldable pub other_axis : Axis → Axis
other_axis Horizontal = Vertical
other_axis Vertical = Horizontal

unfoldable pub same_axis : Axis → Axis → Bool
same_axis Horizontal Horizontal = true
same_axis Horizontal Vertical = false
same_axis Vertical Horizontal = false
same_axis Vertical Vertical = true

-- 'each axis at most once': of two axes, so at most two flags
unfoldable pub each_once : List Flag → Bool
each_once [] = true
each_once (f ∷ []) = true
each_once (f ∷ g ∷ []) = not (same_axis f.axis g.axis)
each_once (f ∷ g ∷ h ∷ fs) = false

-- the parts are of 02's form
pub record Formed (p : Parts) : Type 0 where
  -- '1 to 32 bytes 20h to 7Eh, no quote'
  pub named : T (every name_byte p.name)
  pub name-least : 1 ≤ length p.name
  pub name-most : length p.name ≤ 32
  -- 'no point, or one and one to three decimals, no needless leading zero'
  pub whole : T (numeral p.whole)
  pub decimals : T (every digit p.decimals)
  pub decimals-most : length p.decimals ≤ 3
  -- 'whole kilohertz, 1 to 999,999'
  pub clock-least : 1 ≤ kilohertz p.whole p.decimals
  pub clock-most : kilohertz p.whole p.decimals ≤ 999999
  -- 'four horizontal and four vertical numbers', 'numbers of 1 to 5 digits, no leading zero but 0 itself'
  pub count : length p.numbers ≡ 8
  pub numbers : T (every (λ (n : List ℕ). numeral n && leb (length n) 5) p.numbers)
  pub flags : T (each_once p.flags)

-- 'The clock has no point, or one and one to three decimals': a point only before decimals
unfoldable pub clock_text : List ℕ → List ℕ → List ℕ
clock_text whole [] = whole
clock_text whole (d ∷ ds) = whole ++ 0x2E ∷ d ∷ ds

-- 'one space between'
unfoldable pub numbers_text : List (List ℕ) → List ℕ
numbers_text [] = []
numbers_text (n ∷ ns) = 0x20 ∷ n ++ numbers_text ns

unfoldable pub sign : Bool → ℕ
sign minus = cond minus 0x2D 0x2B

unfoldable pub letter : Axis → ℕ
letter Horizontal = 0x68
letter Vertical = 0x76

unfoldable pub flag_text : Flag → List ℕ
unfolding sign letter ascii
flag_text f = sign f.minus ∷ letter f.axis ∷ ascii "sync"

unfoldable pub flags_text : List Flag → List ℕ
flags_text [] = []
flags_text (f ∷ fs) = 0x20 ∷ flag_text f ++ flags_text fs

-- 'the word Modeline', a space and the quote before the name
unfoldable pub header : List ℕ
unfolding ascii
header = ascii "Modeline " ++ 0x22 ∷ []

-- 'A line, with no line end, is the word Modeline, the quoted name .., the clock in MHz, numbers .., then flags, one space between'
unfoldable pub spelled : Parts → List ℕ
spelled p =
    header ++ (p.name ++ 0x22 ∷ 0x20 ∷ clock_text p.whole p.decimals ++ (numbers_text p.numbers ++ flags_text p.flags))

-- 'absent means minus'
unfoldable pub minus_of : Axis → List Flag → Bool
minus_of axis [] = true
minus_of axis (f ∷ fs) = cond (same_axis axis f.axis) f.minus (minus_of axis fs)

-- what the parts say
unfoldable pub mode_of : Parts → Mode
mode_of p =
    record {
      name = length p.name;
      khz = kilohertz p.whole p.decimals;
      numbers = map value_of p.numbers;
      h_minus = minus_of Horizontal p.flags;
      v_minus = minus_of Vertical p.flags;
    }

-- a good line, and what it says
pub record Good (line : List ℕ) (mode : Mode) : Type 0 where
  pub parts : Parts
  pub formed : Formed parts
  pub text : line ≡ spelled parts
  pub says : mode ≡ mode_of parts
