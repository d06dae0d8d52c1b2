-- `number::hex` meets its contract. Assumes nothing.
use Prim.Native.Nat.{ℕ, suc, ◌+◌, ◌/◌, ◌%◌}
use mathlib.Core.Path.{◌≡◌, refl}
use native.Mathlib.Omega.{arith}
use lib.ListN.{length-set}
use Rattle.text.specs.Text.{hex_four}
use Rattle.text.proofs.Capitals.{hex-digit}
use Rattle.text.proofs.number.hex.Goals as goal

pub bounds-buffer-at-2 : goal.bounds-buffer-at-2
bounds-buffer-at-2 c = simp length-set (omega arith)

pub bounds-buffer-at-3 : goal.bounds-buffer-at-3
bounds-buffer-at-3 c = simp length-set (omega arith)

pub bounds-buffer-at-4 : goal.bounds-buffer-at-4
bounds-buffer-at-4 c = simp length-set (omega arith)

pub returns : goal.returns
unfolding hex_four
returns c =
    let n : ℕ = c.args.n in
    let at : ℕ = c.args.at in
    let one : at + 1 ≡ suc at = omega arith in
    let two : at + 2 ≡ suc (suc at) = omega arith in
    let three : at + 3 ≡ suc (suc (suc at)) = omega arith in
    record {
      bytes = cc (hex-digit (n / 4096 % 16) (omega arith), hex-digit (n / 256 % 16) (omega arith), hex-digit (n / 16 % 16) (omega arith), hex-digit (n % 16) (omega arith), one, two, three);
      place = refl;
    }
