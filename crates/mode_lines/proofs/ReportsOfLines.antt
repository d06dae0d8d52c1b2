-- Reports of lines, one behind the other. Assumes nothing.
use Prim.Native.Nat.{ℕ, suc, ◌+◌}
use mathlib.Core.List.{List, [], ◌∷◌, ◌++◌, append_assoc, append-nil}
use mathlib.Core.Path.{◌≡◌, sym, subst}
use native.Mathlib.Omega.{arith}
use lib.ListN.{length}
use Rattle.file.specs.declared.registers.File.{File}
use Rattle.mode_file.specs.declared.into.ReadLine.{ReadLine}
use Rattle.mode_file.specs.Into.{ReadInto}
use Rattle.mode_lines.specs.Parts.{Reports, none, then}
use Rattle.mode_lines.specs.Report.{report_line}

-- of some lines, and of more behind them
pub reports-then : {f : File} {number : ℕ} {a b : List (List ℕ)} {x y : List ℕ} → Reports f number a x → Reports f (number + length a) b y
    → Reports f number (a ++ b) (x ++ y)
reports-then {f} {number} {b} {y} none s =
    subst (λ (n : ℕ). Reports f n b y) (let z : number + 0 ≡ number = omega arith in z) s
reports-then {f} {number} {b} {y} (then {lines} {text} line read into r) s =
    subst (λ (t : List ℕ). Reports f number (line ∷ (lines ++ b)) t) (sym (append_assoc (report_line number read) text y))
    (then line read into
    (reports-then r (subst (λ (n : ℕ). Reports f n b y) (let z : number + suc (length lines) ≡ suc number + length lines = omega arith in z) s)))

-- one line more
pub reports-more : {f : File} {number : ℕ} {lines : List (List ℕ)} {text : List ℕ} (line : List ℕ) (read : ReadLine) → Reports f number lines text
    → ReadInto line f read → Reports f number (lines ++ line ∷ []) (text ++ report_line (number + length lines) read)
reports-more {f} {number} {lines} {text} line read r into =
    subst (λ (t : List ℕ). Reports f number (lines ++ line ∷ []) (text ++ t)) (append-nil (report_line (number + length lines) read))
    (reports-then r (then line read into none))
