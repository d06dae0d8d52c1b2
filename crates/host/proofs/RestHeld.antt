-- What a served access leaves in the rest is the file that it leaves. Assumes nothing.
use Prim.Native.Nat.{ℕ, suc, ◌+◌, ◌*◌, ◌%◌, ◌≤◌, ◌<◌}
use mathlib.Core.Path.{◌≡◌, ap, ◌∙◌}
use mathlib.Core.Bool.{cond, not, ◌&&◌}
use mathlib.Core.List.{List, [], ◌∷◌}
use native.Mathlib.Omega.{arith}
use lib.ListN.{length, get_or, set, take, drop, length-drop}
use lib.Seq.{sets, sets-eq, length-sets, drop-drop, get_or-take, get_or-drop, length-take-le}
use Rattle.bits.proofs.Test.{by-test}
use Rattle.file.specs.declared.palette.Colour.{Colour}
use Rattle.file.specs.declared.state.State.{State}
use Rattle.file.specs.File.{black, bank_count}
use Rattle.trace.specs.declared.running.Served.{Served}
use Rattle.trace.proofs.RunLoop.{together}
use Rattle.image.specs.Bytes.{colour_bytes, colours_in}
use Rattle.image.specs.Parts.{palette_at, bank_at, rest_count, state_bytes, held_in}
use Rattle.image.proofs.SavedLoads.{state-back}
use Rattle.host.specs.Left.{colour_at, rest_left}
use Rattle.host.proofs.Painted.{drop-sets-add, drop-sets-below, take-sets-above, take-sets, coloured, entry-bytes}

-- the colours of a rest
abbrev pub palette_of : List ℕ → List Colour
palette_of rest = colours_in (take 768 (drop palette_at rest))

abbrev pub bank_of : List ℕ → List Colour
bank_of rest = colours_in (take 48 (drop bank_at rest))

-- a state stored in the first ten bytes
pub held_with : (registers rest : List ℕ) (s : State) → 10 ≤ length rest → held_in registers (sets rest 0 (state_bytes s)) ≡ together registers (palette_of rest) (bank_of rest) s
unfolding held_in state_bytes
held_with registers rest s h =
    ap (held_in registers) (sets-eq (state_bytes s) rest 0 h)
    ∙ (λ i. together registers (palette_of rest) (colours_in (take 48 (drop-drop 768 10 rest i))) (state-back s (drop 10 rest) i))

module _ (rest : List ℕ) (long : length rest ≡ rest_count) where
  part : List ℕ
  part = drop palette_at rest

  part-long : length (drop 10 rest) ≡ 816
  part-long = length-drop 10 rest ∙ omega (arith, long)

  palette-long : length (take 768 (drop 10 rest)) ≡ 768
  palette-long = length-take-le 768 (drop 10 rest) (omega (arith, part-long))

  bank-long : length (take 48 (drop 778 rest)) ≡ 48
  bank-long = length-take-le 48 (drop 778 rest) (simp length-drop (omega (arith, long)))

  module _ (n : ℕ) (c : Colour) where
    -- an entry of the palette painted
    palette-painted : n < 256 → palette_of (sets rest (palette_at + 3 * n) (colour_bytes (c ∷ []))) ≡ set (palette_of rest) n c
    unfolding colour_bytes
    palette-painted h =
        ap (λ (l : List ℕ). colours_in (take 768 l)) (drop-sets-add 10 (3 * n) rest (colour_bytes (c ∷ [])))
        ∙ ap colours_in (take-sets 768 (3 * n) (drop 10 rest) (colour_bytes (c ∷ [])) (omega (arith, h)))
        ∙ coloured (take 768 (drop 10 rest)) n c (omega (arith, h, palette-long))

    bank-unpainted : n < 256 → bank_of (sets rest (palette_at + 3 * n) (colour_bytes (c ∷ []))) ≡ bank_of rest
    unfolding colour_bytes
    bank-unpainted h = ap (λ (l : List ℕ). colours_in (take 48 l)) (drop-sets-below 778 (10 + 3 * n) rest (colour_bytes (c ∷ [])) (omega (arith, h)))

    -- an entry of the bank painted
    bank-painted : n < 16 → bank_of (sets rest (bank_at + 3 * n) (colour_bytes (c ∷ []))) ≡ set (bank_of rest) n c
    unfolding colour_bytes
    bank-painted h =
        ap (λ (l : List ℕ). colours_in (take 48 l)) (drop-sets-add 778 (3 * n) rest (colour_bytes (c ∷ [])))
        ∙ ap colours_in (take-sets 48 (3 * n) (drop 778 rest) (colour_bytes (c ∷ [])) (omega (arith, h)))
        ∙ coloured (take 48 (drop 778 rest)) n c (omega (arith, h, bank-long))

    palette-unpainted : n < 16 → palette_of (sets rest (bank_at + 3 * n) (colour_bytes (c ∷ []))) ≡ palette_of rest
    palette-unpainted h =
        let at : 778 + 3 * n ≡ 10 + (768 + 3 * n) = omega arith in
        ap (λ (k : ℕ). palette_of (sets rest k (colour_bytes (c ∷ [])))) at
        ∙ ap (λ (l : List ℕ). colours_in (take 768 l)) (drop-sets-add 10 (768 + 3 * n) rest (colour_bytes (c ∷ [])))
        ∙ ap colours_in (take-sets-above 768 (768 + 3 * n) (drop 10 rest) (colour_bytes (c ∷ [])) (omega arith))

  -- the file that a served access leaves, as the run's loop has it
  pub rest-held : (registers : List ℕ) (stood : State) (s : Served) → stood.pointer.address < 256
      → held_in registers (rest_left stood s rest)
      ≡ together registers (cond (s.paints && not s.bank) (set (palette_of rest) stood.pointer.address s.colour) (palette_of rest))
      (cond (s.paints && s.bank) (set (bank_of rest) (stood.pointer.address % bank_count) s.colour) (bank_of rest)) s.state
  unfolding rest_left
  rest-held registers stood s h =
      by-test s.paints
      (λ p. by-test s.bank
      (λ b. rw (p, b)
      (held_with registers _ s.state (simp length-sets (omega (arith, long)))
      ∙ (λ i. together registers (palette-unpainted (stood.pointer.address % bank_count) s.colour (omega arith) i) (bank-painted (stood.pointer.address % bank_count) s.colour (omega arith) i) s.state)))
      (λ b. rw (p, b)
      (held_with registers _ s.state (simp length-sets (omega (arith, long)))
      ∙ (λ i. together registers (palette-painted stood.pointer.address s.colour h i) (bank-unpainted stood.pointer.address s.colour h i) s.state))))
      (λ p. rw p (held_with registers rest s.state (omega (arith, long))))

  -- the entries that the pointer names
  pub palette-entry : (n : ℕ) → n < 256 → get_or (palette_of rest) n black ≡ colour_at rest (palette_at + 3 * n)
  unfolding colour_at
  palette-entry n h =
      entry-bytes (take 768 (drop 10 rest)) n (omega (arith, h, palette-long))
      ∙ (λ i. record { red = byte (3 * n) (10 + 3 * n) (omega (arith, h)) (omega arith) i; green = byte (suc (3 * n)) (10 + 3 * n + 1) (omega (arith, h)) (omega arith) i; blue = byte (suc (suc (3 * n))) (10 + 3 * n + 2) (omega (arith, h)) (omega arith) i })
    where
      byte : (k at : ℕ) → k < 768 → 10 + k ≡ at → get_or (take 768 (drop 10 rest)) k 0 ≡ get_or rest at 0
      byte k at within e = get_or-take 768 (drop 10 rest) k 0 within ∙ get_or-drop 10 rest k 0 ∙ ap (λ (j : ℕ). get_or rest j 0) e

  pub bank-entry : (n : ℕ) → n < 16 → get_or (bank_of rest) n black ≡ colour_at rest (bank_at + 3 * n)
  unfolding colour_at
  bank-entry n h =
      entry-bytes (take 48 (drop 778 rest)) n (omega (arith, h, bank-long))
      ∙ (λ i. record { red = byte (3 * n) (778 + 3 * n) (omega (arith, h)) (omega arith) i; green = byte (suc (3 * n)) (778 + 3 * n + 1) (omega (arith, h)) (omega arith) i; blue = byte (suc (suc (3 * n))) (778 + 3 * n + 2) (omega (arith, h)) (omega arith) i })
    where
      byte : (k at : ℕ) → k < 48 → 778 + k ≡ at → get_or (take 48 (drop 778 rest)) k 0 ≡ get_or rest at 0
      byte k at within e = get_or-take 48 (drop 778 rest) k 0 within ∙ get_or-drop 778 rest k 0 ∙ ap (λ (j : ℕ). get_or rest j 0) e
