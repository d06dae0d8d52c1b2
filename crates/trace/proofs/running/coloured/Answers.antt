-- `coloured` meets its contract: what is less than `PLAIN` says nothing to the colours. Assumes nothing.
use Prim.Native.Nat.{ℕ, ◌%◌}
use mathlib.Core.Path.{◌≡◌, refl, sym, ap, ◌∙◌}
use mathlib.Core.Bool.{cond, true}
use lib.ListN.{get_or}
use Rattle.file.specs.File.{black, bank_count}
use Rattle.file.specs.Palette.{component}
use Rattle.quick.specs.Said.{pixel_in}
use Rattle.quick.proofs.Parts.{plain-pixel, plain-paints}
use Rattle.trace.proofs.RunLoop.{pixel-paints}
use Rattle.trace.proofs.running.coloured.Goals as goal

pub returns-then-said-lt-PLAIN : goal.returns-then-said-lt-PLAIN
returns-then-said-lt-PLAIN c =
    let plain = c.if-said-lt-PLAIN.true in
    record {
      shown = rw (plain-pixel c.args.said plain) c.value_in.ensures;
      entries = rw (plain-paints c.args.said plain) refl;
      borders = rw (plain-paints c.args.said plain) refl;
    }

pub returns-then-is_pixel : goal.returns-then-is_pixel
unfolding black
returns-then-is_pixel c =
    let pixel : pixel_in c.args.said ≡ true = sym c.is_pixel.ensures ∙ c.if-is_pixel.true in
    record {
      shown =
          rw pixel
          (c.component_of.ensures
          ∙ (λ i. component
          (cond (c.is_in_bank.ensures i)
          (get_or c.args.bank.now ((c.bank_at-in_bank.ensures.0 ∙ ap (λ (n : ℕ). n % bank_count) c.address_in-2.ensures) i) black)
          (get_or c.args.palette.now ((c.palette_at-in_palette.ensures.0 ∙ c.address_in.ensures) i) black))
          (c.next_in.ensures i)));
      entries = rw (pixel-paints c.args.said pixel) refl;
      borders = rw (pixel-paints c.args.said pixel) refl;
    }
