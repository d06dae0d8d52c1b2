-- `agrees_outside` meets its contract. Assumes nothing.
use lib.Dec.{eqb}
use Rattle.file.proofs.Typed.{registers-count, palette-count, bank-count}
use Rattle.file.specs.File.{black}
use Rattle.touched.specs.Outside.{same_colour, register_agrees, palette_agrees, bank_agrees, agrees_outside}
use Rattle.touched.proofs.SetIsSet.{is-set}
use Rattle.touched.proofs.Turns.{agreed}
use Rattle.touched.proofs.outside.agrees_outside.Goals as goal

pub returns : goal.returns
unfolding agrees_outside register_agrees palette_agrees bank_agrees same_colour
returns c =
    let args = c.args in
    let set = is-set args.set _ c.well_formed.0 in
    let current = c.well_formed.1.0 in
    let saved = c.well_formed.1.1.0 in
    rw (
      agreed eqb 0 _ _ _ _ set.registers (registers-count args.current _ current) (registers-count args.saved _ saved) c.agree-registers.ensures,
      agreed same_colour black _ _ _ _ set.palette (palette-count args.current _ current) (palette-count args.saved _ saved) c.agree-palette.ensures,
      agreed same_colour black _ _ _ _ set.bank (bank-count args.current _ current) (bank-count args.saved _ saved) c.agree-bank.ensures,
      c.state_agrees.ensures,
    )
