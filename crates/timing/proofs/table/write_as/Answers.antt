-- `timing::table::write_as` meets its contract: a call for each row of 01's table. Assumes nothing.
use Prim.Native.Nat.{ℕ}
use mathlib.Core.Path.{refl, ap, ◌∙◌}
use mathlib.Core.List.{List, [], ◌∷◌}
use lib.ListN.{get_or}
use Rattle.bits.specs.Encoded.{piece_of, meaning_of}
use Rattle.bits.specs.Numbers.{Number, stored_for}
use Rattle.bits.specs.Pieces.{scatter}
use Rattle.bits.proofs.Steps.{last_of, Writes, writes-numbers}
use Rattle.timing.specs.Table.{table}
use Rattle.timing.proofs.table.write_as.Goals as goal

pub returns : goal.returns
unfolding table piece_of meaning_of Writes last_of
returns g c =
    let after : List (List ℕ) = c.write.new.registers ∷ c.write-2.new.registers ∷ c.write-3.new.registers ∷ c.write-4.new.registers ∷ c.write-5.new.registers ∷ c.write-6.new.registers ∷ c.write-7.new.registers ∷ c.write-8.new.registers ∷ c.write-9.new.registers ∷ c.write-10.new.registers ∷ c.write-11.new.registers ∷ c.write-12.new.registers ∷ c.write-13.new.registers ∷ c.write-14.new.registers ∷ c.write-15.new.registers ∷ [] in
    writes-numbers 0 (table _) c.args.numbers.now c.args.registers.now after c.told-numbers (
      c.write.ensures,
      (
        c.write-2.ensures,
        (
          c.write-3.ensures,
          (
            c.write-4.ensures ∙ ap (λ (n : Number). scatter n.pieces (stored_for n.meaning (get_or c.args.numbers.now 3 0)) c.write-3.new.registers) c.h_blank_end.ensures,
            (
              c.write-5.ensures,
              (
                c.write-6.ensures,
                (
                  c.write-7.ensures,
                  (
                    c.write-8.ensures,
                    (
                      c.write-9.ensures,
                      (
                        c.write-10.ensures ∙ ap (λ (n : Number). scatter n.pieces (stored_for n.meaning (get_or c.args.numbers.now 9 0)) c.write-9.new.registers) c.v_blank_end.ensures,
                        (
                          c.write-11.ensures,
                          (
                            c.write-12.ensures,
                            (
                              c.write-13.ensures,
                              (
                                c.write-14.ensures,
                                (
                                  c.write-15.ensures,
                                  refl,
                                ),
                              ),
                            ),
                          ),
                        ),
                      ),
                    ),
                  ),
                ),
              ),
            ),
          ),
        ),
      ),
    )
