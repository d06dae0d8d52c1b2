-- `timing::table::are_in_range` meets its contract: a call for each row of 01's table. Assumes nothing.
use mathlib.Core.Path.{refl, ap, ◌∙◌}
use mathlib.Core.Bool.{Bool, true}
use mathlib.Core.List.{List, [], ◌∷◌}
use lib.ListN.{get_or}
use Rattle.bits.specs.Encoded.{piece_of, meaning_of}
use Rattle.bits.specs.Numbers.{Number, in_range, all_in_range}
use Rattle.bits.specs.Pieces.{width}
use Rattle.bits.proofs.Steps.{all_so_far, Ranged, ranged-from}
use Rattle.timing.specs.Table.{table}
use Rattle.timing.proofs.table.are_in_range.Goals as goal

pub returns : goal.returns
unfolding all_in_range table piece_of meaning_of Ranged all_so_far
returns g c =
    let goods : List Bool = c.in_range.result ∷ c.in_range-2.result ∷ c.in_range-3.result ∷ c.in_range-4.result ∷ c.in_range-5.result ∷ c.in_range-6.result ∷ c.in_range-7.result ∷ c.in_range-8.result ∷ c.in_range-9.result ∷ c.in_range-10.result ∷ c.in_range-11.result ∷ c.in_range-12.result ∷ c.in_range-13.result ∷ c.in_range-14.result ∷ c.in_range-15.result ∷ [] in
    ranged-from true 0 0 (table _) c.args.numbers.now goods c.told-numbers (
      c.in_range.ensures,
      (
        c.in_range-2.ensures,
        (
          c.in_range-3.ensures,
          (
            c.in_range-4.ensures ∙ ap (λ (n : Number). in_range n.meaning (width n.pieces) (get_or c.args.numbers.now 2 0) (get_or c.args.numbers.now 3 0)) c.h_blank_end.ensures,
            (
              c.in_range-5.ensures,
              (
                c.in_range-6.ensures,
                (
                  c.in_range-7.ensures,
                  (
                    c.in_range-8.ensures,
                    (
                      c.in_range-9.ensures,
                      (
                        c.in_range-10.ensures ∙ ap (λ (n : Number). in_range n.meaning (width n.pieces) (get_or c.args.numbers.now 8 0) (get_or c.args.numbers.now 9 0)) c.v_blank_end.ensures,
                        (
                          c.in_range-11.ensures,
                          (
                            c.in_range-12.ensures,
                            (
                              c.in_range-13.ensures,
                              (
                                c.in_range-14.ensures,
                                (
                                  c.in_range-15.ensures,
                                  refl,
                                ),
                              ),
                            ),
                          ),
                        ),
                      ),
                    ),
                  ),
                ),
              ),
            ),
          ),
        ),
      ),
    )
