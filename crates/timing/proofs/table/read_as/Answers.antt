-- `timing::table::read_as` meets its contract: a call for each row of 01's table. Assumes nothing.
use Prim.Native.Nat.{ℕ}
use mathlib.Core.Path.{refl, ap, ◌∙◌}
use mathlib.Core.List.{List, [], ◌∷◌}
use Rattle.bits.specs.Encoded.{piece_of, meaning_of}
use Rattle.bits.specs.Numbers.{Number}
use Rattle.bits.specs.Words.{word}
use Rattle.bits.proofs.Steps.{Reads, reads-words}
use Rattle.timing.specs.Table.{table}
use Rattle.timing.proofs.Computed.{words-read}
use Rattle.timing.proofs.table.read_as.Goals as goal

pub returns : goal.returns
unfolding table piece_of meaning_of Reads
returns g c =
    let numbers : List ℕ = c.read-h_total.result ∷ c.read-h_display.result ∷ c.read-h_blank_start.result ∷ c.read-h_blank_end.result ∷ c.read-h_sync_start.result ∷ c.read-h_sync_end.result ∷ c.read-v_total.result ∷ c.read-v_display.result ∷ c.read-v_blank_start.result ∷ c.read-v_blank_end.result ∷ c.read-v_sync_start.result ∷ c.read-v_sync_end.result ∷ c.read-line_compare.result ∷ c.read-offset.result ∷ c.read-screen_start.result ∷ [] in
    reads-words 0 (table _) c.args.registers.now numbers (
      c.read-h_total.ensures,
      (
        c.read-h_display.ensures,
        (
          c.read-h_blank_start.ensures,
          (
            c.read-h_blank_end.ensures ∙ ap (λ (n : Number). word c.read-h_blank_start.result n c.args.registers.now) c.h_blank_end.ensures,
            (
              c.read-h_sync_start.ensures,
              (
                c.read-h_sync_end.ensures,
                (
                  c.read-v_total.ensures,
                  (
                    c.read-v_display.ensures,
                    (
                      c.read-v_blank_start.ensures,
                      (
                        c.read-v_blank_end.ensures ∙ ap (λ (n : Number). word c.read-v_blank_start.result n c.args.registers.now) c.v_blank_end.ensures,
                        (
                          c.read-v_sync_start.ensures,
                          (
                            c.read-v_sync_end.ensures,
                            (
                              c.read-line_compare.ensures,
                              (
                                c.read-offset.ensures,
                                (
                                  c.read-screen_start.ensures,
                                  refl,
                                ),
                              ),
                            ),
                          ),
                        ),
                      ),
                    ),
                  ),
                ),
              ),
            ),
          ),
        ),
      ),
    )
    ∙ words-read _ c.args.registers.now numbers refl
