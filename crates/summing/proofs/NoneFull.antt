-- No line of a summary drops a byte: with every token at its longest it ends before its last place. Assumes nothing.
use Prim.Native.Nat.{ℕ, ◌-◌, ◌^◌, ◌≤◌, ◌<◌}
use mathlib.Core.Bool.{not}
use mathlib.Core.List.{List, [], ◌∷◌}
use mathlib.Core.Path.{refl}
use native.Mathlib.Omega.{arith}
use borrow.Author.Tests.{ltb-false, ltb-true}
use lib.Dec.{T, eqb, ltb}
use Rattle.bits.specs.Every.{every_below}
use Rattle.bits.proofs.Test.{by-test}
use Rattle.file.specs.declared.registers.File.{File}
use Rattle.file.specs.Readers.{ascii}
use Rattle.file.specs.Sound.{sound}
use Rattle.access.specs.declared.record.Item.{Item}
use Rattle.trace.specs.Run.{file_after}
use Rattle.trace.proofs.RunMore.{run_sound}
use Rattle.explaining.specs.declared.token.Token.{Token}
use Rattle.access.specs.Access.{record_in}
use Rattle.explaining.specs.Explained.{bit_digits, case_of}
use Rattle.explaining.specs.Lines.{Line, hex_token, line_most, phrase, say, token_text, tokens_text, up_to_dot}
use Rattle.explaining.specs.Moves.{number_label}
use Rattle.explaining.specs.Words.{code_names, code_rows, code_word, code_words}
use Rattle.explaining.proofs.NothingDropped.{Ends, Total, Within, case-fits, decimal-within, either, eithers, ended, ends-changed, ends-column, ends-told, ends-up, few-digits, first_ends, hex-within, line-ends, lock-short, more, name-within, nothing_yet, number-ends, numbers-low, one-decimal, row_within, rows-within, spoken, up}
use Rattle.summing.specs.Closing.{code_line, codes_from, count_line, counted, numbers_from, register_line, summary_line, timing_line}
use Rattle.summing.specs.Together.{moved_at, moved_line, together_line}
use Rattle.summing.specs.Summed.{code_count, most_count, summed}
use Rattle.summing.proofs.SummedOneByOne.{codes-told, first-told, last-told, writes-told}

-- ---- the parts

count-total : (n : ℕ) (one many : Token) → n ≤ most_count → Within one 7 → Within many 7 → Total (counted n one many) 27
unfolding counted tokens_text token_text up_to_dot
count-total n one many h a b = more (decimal-within 19 n (omega (arith, h))) (more (either (eqb n 1) a b) (ended refl))

count-ends : {name often : List Token} → Total name 14 → Total often 27 → Ends (count_line name often) 43
unfolding count_line
count-ends name often = ends-column 32 (omega arith) (ends-told (ends-column 15 (omega arith) (ends-told nothing_yet name)) often)

reach-total : (word : Token) (bits n : ℕ) → Within word 6 → Total (phrase (word ∷ hex_token (bit_digits bits) n ∷ [])) 11
unfolding tokens_text token_text up_to_dot
reach-total word bits n a = more a (more (hex-within 5 (bit_digits bits) n (few-digits bits)) (ended refl))

code-within : (code : ℕ) → Within (code_word code) 24
unfolding code_word code_rows code_names every_below up_to_dot ascii
code-within code = rows-within code_rows tt code

code-total : (code : ℕ) → Total (code_words code) 36
unfolding code_words tokens_text token_text up_to_dot
code-total code = eithers (eqb code 8) lock-short (up 36 (omega arith) (more (code-within code) (ended refl)))

-- ---- the lines

register-ends : (number writes reach moved : ℕ) → writes ≤ most_count → Ends (register_line number writes reach moved) 80
unfolding register_line tokens_text token_text ascii up_to_dot
register-ends number writes reach moved h =
    line-ends (eqb writes 0) (ends-up 80 (omega arith) nothing_yet)
    (ends-up 80 (omega arith)
    (ends-told
    (ends-column 45 (omega arith)
    (ends-told
    (count-ends (up 14 (omega arith) (more (name-within number) (ended refl))) (count-total writes _ _ h (spoken 7 refl) (spoken 7 refl)))
    (reach-total (say "reach ") reach reach (spoken 6 refl))))
    (reach-total (say "moved ") reach moved (spoken 6 refl))))

code-ends : (code times : ℕ) → code < 100 → times ≤ most_count → Ends (code_line code times) 80
unfolding code_line tokens_text token_text ascii up_to_dot
code-ends code times small h =
    line-ends (eqb times 0) (ends-up 80 (omega arith) nothing_yet)
    (ends-up 80 (omega arith)
    (ends-told
    (count-ends (up 14 (omega arith) (more (spoken 5 refl) (more (decimal-within 1 code (omega (arith, small))) (ended refl)))) (count-total times _ _ h (spoken 7 refl) (spoken 7 refl)))
    (code-total code)))

label-total : (k : ℕ) → Total (number_label k) 25
unfolding number_label tokens_text token_text ascii up_to_dot
label-total k = more (row_within k) (more (spoken 1 refl) (ended refl))

timing-ends : (k first last : ℕ) → first < 2 ^ 32 → last < 2 ^ 32 → Ends (timing_line k first last) 80
unfolding timing_line
timing-ends k first last a b =
    ends-up 80 (omega arith)
    (ends-changed 14 (not (eqb first last)) (omega arith) (omega arith)
    (ends-column 15 (omega arith) (ends-told nothing_yet (label-total k)))
    (one-decimal 9 first (omega (arith, a))) (one-decimal 9 last (omega (arith, b))))

-- the summary of a trace, from a sound file on
pub none-full : (f : File) (items : List Item) → T (sound f) → (k : ℕ) → (summary_line (summed f items) k).end < line_most
unfolding summary_line
none-full f items s k =
    by-test (ltb k codes_from)
    (λ e. let h = ltb-true k codes_from e in
    rw e (low (register-ends k _ _ _ (omega (arith, writes-told f items k h)))))
    (λ e. by-test (ltb k numbers_from)
    (λ t. let small : k - codes_from < code_count = omega (arith, ltb-false k codes_from e, ltb-true k numbers_from t) in
    rw (e, t) (low (code-ends (k - codes_from) _ (omega (arith, small)) (omega (arith, codes-told f items (k - codes_from) small)))))
    (λ t. rw (e, t)
    (low
    (timing-ends (k - numbers_from) _ _ (rw (first-told f items) (numbers-low f s (k - numbers_from)))
    (rw (last-told f items) (numbers-low (file_after f items) (run_sound f items s) (k - numbers_from)))))))
  where
    low : {l : Line} → Ends l 80 → l.end < line_most
    low a = omega (arith, a.most)

-- the lines of a record in which numbers moved together, as of an explanation
pub none_dropped : (number : ℕ) (f : File) (item : Item) → number < 2 ^ 64 → T (sound f) → (record_in item).kind < 2 ^ 8 → (record_in item).width < 2 ^ 8
    → (record_in item).value < 2 ^ 32 → (k : ℕ) → (together_line (case_of number f item) k).end < line_most
unfolding together_line moved_line
none_dropped number f item low s kind width value k =
    let case = case_of number f item in
    let fits = case-fits number f item low s kind width value in
    let all = line-ends (eqb k 0) (first_ends case fits)
    (line-ends (moved_at case.old case.new (k - 1)) (number-ends case fits (k - 1)) (ends-up 157 (omega arith) nothing_yet)) in
    omega (arith, all.most)
